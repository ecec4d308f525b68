use Rattle.std.proofs.Common.{ap, refl, ◌∙◌}
use Rattle.tl_db.specs.Entries.{entry_of}
use Rattle.tl_db.proofs.DbLemmas.{name}
use Rattle.tl_db.proofs.FindLemmas.{found, missing}
use Rattle.tl_db.proofs.db.Db.entry.Goals as goal

pub returns-in-Some : goal.returns-in-Some
returns-in-Some c =
    found name c.args.name.now c.args.name.now c.self.inside.objects.items c.as_slice.result.now c.in-Some.at c.index.result.now c.as_slice.ensures.value refl c.self.invariant
    c.in-Some.ensures.0 c.in-Some.ensures.1 c.index.ensures
    ∙ ap (entry_of c.args.name.now) c.self.view_is

pub returns-in-None : goal.returns-in-None
returns-in-None c =
    missing name c.args.name.now c.args.name.now c.self.inside.objects.items c.as_slice.result.now c.as_slice.ensures.value refl c.in-None.ensures
    ∙ ap (entry_of c.args.name.now) c.self.view_is
