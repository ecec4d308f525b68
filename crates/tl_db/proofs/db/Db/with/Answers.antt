use Rattle.std.proofs.Common.{refl, ◌∙◌}
use Rattle.tl_db.proofs.DbLemmas.{name}
use Rattle.tl_db.proofs.FindLemmas.{replaced, put_in}
use Rattle.tl_db.proofs.db.Db.with.Goals as goal

pub invariant_of-self : goal.invariant_of-self
invariant_of-self c =
    (replaced name c.args.object c.key.result.now c.self.inside.objects.items c.as_slice.result.now _ c.in-Some.at
    c.as_slice.ensures.value c.key.ensures c.self.invariant c.in-Some.ensures.0 c.in-Some.ensures.1 refl).rising

pub returns-in-Some-clause-ok : goal.returns-in-Some-clause-ok
returns-in-Some-clause-ok c =
    rw (← c.self.view_is) ((replaced name c.args.object c.key.result.now c.self.inside.objects.items c.as_slice.result.now _ c.in-Some.at
    c.as_slice.ensures.value c.key.ensures c.self.invariant c.in-Some.ensures.0 c.in-Some.ensures.1 refl).same)

pub returns-in-None-clause-ok : goal.returns-in-None-clause-ok
returns-in-None-clause-ok c =
    put_in name c.args.object c.key.result.now c.args.self.now c.as_slice.result.now c.add.result c.add.new.self
    (c.as_slice.ensures.value ∙ c.self.view_is) c.key.ensures c.in-None.ensures c.add.ensures.ok
