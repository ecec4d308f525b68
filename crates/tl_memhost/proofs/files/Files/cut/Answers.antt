use Rattle.std.proofs.Common.{◌≡◌, ◌∙◌, ℕ, sym, ap, subst, List, Option, Some, None}
use Rattle.std.specs.BTreeMap.{BTreeMap}
use Rattle.std.specs.FinMap as map
use Rattle.tl_model.specs.Volume.{at}
use Rattle.tl_memhost.specs.Held.{Bytes, volume_of, ArePaths}
use Rattle.tl_memhost.specs.Record.{cut}
use Rattle.tl_memhost.proofs.Held.{at_found, at_missed, written, paths-set_value}
use Rattle.tl_memhost.proofs.files.Files.cut.Goals as goal

pub invariant_of-self : goal.invariant_of-self
invariant_of-self c = subst ArePaths (sym (c.get_mut.follows.holds c.truncate.new.self).0) (paths-set_value c.self.inside.held.entries _ _ c.self.invariant)

pub returns-in-Some : goal.returns-in-Some
returns-in-Some c =
    let found : at c.args.self.now c.args.name.now ≡ Some c.in-Some.file.now.items = at_found c.self.inside.held.entries c.args.self.now c.args.name.now c.in-Some.file.now c.in-Some.ensures.value c.self.view_is in
    subst (λ (o : Option (List ℕ)). volume_of (c.get_mut.follows.lender c.truncate.new.self).entries ≡ cut c.args.name.now c.args.length o c.args.self.now) (sym found)
    (written c.self.inside.held.entries _ c.args.self.now c.args.name.now c.in-Some.file.now c.truncate.new.self c.in-Some.ensures.value c.self.view_is (c.get_mut.follows.holds c.truncate.new.self).0
    ∙ ap (map.insert c.args.self.now c.args.name.now) c.truncate.ensures.items)

pub returns-in-None : goal.returns-in-None
returns-in-None c =
    let missed : at c.args.self.now c.args.name.now ≡ None = at_missed c.self.inside.held.entries c.args.self.now c.args.name.now c.in-None.ensures.value c.self.view_is in
    subst (λ (o : Option (List ℕ)). volume_of c.get_mut.follows.lender-at-none.entries ≡ cut c.args.name.now c.args.length o c.args.self.now) (sym missed)
    (ap (λ (m : BTreeMap Bytes Bytes). volume_of m.entries) c.get_mut.follows.holds-at-none ∙ c.self.view_is)
