use Rattle.std.proofs.Common.{◌≡◌, ◌∙◌, ◌++◌, [], ℕ, sym, ap, subst, List, Option, Some, length}
use Rattle.std.specs.Option.{unwrap_or}
use Rattle.std.specs.FinMap as map
use Rattle.tl_model.specs.Volume.{at}
use Rattle.tl_memhost.specs.Held.{ArePaths}
use Rattle.tl_memhost.proofs.Held.{at_found, at_missed, absent_not_there, written, insert-same, paths-set_value}
use Rattle.tl_memhost.proofs.files.Files.append.Goals as goal

pub invariant_of-self : goal.invariant_of-self
invariant_of-self c = subst ArePaths (sym (c.get_mut.follows.holds c.extend_from_slice.new.self).0) (paths-set_value c.self.inside.held.entries _ _ c.self.invariant)

pub invariant_of-self-in-Err : goal.invariant_of-self-in-Err
invariant_of-self-in-Err c = subst ArePaths (sym (c.get_mut.follows.holds c.extend_from_slice.new.self).0) (paths-set_value c.self.inside.held.entries _ _ c.self.invariant)

pub returns-in-Ok-clause-length : goal.returns-in-Ok-clause-length
returns-in-Ok-clause-length c =
    ap length c.as_slice-length.ensures.value ∙ sym (ap (λ (o : Option (List ℕ)). length (unwrap_or o [])) (at_found c.self.inside.held.entries c.args.self.now c.args.name.now c.in-Some.file.now c.in-Some.ensures.value c.self.view_is))

pub returns-in-Ok-clause-ok : goal.returns-in-Ok-clause-ok
returns-in-Ok-clause-ok c =
    let found : at c.args.self.now c.args.name.now ≡ Some c.in-Some.file.now.items = at_found c.self.inside.held.entries c.args.self.now c.args.name.now c.in-Some.file.now c.in-Some.ensures.value c.self.view_is in
    written c.self.inside.held.entries _ c.args.self.now c.args.name.now c.in-Some.file.now c.extend_from_slice.new.self c.in-Some.ensures.value c.self.view_is (c.get_mut.follows.holds c.extend_from_slice.new.self).0
    ∙ ap (map.insert c.args.self.now c.args.name.now) (c.in-Ok.ensures.items ∙ sym (ap (λ (o : Option (List ℕ)). unwrap_or o [] ++ c.args.bytes.now) found))

pub returns-in-Err-clause-err : goal.returns-in-Err-clause-err
returns-in-Err-clause-err c =
    let found : at c.args.self.now c.args.name.now ≡ Some c.in-Some.file.now.items = at_found c.self.inside.held.entries c.args.self.now c.args.name.now c.in-Some.file.now c.in-Some.ensures.value c.self.view_is in
    written c.self.inside.held.entries _ c.args.self.now c.args.name.now c.in-Some.file.now c.extend_from_slice.new.self c.in-Some.ensures.value c.self.view_is (c.get_mut.follows.holds c.extend_from_slice.new.self).0
    ∙ insert-same c.args.self.now c.args.name.now c.extend_from_slice.new.self.items (found ∙ sym (ap (λ (b : List ℕ). Some b) c.in-Err.ensures.items))

pub returns-clause-length : goal.returns-clause-length
returns-clause-length c = absurd (absent_not_there _ (at_missed c.self.inside.held.entries c.args.self.now c.args.name.now c.in-None.ensures.value c.self.view_is) c.requires)

pub returns-clause-ok : goal.returns-clause-ok
returns-clause-ok c = absurd (absent_not_there _ (at_missed c.self.inside.held.entries c.args.self.now c.args.name.now c.in-None.ensures.value c.self.view_is) c.requires)
