-- The names that records may change.
use Rattle.std.proofs.Common.{◌≡◌, ◌<◌, ◌≤◌, ◌&&◌, Bool, true, false, cond, length, Option, Some, None, refl, sym, ◌∙◌, ap, arith, eqb}
use Rattle.std.specs.Prelude.{nat_lt}
use Rattle.std.specs.Option.{is_none}
use Rattle.std.proofs.lemmas.Bool.{and_parts, not-true, ltb-false}
use Rattle.tl_model.specs.Volume.{Name}
use Rattle.tl_path.specs.declared.fault.PathFault.{PathFault}
use Rattle.tl_path.specs.declared.fault.PathKind.TheVariants.{Empty, Long}
use Rattle.tl_path.specs.Path.{IsPath, path_fault, size_fault, or_else, fault}
use Rattle.tl_journal_text.specs.Records.{is_ours, is_outside, is_target}

none_is : (o : Option PathFault) → is_none o ≡ true → o ≡ None
none_is None e = refl
none_is (Some x) e = absurd cc

pub target_is : (name : Name) → is_target name ≡ is_none (path_fault name) && is_outside name
unfolding is_target
target_is name = refl

pub target_path : (name : Name) → is_target name ≡ true → IsPath name
target_path name target = none_is (path_fault name) (and_parts _ _ (sym (target_is name) ∙ target)).0

pub target_outside : (name : Name) → is_target name ≡ true → is_ours name ≡ false
target_outside name target = not-true _ (and_parts _ _ (and_parts _ _ (sym (target_is name) ∙ target)).1).0

-- a path outside the journal's folder
pub is_target_of : (name : Name) → IsPath name → is_outside name ≡ true → is_target name ≡ true
is_target_of name path outside = target_is name ∙ ap (λ (o : Option PathFault). is_none o && is_outside name) path ∙ outside

else_none : (a b : Option PathFault) → or_else a b ≡ None → a ≡ None
else_none None b e = refl
else_none (Some x) b e = absurd cc

-- a path has at most 1,024 bytes
pub path_short : (name : Name) → IsPath name → length name ≤ 1024
path_short name path = by (eqb (length name) 0) (nat_lt 1024 (length name)) refl (else_none (size_fault name) _ path)
  where
    by : (a b : Bool) → nat_lt 1024 (length name) ≡ b → cond a (Some (fault Empty 0)) (cond b (Some (fault Long 1024)) None) ≡ None → length name ≤ 1024
    by true b is e = absurd cc
    by false true is e = absurd cc
    by false false is e = ltb-false _ _ is

pub target_short : (name : Name) → is_target name ≡ true → length name ≤ 1024
target_short name target = path_short name (target_path name target)

-- a name that is too long is none that a record may change
pub too_long : (name : Name) → 1024 < length name → is_target name ≡ false
too_long name long = by (is_target name) refl
  where
    by : (b : Bool) → is_target name ≡ b → is_target name ≡ false
    by true e = absurd (omega (arith, target_short name e))
    by false e = e
