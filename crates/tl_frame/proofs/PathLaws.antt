-- The paths of a frame.
use Rattle.std.proofs.Common.{◌≡◌, ◌≤◌, ℕ, true, List, [], ◌∷◌, length, Option, Some, None, refl, ap}
use Rattle.std.specs.Option.{is_none}
use Rattle.std.specs.Ordering.{nat_cmp, is_lt}
use Rattle.std.specs.Cmp.Lexicographic.{slice_cmp}
use Rattle.std.proofs.lemmas.Bool.{and_parts, and_from}
use Rattle.tl_path.specs.declared.fault.PathFault.{PathFault}
use Rattle.tl_path.specs.Path.{IsPath, path_fault, size_fault, or_else}
use Rattle.tl_path.proofs.Form.{size-small}
use Rattle.tl_frame.specs.Scan.{is_later_path}

else_none : (a b : Option PathFault) → or_else a b ≡ None → a ≡ None
else_none None b e = refl
else_none (Some x) b e = absurd cc

-- a path has at most 1,024 bytes
pub path_short : (name : List ℕ) → IsPath name → length name ≤ 1024
path_short name path = size-small name (else_none (size_fault name) _ path)

-- and it comes behind no bytes
pub path_some : (name : List ℕ) → IsPath name → is_lt (slice_cmp nat_cmp [] name) ≡ true
path_some [] path = absurd cc
path_some (b ∷ name) path = refl

pub path_later : (last name : List ℕ) → IsPath name → is_lt (slice_cmp nat_cmp last name) ≡ true → is_later_path last name ≡ true
unfolding is_later_path
path_later last name path later = and_from (is_none (path_fault name)) (is_lt (slice_cmp nat_cmp last name)) (ap is_none path) later

none_is : (o : Option PathFault) → is_none o ≡ true → o ≡ None
none_is None e = refl
none_is (Some x) e = absurd cc

pub later_is_path : (last name : List ℕ) → is_later_path last name ≡ true → IsPath name
unfolding is_later_path
later_is_path last name later = none_is (path_fault name) (and_parts _ _ later).0

pub later_is_less : (last name : List ℕ) → is_later_path last name ≡ true → is_lt (slice_cmp nat_cmp last name) ≡ true
unfolding is_later_path
later_is_less last name later = (and_parts _ _ later).1
