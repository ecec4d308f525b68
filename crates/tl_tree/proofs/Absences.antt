-- What is read of an absent name, and behind the journal's folder.
use Rattle.std.proofs.Common.{◌≡◌, ◌≤◌, ℕ, zero, suc, true, List, [], length, take, drop, Option, Some, None, IfSome, refl, sym, ◌∙◌, ap}
use Rattle.std.specs.Option.{unwrap_or, option_map}
use Rattle.tl_model.specs.Volume.{Name, IsAfter}
use Rattle.tl_path.specs.Path.{IsPath}
use Rattle.tl_journal_text.specs.Records.{is_ours}
use Rattle.tl_tree.specs.Nexts.{IsFrom}
use Rattle.tl_tree.proofs.Order.{after_from}

none_of : (n k : ℕ) → let none : List ℕ = [] in take n (drop k none) ≡ none
none_of zero zero = refl
none_of zero (suc k) = refl
none_of (suc n) zero = refl
none_of (suc n) (suc k) = refl

pub nothing : (n k : ℕ) (o : Option (List ℕ)) → o ≡ None → [] ≡ take n (drop k (unwrap_or o []))
nothing n k o none = sym (ap (λ (p : Option (List ℕ)). take n (drop k (unwrap_or p []))) none ∙ none_of n k)

pub nothing_long : (n k : ℕ) (o : Option (List ℕ)) → o ≡ None → 0 ≡ length (take n (drop k (unwrap_or o [])))
nothing_long n k o none = ap (λ (l : List ℕ). length l) (nothing n k o none)

-- a name without a length is absent
pub absent : (o : Option (List ℕ)) → None ≡ option_map length o → o ≡ None
absent None same = refl
absent (Some bytes) same = absurd (cc)

-- what comes from there on comes after what was asked for
pub path_from : (after : Option Name) (name : Name) → is_ours name ≡ true → IsAfter after name → (found : Option ℕ) (buffer : List ℕ)
    → IfSome found (λ count. (count ≤ 1024) × IsPath (take count buffer) × IsFrom (take count buffer)) → IfSome found (λ count. (count ≤ 1024) × IsPath (take count buffer) × IsAfter after (take count buffer))
path_from after name ours is_after None buffer path = tt
path_from after name ours is_after (Some count) buffer path = (path.0, path.1, after_from after name (take count buffer) ours is_after path.2)
