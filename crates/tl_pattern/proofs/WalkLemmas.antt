-- Walks over the components of a path.
use Rattle.std.proofs.Common.{◌≡◌, ℕ, ◌||◌, Bool, false, List, [], ◌∷◌, refl, ap, Option, None, Some, Bor, bytes_eq}
use Rattle.std.specs.List.{list_any}
use Rattle.tl_pattern.specs.Form.{without_last, last_of, has_plain_folder}
use Rattle.tl_pattern.specs.Hits.{stands_before_last}

-- a component that was taken, before those that are left
abbrev pub ahead : Option (Bor (List ℕ)) → List (List ℕ) → List (List ℕ)
ahead None cs = []
ahead (Some c) cs = c.now ∷ cs

-- whether a component but the last is a name, where the one before them is it or not
abbrev pub stands_after : Bool → List ℕ → List (List ℕ) → Bool
stands_after is_it name [] = false
stands_after is_it name (c ∷ cs) = is_it || stands_after (bytes_eq c name) name cs

pub stands_from : (name : List ℕ) (cs : List (List ℕ)) → stands_after false name cs ≡ stands_before_last name cs
stands_from name [] = refl
stands_from name (c ∷ cs) = by c cs
  where
    by : (c : List ℕ) (cs : List (List ℕ)) → stands_after (bytes_eq c name) name cs ≡ list_any (λ d. bytes_eq d name) (without_last (c ∷ cs))
    by c [] = refl
    by c (d ∷ cs) = ap (λ b. bytes_eq c name || b) (by d cs)

pub last_behind_none : (cs : List (List ℕ)) → last_of ([] ∷ cs) ≡ last_of cs
last_behind_none [] = refl
last_behind_none (c ∷ cs) = refl

pub plain_behind_none : (cs : List (List ℕ)) → has_plain_folder ([] ∷ cs) ≡ has_plain_folder cs
plain_behind_none [] = refl
plain_behind_none (c ∷ cs) = refl
