-- A scan of a whole list that finds nothing.
use Rattle.std.proofs.Common.{◌≡◌, ◌||◌, ◌+◌, ◌∙◌, sym, refl, ℕ, suc, Bool, true, false, List, [], ◌∷◌, fold, length, position, None, Some, cond, not, nat_lt, arith}
use Rattle.std.specs.List.{position_or_len}
use Rattle.std.proofs.lemmas.List.Folds.{fold_stays}
use Rattle.std.proofs.lemmas.Bool.Decides.{nat_tests}

pub known : {X : Type 0} (p : X → Bool) (b : Bool) (xs : List X) → fold (λ bad x. bad || p x) b xs ≡ false → b ≡ false
known p false xs none = refl
known p true xs none = sym (fold_stays (λ bad x. bad || p x) true (λ x. refl) xs) ∙ none

pub second : (a b : Bool) → (a || b) ≡ false → b ≡ false
second false b is = is
second true b is = absurd (cc)

missed : {X : Type 0} (p : X → Bool) (b : Bool) (xs : List X) → fold (λ bad x. bad || p x) b xs ≡ false → position_or_len p xs ≡ length xs
missed p b [] none = refl
missed p b (x ∷ xs) none = step (p x) _ _ (second b (p x) (known p (b || p x) xs none)) (missed p (b || p x) xs none)
  where
    step : (t : Bool) (n m : ℕ) → t ≡ false → n ≡ m → cond (not t) (1 + n) 0 ≡ suc m
    step false n m is same = omega (arith, same)
    step true n m is same = absurd (cc)

at_end : (n m : ℕ) → n ≡ m → cond (nat_lt n m) (Some n) None ≡ None
at_end n m same = grind (arith, nat_tests)

pub position-none : {X : Type 0} (p : X → Bool) (xs : List X) → fold (λ bad x. bad || p x) false xs ≡ false → position p xs ≡ None
position-none p xs none = at_end (position_or_len p xs) (length xs) (missed p false xs none)
