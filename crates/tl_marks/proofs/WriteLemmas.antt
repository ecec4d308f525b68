-- Platforms as they are written.
use Rattle.std.proofs.Common.{◌≡◌, ℕ, ◌+◌, List, [], ◌∷◌, ◌++◌, take, Option, Some, sym, ap, ◌∙◌, append_assoc, suc, zero, add-one}
use Rattle.std.specs.Prelude.{slice_get, unwrap_or}
use Rattle.std.specs.List.{flat_map}
use Rattle.std.proofs.lemmas.Grind.{flat_map-append}
use Rattle.std.proofs.lemmas.List.{append-nil}

abbrev spaced : List ℕ → List ℕ
spaced platform = 32 ∷ platform

one_taken : (xs : List (List ℕ)) (i : ℕ) (x : List ℕ) → slice_get xs i ≡ Some x → take (suc i) xs ≡ take i xs ++ x ∷ []
one_taken [] i x is = absurd (cc)
one_taken (y ∷ xs) zero x is = ap (λ (o : Option (List ℕ)). unwrap_or o y ∷ []) is
one_taken (y ∷ xs) (suc i) x is = ap (λ (l : List (List ℕ)). y ∷ l) (one_taken xs i x is)

-- one platform more
pub platform_more : (before out : List ℕ) (platforms : List (List ℕ)) (i : ℕ) (platform : List ℕ) → slice_get platforms i ≡ Some platform → out ≡ before ++ flat_map spaced (take i platforms)
    → (out ++ 32 ∷ []) ++ platform ≡ before ++ flat_map spaced (take (i + 1) platforms)
platform_more before out platforms i platform is so_far =
    append_assoc out (32 ∷ []) platform
    ∙ ap (λ (l : List ℕ). l ++ 32 ∷ platform) so_far
    ∙ append_assoc before (flat_map spaced (take i platforms)) (32 ∷ platform)
    ∙ ap (λ (l : List ℕ). before ++ (flat_map spaced (take i platforms) ++ l)) (sym (append-nil (32 ∷ platform)))
    ∙ ap (λ (l : List ℕ). before ++ l) (sym (flat_map-append spaced (take i platforms) (platform ∷ [])))
    ∙ ap (λ (l : List (List ℕ)). before ++ flat_map spaced l) (sym (one_taken platforms i platform is))
    ∙ ap (λ n. before ++ flat_map spaced (take n platforms)) (sym (add-one i))
