-- Files that a walk over the names of a tree doesn't meet.
use Rattle.std.proofs.Common.{◌≡◌, ◌&&◌, ◌||◌, ℕ, Bool, true, false, IsSome, List, [], ◌∷◌, ◌++◌, map, Option, Some, None, refl, sym, ap, ◌∙◌}
use Rattle.std.specs.Prelude.{is_none}
use Rattle.std.specs.List.{list_any}
use Rattle.std.specs.List.Sorted.{IsPermutation}
use Rattle.std.proofs.lemmas.Bool.{true≢false}
use Rattle.std.proofs.lemmas.List.{map-append}
use Rattle.std.proofs.lemmas.List.Folds.{list_any-append}
use Rattle.std.proofs.lemmas.List.Sorted.{list_any-IsPermutation}
use Rattle.tl_model.specs.Volume.{Volume, at}
use Rattle.tl_report.specs.Claims.{Claim}
use Rattle.tl_report.specs.Missing.{is_gone}
use Rattle.tl_report.proofs.AnyLemmas.{any-map}

present_not_gone : (o : Option (List ℕ)) (t : Bool) → IsSome o → (is_none o && t) ≡ false
present_not_gone None t is = absurd (true≢false (sym is))
present_not_gone (Some bytes) t is = refl

or_false : (a b : Bool) → b ≡ false → (a || (b || false)) ≡ a
or_false true b none = refl
or_false false true none = absurd (true≢false none)
or_false false false none = refl

module _ {A : Type 0} (f : A → Claim) (p : Claim → Bool) where
  any_last : (xs : List A) (x : A) → list_any p (map f (xs ++ x ∷ [])) ≡ (list_any p (map f xs) || (p (f x) || false))
  any_last xs x = ap (list_any p) (map-append f xs (x ∷ [])) ∙ list_any-append p (map f xs) (f x ∷ [])

  -- a file that is kept
  pub any-kept : (kept more taken : List A) (x : A) → more ≡ kept ++ x ∷ [] → list_any p (map f kept) ≡ list_any p (map f taken) → list_any p (map f more) ≡ list_any p (map f (taken ++ x ∷ []))
  any-kept kept more taken x is same =
      ap (λ (xs : List A). list_any p (map f xs)) is ∙ any_last kept x ∙ ap (λ (b : Bool). b || (p (f x) || false)) same ∙ sym (any_last taken x)

  -- one that is left out, since it fails the test
  pub any-left : (kept taken : List A) (x : A) → p (f x) ≡ false → list_any p (map f kept) ≡ list_any p (map f taken) → list_any p (map f kept) ≡ list_any p (map f (taken ++ x ∷ []))
  any-left kept taken x none same = same ∙ sym (any_last taken x ∙ or_false (list_any p (map f taken)) (p (f x)) none)

  -- files in another order
  pub any-moved : (xs ys : List A) → IsPermutation xs ys → list_any p (map f ys) ≡ list_any p (map f xs)
  any-moved xs ys moved = any-map p f ys ∙ sym (list_any-IsPermutation (λ x. p (f x)) xs ys moved) ∙ sym (any-map p f xs)

-- a file that is there isn't gone
pub met-not-gone : (tree : Volume) (c : Claim) (t : Bool) → IsSome (at tree c.path) → (is_gone tree c && t) ≡ false
met-not-gone tree c t is = present_not_gone (at tree c.path) t is
