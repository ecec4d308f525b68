-- Globs that are taken away one after the other.
use Rattle.std.proofs.Common.{◌≡◌, ◌⊎◌, ℕ, ◌+◌, ◌<◌, ◌≤◌, Bool, true, false, cond, List, [], ◌∷◌, length, get_or, drop, Result, Ok, Err, refl, sym, ap, ◌∙◌, inl, inr}
use Rattle.std.specs.List.{list_all, list_any}
use Rattle.std.proofs.lemmas.Bool.{cases_Bool, true≢false}
use Rattle.std.proofs.lemmas.List.{drop_more, drop_all}
use Rattle.std.proofs.lemmas.List.Folds.{list_all_at}
use Rattle.tl_pin.specs.declared.line.PinLine.{PinLine}
use Rattle.tl_pin.specs.Changes.{has_glob, without_glob}
use Rattle.tl_settings.specs.Pinning.{without_globs}

abbrev Globs : Type 0
Globs = List (List ℕ)

next_glob : (globs : Globs) (i : ℕ) (glob : List ℕ) → i < length globs → glob ≡ get_or globs i glob → drop i globs ≡ glob ∷ drop (i + 1) globs
next_glob globs i glob lt at = drop_more globs i glob lt ∙ ap (λ (g : List ℕ). g ∷ drop (i + 1) globs) (sym at)

-- a glob that is there
pub one_removed : (tag : List ℕ) (globs : Globs) (i : ℕ) (glob : List ℕ) (pins left : List PinLine) (whole : Result (List PinLine) (List ℕ)) → i < length globs → glob ≡ get_or globs i glob
    → list_any (has_glob tag glob) pins ≡ true → left ≡ without_glob tag glob pins → without_globs tag (drop i globs) pins ≡ whole → without_globs tag (drop (i + 1) globs) left ≡ whole
one_removed tag globs i glob pins left whole lt at there is so_far =
    ap (without_globs tag (drop (i + 1) globs)) is
    ∙ sym (ap (λ (gs : Globs). without_globs tag gs pins) (next_glob globs i glob lt at)
    ∙ ap (λ t. cond t (without_globs tag (drop (i + 1) globs) (without_glob tag glob pins)) (Err glob)) there) ∙ so_far

-- a glob that isn't there
pub one_missing : (tag : List ℕ) (globs : Globs) (i : ℕ) (glob : List ℕ) (pins : List PinLine) (whole : Result (List PinLine) (List ℕ)) → i < length globs → glob ≡ get_or globs i glob
    → list_any (has_glob tag glob) pins ≡ false → without_globs tag (drop i globs) pins ≡ whole → whole ≡ Err glob
one_missing tag globs i glob pins whole lt at none so_far =
    sym so_far ∙ ap (λ (gs : Globs). without_globs tag gs pins) (next_glob globs i glob lt at)
    ∙ ap (λ t. cond t (without_globs tag (drop (i + 1) globs) (without_glob tag glob pins)) (Err glob)) none

-- all were there
pub all_removed : (tag : List ℕ) (globs : Globs) (i : ℕ) (pins : List PinLine) (whole : Result (List PinLine) (List ℕ)) → length globs ≤ i → without_globs tag (drop i globs) pins ≡ whole → whole ≡ Ok pins
all_removed tag globs i pins whole all so_far = sym so_far ∙ ap (λ (gs : Globs). without_globs tag gs pins) (drop_all i globs all)

-- each of some that have a form has it
pub form_at : (p : List ℕ → Bool) (globs : Globs) (i : ℕ) (glob : List ℕ) → i < length globs → glob ≡ get_or globs i glob → list_all p globs ≡ true → p glob ≡ true
form_at p globs i glob lt at all = elim (cases_Bool (p glob)) [
  | inl is ↦ is
  | inr other ↦ absurd (true≢false (sym all ∙ list_all_at p globs i glob lt (ap p (sym at) ∙ other)))
]
