-- Blanks at the ends of a text.
use Rattle.std.proofs.Common.{◌≡◌, ℕ, false, cond, List, [], ◌∷◌, reverse, refl, ap, ◌∙◌}
use Rattle.std.specs.List.{All}
use Rattle.std.proofs.lemmas.List.{reverse-reverse}
use Rattle.std.proofs.lemmas.List.Elements.{All-head}
use Rattle.std.proofs.lemmas.List.Sorted.{All-permutation, IsPermutation-reverse}
use Rattle.tl_model.specs.Words.{is_blank}
use Rattle.tl_pin.specs.Form.{without_blanks_before, trimmed}

-- a text without the blanks at its end
abbrev pub without_blanks_behind : List ℕ → List ℕ
without_blanks_behind text = reverse (without_blanks_before (reverse text))

no_blank_before : (text : List ℕ) → All (λ b. is_blank b ≡ false) text → without_blanks_before text ≡ text
no_blank_before [] full = refl
no_blank_before (b ∷ text) full = ap (λ t. cond t (without_blanks_before text) (b ∷ text)) (All-head (λ b. is_blank b ≡ false) b text full)

-- a text without blanks stays as it is
pub trimmed-word : (text : List ℕ) → All (λ b. is_blank b ≡ false) text → trimmed text ≡ text
trimmed-word text full =
    ap without_blanks_behind (no_blank_before text full)
    ∙ ap (λ (r : List ℕ). reverse r) (no_blank_before (reverse text) (All-permutation (λ b. is_blank b ≡ false) text (reverse text) (IsPermutation-reverse text) full))
    ∙ reverse-reverse text
