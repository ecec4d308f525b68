-- Texts with and without a line end.
use Rattle.std.proofs.Common.{◌≡◌, ℕ, zero, suc, ◌<◌, ◌==◌, Bool, true, false, not, ◌&&◌, eqb, List, [], ◌∷◌, length, get_or, refl, ap, ◌∙◌, arith}
use Rattle.std.specs.List.{list_all}
use Rattle.std.proofs.lemmas.Bool.{false_from_ne_true}
use Rattle.memchr.specs.Find.{Nowhere, Passes, is_byte}

abbrev is_one_line : List ℕ → Bool
is_one_line text = list_all (λ b. not (b == 10)) text

and_false : (a : Bool) → (a && false) ≡ false
and_false true = refl
and_false false = refl

whole : (text : List ℕ) → ((k : ℕ) → k < length text → eqb (get_or text k 0) 10 ≡ false) → is_one_line text ≡ true
whole [] none = refl
whole (b ∷ text) none =
    ap (λ t. not t && is_one_line text) (none 0 (omega arith)) ∙ whole text (λ k lt. none (suc k) (omega arith))

-- a text in which a search finds no line end is one line
pub one_line : (text : List ℕ) → Nowhere (Passes (is_byte 10) text) 0 (length text) → is_one_line text ≡ true
one_line text none = whole text (λ k lt. false_from_ne_true _ (none k (omega arith) lt))

-- a text in which a search finds a line end is more than one line
pub more_lines : (text : List ℕ) (i : ℕ) → i < length text → Passes (is_byte 10) text i → is_one_line text ≡ false
more_lines [] i lt here = absurd (omega arith)
more_lines (b ∷ text) zero lt here = ap (λ t. not t && is_one_line text) here
more_lines (b ∷ text) (suc i) lt here = ap (λ t. not (eqb b 10) && t) (more_lines text i (omega arith) here) ∙ and_false (not (eqb b 10))
