-- A text cut at its first line end.
use Rattle.std.proofs.Common.{◌≡◌, ℕ, zero, suc, ◌<◌, ◌≤◌, true, false, eqb, List, [], ◌∷◌, ◌++◌, length, get_or, take, drop, sym, ap, arith}
use Rattle.std.specs.Prelude.{◌==◌}
use Rattle.std.proofs.lemmas.Bool.{false_from_ne_true, eqb-true}
use Rattle.std.proofs.lemmas.List.{append-nil}
use Rattle.std.proofs.lemmas.List.Elements.{All-nil, All-cons}
use Rattle.memchr.specs.Find.{Nowhere, NoneBefore, Passes, is_byte}
use Rattle.tl_model.specs.Lines.{IsLine}
use Rattle.tl_shell.specs.Feeds.{IsCutAt}

-- no byte of a front of a text ends a line
front_line : (text : List ℕ) (i : ℕ) → i ≤ length text → ((k : ℕ) → k < i → eqb (get_or text k 0) 10 ≡ false) → IsLine (take i text)
front_line text zero within none = All-nil (λ b. (b == 10) ≡ false)
front_line [] (suc i) within none = absurd (omega (arith, within))
front_line (b ∷ text) (suc i) within none = All-cons (λ b. (b == 10) ≡ false) b (take i text) (none 0 (omega arith)) (front_line text i (omega (arith, within)) (λ k lt. none (suc k) (omega (arith, lt))))

whole_line : (text : List ℕ) → ((k : ℕ) → k < length text → eqb (get_or text k 0) 10 ≡ false) → IsLine text
whole_line [] none = All-nil (λ b. (b == 10) ≡ false)
whole_line (b ∷ text) none = All-cons (λ b. (b == 10) ≡ false) b text (none 0 (omega arith)) (whole_line text (λ k lt. none (suc k) (omega (arith, lt))))

split_there : (text : List ℕ) (i : ℕ) → i < length text → eqb (get_or text i 0) 10 ≡ true → text ≡ take i text ++ 10 ∷ drop (suc i) text
split_there [] i within here = absurd (omega (arith, within))
split_there (b ∷ text) zero within here = ap (λ (n : ℕ). n ∷ text) (eqb-true b 10 here)
split_there (b ∷ text) (suc i) within here = ap (λ (t : List ℕ). b ∷ t) (split_there text i (omega (arith, within)) here)

-- the search found the first line end at i
pub cut_found : (text : List ℕ) (i : ℕ) → NoneBefore (Passes (is_byte 10) text) 0 (length text) i → Passes (is_byte 10) text i → IsCutAt text (take i text) true
cut_found text i none here = record {
  line = front_line text i (omega (arith, none.high)) (λ k lt. false_from_ne_true _ (none.before k (omega arith) lt));
  rest = drop (suc i) text;
  whole = split_there text i none.high here;
}

-- the search found none
pub cut_open : (text : List ℕ) → Nowhere (Passes (is_byte 10) text) 0 (length text) → IsCutAt text text false
cut_open text none = record {
  line = whole_line text (λ k lt. false_from_ne_true _ (none k (omega arith) lt));
  rest = [];
  whole = sym (append-nil text);
}
