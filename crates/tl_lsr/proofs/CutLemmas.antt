-- A text cut at its first line end.
use Rattle.std.proofs.Common.{◌≡◌, ℕ, zero, suc, ◌+◌, ◌-◌, ◌<◌, ◌≤◌, true, false, cond, eqb, List, [], ◌∷◌, length, get_or, take, drop, refl, ap, ◌∙◌, arith, add-one}
use Rattle.std.specs.List.{onto_first}
use Rattle.std.proofs.lemmas.Bool.{false_from_ne_true}
use Rattle.std.proofs.lemmas.List.{take_rest}
use Rattle.memchr.specs.Find.{Nowhere, NoneBefore, Passes, is_byte}
use Rattle.tl_model.specs.Lines.{lines}
use Rattle.tl_lsr.specs.Items.{dir_of, name_of}

-- the byte at a place isn't the one that no place in a range has
apart : (text : List ℕ) (low high : ℕ) → Nowhere (Passes (is_byte 10) text) low high → (k : ℕ) → low ≤ k → k < high → eqb (get_or text k 0) 10 ≡ false
apart text low high none k le lt = false_from_ne_true _ (none k le lt)

-- the first line end of a text stands at i
pub record IsEnd (text : List ℕ) (i : ℕ) : Type 0 where
  pub within : i < length text
  pub here : eqb (get_or text i 0) 10 ≡ true
  pub before : (k : ℕ) → k < i → eqb (get_or text k 0) 10 ≡ false

pub end_found : (text : List ℕ) (i : ℕ) → NoneBefore (Passes (is_byte 10) text) 0 (length text) i → Passes (is_byte 10) text i → IsEnd text i
end_found text i none here = record { within = none.high; here = here; before = λ k lt. apart text 0 i none.before k (omega arith) lt }

behind_end : (b : ℕ) (text : List ℕ) (i : ℕ) → IsEnd (b ∷ text) (suc i) → IsEnd text i
behind_end b text i end = record { within = omega (arith, end.within); here = end.here; before = λ k lt. end.before (suc k) (omega arith) }

dir_found : (text : List ℕ) (i : ℕ) → IsEnd text i → take i text ≡ dir_of text
dir_found [] i end = absurd (omega (arith, end.within))
dir_found (b ∷ text) zero end = rw end.here refl
dir_found (b ∷ text) (suc i) end = let none = end.before 0 (omega arith) in rw none (ap (λ (t : List ℕ). b ∷ t) (dir_found text i (behind_end b text i end)))

name_found : (text : List ℕ) (i : ℕ) → IsEnd text i → drop (suc i) text ≡ name_of text
name_found [] i end = absurd (omega (arith, end.within))
name_found (b ∷ text) zero end = rw end.here refl
name_found (b ∷ text) (suc i) end = let none = end.before 0 (omega arith) in rw none (name_found text i (behind_end b text i end))

lines_found : (text : List ℕ) (i : ℕ) → IsEnd text i → lines text ≡ take i text ∷ lines (drop (suc i) text)
lines_found [] i end = absurd (omega (arith, end.within))
lines_found (b ∷ text) zero end = ap (λ t. cond t ([] ∷ lines text) (onto_first b (lines text))) end.here
lines_found (b ∷ text) (suc i) end =
    ap (λ t. cond t ([] ∷ lines text) (onto_first b (lines text))) (end.before 0 (omega arith))
    ∙ ap (onto_first b) (lines_found text i (behind_end b text i end))

pub dir_at : (text : List ℕ) (i : ℕ) → NoneBefore (Passes (is_byte 10) text) 0 (length text) i → Passes (is_byte 10) text i → take i text ≡ dir_of text
dir_at text i none here = dir_found text i (end_found text i none here)

pub name_at : (text : List ℕ) (i : ℕ) → NoneBefore (Passes (is_byte 10) text) 0 (length text) i → Passes (is_byte 10) text i → take (length text - (i + 1)) (drop (i + 1) text) ≡ name_of text
name_at text i none here = rw (take_rest, add-one) (name_found text i (end_found text i none here))

pub lines_at : (text : List ℕ) (i : ℕ) → NoneBefore (Passes (is_byte 10) text) 0 (length text) i → Passes (is_byte 10) text i → lines text ≡ take i text ∷ lines (take (length text - (i + 1)) (drop (i + 1) text))
lines_at text i none here = rw (take_rest, add-one) (lines_found text i (end_found text i none here))

-- a text has no line end
abbrev pub HasNone : List ℕ → Type 0
HasNone text = (k : ℕ) → k < length text → eqb (get_or text k 0) 10 ≡ false

pub none_found : (text : List ℕ) → Nowhere (Passes (is_byte 10) text) 0 (length text) → HasNone text
none_found text none k lt = apart text 0 (length text) none k (omega arith) lt

pub dir_none : (text : List ℕ) → HasNone text → text ≡ dir_of text
dir_none [] none = refl
dir_none (b ∷ text) none = let here = none 0 (omega arith) in rw here (ap (λ (t : List ℕ). b ∷ t) (dir_none text (λ k lt. none (suc k) (omega arith))))

pub name_none : (text : List ℕ) → HasNone text → [] ≡ name_of text
name_none [] none = refl
name_none (b ∷ text) none = let here = none 0 (omega arith) in rw here (name_none text (λ k lt. none (suc k) (omega arith)))

pub lines_none : (text : List ℕ) → HasNone text → 0 < length text → lines text ≡ text ∷ []
lines_none [] none some = absurd (omega arith)
lines_none (b ∷ []) none some = ap (λ t. cond t ([] ∷ lines []) (onto_first b (lines []))) (none 0 (omega arith))
lines_none (b ∷ c ∷ text) none some =
    ap (λ t. cond t ([] ∷ lines (c ∷ text)) (onto_first b (lines (c ∷ text)))) (none 0 (omega arith))
    ∙ ap (onto_first b) (lines_none (c ∷ text) (λ k lt. none (suc k) (omega arith)) (omega arith))
