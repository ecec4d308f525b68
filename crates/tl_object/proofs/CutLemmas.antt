-- Cuts at the first byte that a search finds, and the first line of a text.
use Rattle.std.proofs.Common.{◌≡◌, ℕ, zero, suc, ◌+◌, ◌-◌, ◌<◌, ◌≤◌, Bool, true, false, cond, ◌&&◌, eqb, List, [], ◌∷◌, length, get_or, take, drop, Some, None, refl, ap, ◌∙◌, arith, add-one}
use Rattle.std.proofs.lemmas.Bool.{false_from_ne_true}
use Rattle.std.proofs.lemmas.List.{take_rest}
use Rattle.memchr.specs.Find.{Nowhere, NoneBefore, Passes, is_byte}
use Rattle.std.specs.List.{onto_first}
use Rattle.tl_model.specs.Lines.{lines}
use Rattle.tl_object.specs.Content.{front, behind, entry_lines, lines_left}
use Rattle.tl_object.specs.Cuts.{cut, onto_front}

pub cut_found : (at : ℕ) (text : List ℕ) (i : ℕ) → i < length text → eqb (get_or text i 0) at ≡ true → ((k : ℕ) → k < i → eqb (get_or text k 0) at ≡ false) → cut at text ≡ Some (take i text, drop (suc i) text)
cut_found at [] i lt here before = absurd (omega arith)
cut_found at (b ∷ text) zero lt here before = ap (λ t. cond t (Some ([], text)) (onto_front b (cut at text))) here
cut_found at (b ∷ text) (suc i) lt here before =
    ap (λ t. cond t (Some ([], text)) (onto_front b (cut at text))) (before 0 (omega arith))
    ∙ ap (onto_front b) (cut_found at text i (omega arith) here (λ k h. before (suc k) (omega arith)))

pub cut_none : (at : ℕ) (text : List ℕ) → ((k : ℕ) → k < length text → eqb (get_or text k 0) at ≡ false) → cut at text ≡ None
cut_none at [] none = refl
cut_none at (b ∷ text) none =
    ap (λ t. cond t (Some ([], text)) (onto_front b (cut at text))) (none 0 (omega arith))
    ∙ ap (onto_front b) (cut_none at text (λ k h. none (suc k) (omega arith)))

-- a text with a line end begins with the line before its first one
pub lines_found : (text : List ℕ) (i : ℕ) → i < length text → eqb (get_or text i 0) 10 ≡ true → ((k : ℕ) → k < i → eqb (get_or text k 0) 10 ≡ false) → lines text ≡ take i text ∷ lines (drop (suc i) text)
lines_found [] i lt here before = absurd (omega arith)
lines_found (b ∷ text) zero lt here before = ap (λ t. cond t ([] ∷ lines text) (onto_first b (lines text))) here
lines_found (b ∷ text) (suc i) lt here before =
    ap (λ t. cond t ([] ∷ lines text) (onto_first b (lines text))) (before 0 (omega arith))
    ∙ ap (onto_first b) (lines_found text i (omega arith) here (λ k h. before (suc k) (omega arith)))

-- a text without a line end is one line
pub lines_none : (text : List ℕ) → 0 < length text → ((k : ℕ) → k < length text → eqb (get_or text k 0) 10 ≡ false) → lines text ≡ text ∷ []
lines_none [] some none = absurd (omega arith)
lines_none (b ∷ []) some none = ap (λ t. cond t ([] ∷ lines []) (onto_first b (lines []))) (none 0 (omega arith))
lines_none (b ∷ c ∷ text) some none =
    ap (λ t. cond t ([] ∷ lines (c ∷ text)) (onto_first b (lines (c ∷ text)))) (none 0 (omega arith))
    ∙ ap (onto_first b) (lines_none (c ∷ text) (omega arith) (λ k h. none (suc k) (omega arith)))

-- the byte at a place isn't the one that no place in a range has
pub apart : (at : ℕ) (text : List ℕ) (low high : ℕ) → Nowhere (Passes (is_byte at) text) low high → (k : ℕ) → low ≤ k → k < high → eqb (get_or text k 0) at ≡ false
apart at text low high none k le lt = false_from_ne_true _ (none k le lt)

-- the cut that a search finds
pub cut_by : (at : ℕ) (text : List ℕ) (i : ℕ) → NoneBefore (Passes (is_byte at) text) 0 (length text) i → Passes (is_byte at) text i → cut at text ≡ Some (take i text, take (length text - (i + 1)) (drop (i + 1) text))
cut_by at text i none here =
    rw (take_rest, add-one) (cut_found at text i none.high here (λ k lt. apart at text 0 i none.before k (omega arith) lt))

pub lines_by : (text : List ℕ) (i : ℕ) → NoneBefore (Passes (is_byte 10) text) 0 (length text) i → Passes (is_byte 10) text i → lines text ≡ take i text ∷ lines (take (length text - (i + 1)) (drop (i + 1) text))
lines_by text i none here =
    rw (take_rest, add-one) (lines_found text i none.high here (λ k lt. apart 10 text 0 i none.before k (omega arith) lt))

pub entry-more : (stops : Bool) (all rest : List (ℕ × List ℕ)) (n : ℕ) (line : List ℕ) → all ≡ (n, line) ∷ rest → (stops && eqb (length line) 0) ≡ false → entry_lines stops all ≡ (n, line) ∷ entry_lines stops rest
entry-more false all rest n line is full = is
entry-more true all rest n line is full = ap front is ∙ ap (λ t. cond t [] ((n, line) ∷ front rest)) full

pub entry-left : (stops : Bool) (all rest : List (ℕ × List ℕ)) (n : ℕ) (line : List ℕ) → all ≡ (n, line) ∷ rest → (stops && eqb (length line) 0) ≡ false → lines_left stops all ≡ lines_left stops rest
entry-left false all rest n line is full = refl
entry-left true all rest n line is full = ap behind is ∙ ap (λ t. cond t rest (behind rest)) full

pub entry-stops : (stops : Bool) (all rest : List (ℕ × List ℕ)) (n : ℕ) (line : List ℕ) → all ≡ (n, line) ∷ rest → (stops && eqb (length line) 0) ≡ true → entry_lines stops all ≡ []
entry-stops false all rest n line is empty = absurd (cc)
entry-stops true all rest n line is empty = ap front is ∙ ap (λ t. cond t [] ((n, line) ∷ front rest)) empty

pub entry-none : (stops : Bool) (all : List (ℕ × List ℕ)) → all ≡ [] → entry_lines stops all ≡ []
entry-none false all is = is
entry-none true all is = ap front is
