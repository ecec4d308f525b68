-- Bytes and the lines of a text.
use Rattle.std.specs.Prelude.{◌≡◌, ◌⊎◌, ℕ, ◌==◌, ◌<◌, true, false, cond, if◌then◌else◌, List, [], ◌∷◌, ◌++◌, length, All, refl}
use Rattle.std.specs.List.{AllByRecursion, onto_first, slice_split}
use Rattle.std.proofs.Common.{sym, ◌∙◌, ap, subst, inl, inr, arith}
use Rattle.std.proofs.lemmas.Bool.{cases_Bool}
use Rattle.std.proofs.lemmas.List.Splits.{length-slice_split}
use Rattle.std.proofs.lemmas.List.Elements.{All-nil, All-cons, All-head, All-tail}

-- the lines of a text without their ends: a line ends with the byte 10, which the last line may lack
abbrev pub lines : List ℕ → List (List ℕ)
lines [] = []
lines (b ∷ text) = if b == 10 then [] ∷ lines text else onto_first b (lines text)

-- no byte ends a line
abbrev pub IsLine : List ℕ → Type 0
IsLine line = All (λ b. (b == 10) ≡ false) line

-- the text of some lines, each with its end
abbrev pub text_of : List (List ℕ) → List ℕ
text_of [] = []
text_of (line ∷ others) = line ++ 10 ∷ text_of others

-- the parts without the last one, where that is empty
abbrev pub without_empty_last : List (List ℕ) → List (List ℕ)
without_empty_last [] = []
without_empty_last ([] ∷ []) = []
without_empty_last ((b ∷ part) ∷ []) = (b ∷ part) ∷ []
without_empty_last (part ∷ next ∷ others) = part ∷ without_empty_last (next ∷ others)

-- the first line of a text is what stands before its first line end
pub lines-line : (line text : List ℕ) → IsLine line → lines (line ++ 10 ∷ text) ≡ line ∷ lines text
lines-line [] text is = refl
lines-line (b ∷ line) text is =
    let head : (b == 10) ≡ false = All-head (λ b. (b == 10) ≡ false) b line is in
    let tail : lines (line ++ 10 ∷ text) ≡ line ∷ lines text = lines-line line text (All-tail (λ b. (b == 10) ≡ false) b line is) in
    ap (λ t. cond t ([] ∷ lines (line ++ 10 ∷ text)) (onto_first b (lines (line ++ 10 ∷ text)))) head ∙ ap (onto_first b) tail

-- a text that isn't empty and has no line end is one line
pub lines-last : (line : List ℕ) → IsLine line → 0 < length line → lines line ≡ line ∷ []
lines-last [] is some = absurd (omega arith)
lines-last (b ∷ []) is some = ap (λ t. cond t ([] ∷ []) ((b ∷ []) ∷ [])) (All-head (λ b. (b == 10) ≡ false) b [] is)
lines-last (b ∷ c ∷ line) is some =
    let head : (b == 10) ≡ false = All-head (λ b. (b == 10) ≡ false) b (c ∷ line) is in
    let tail : lines (c ∷ line) ≡ (c ∷ line) ∷ [] = lines-last (c ∷ line) (All-tail (λ b. (b == 10) ≡ false) b (c ∷ line) is) (omega arith) in
    ap (λ t. cond t ([] ∷ lines (c ∷ line)) (onto_first b (lines (c ∷ line)))) head ∙ ap (onto_first b) tail

-- the lines of the text of some lines are these lines
pub lines-text_of : (some : List (List ℕ)) → AllByRecursion IsLine some → lines (text_of some) ≡ some
lines-text_of [] is = refl
lines-text_of (line ∷ others) is = lines-line line (text_of others) is.0 ∙ ap (λ (more : List (List ℕ)). line ∷ more) (lines-text_of others is.1)

IsLine-onto_first : (b : ℕ) → (b == 10) ≡ false → (some : List (List ℕ)) → AllByRecursion IsLine some → AllByRecursion IsLine (onto_first b some)
IsLine-onto_first b is [] each = (All-cons (λ b. (b == 10) ≡ false) b [] is (All-nil (λ b. (b == 10) ≡ false)), tt)
IsLine-onto_first b is (line ∷ others) each = (All-cons (λ b. (b == 10) ≡ false) b line is each.0, each.1)

-- no line of a text has a line end in it
pub IsLine-lines : (text : List ℕ) → AllByRecursion IsLine (lines text)
IsLine-lines [] = tt
IsLine-lines (b ∷ text) = elim (cases_Bool (b == 10)) [
  | inl e ↦ subst (λ t. AllByRecursion IsLine (cond t ([] ∷ lines text) (onto_first b (lines text)))) (sym e) (All-nil (λ b. (b == 10) ≡ false), IsLine-lines text)
  | inr e ↦ subst (λ t. AllByRecursion IsLine (cond t ([] ∷ lines text) (onto_first b (lines text)))) (sym e) (IsLine-onto_first b e (lines text) (IsLine-lines text))
]

-- `split(|b| *b == b'\n')` gives the lines, and one empty part more where the text is empty or ends with a line end
pub lines-split : (text : List ℕ) → lines text ≡ without_empty_last (slice_split (λ b. b == 10) text)
lines-split [] = refl
lines-split (b ∷ text) = split_more b (cases_Bool (b == 10)) (lines text) (slice_split (λ b. b == 10) text) (omega (arith, length-slice_split (λ b. b == 10) text)) (lines-split text)
  where
    onto_kept : (b : ℕ) (parts : List (List ℕ)) → 0 < length parts → onto_first b (without_empty_last parts) ≡ without_empty_last (onto_first b parts)
    onto_kept b [] some = absurd (omega arith)
    onto_kept b ([] ∷ []) some = refl
    onto_kept b ((c ∷ part) ∷ []) some = refl
    onto_kept b (part ∷ next ∷ others) some = refl

    empty_kept : (parts : List (List ℕ)) → 0 < length parts → [] ∷ without_empty_last parts ≡ without_empty_last ([] ∷ parts)
    empty_kept [] some = absurd (omega arith)
    empty_kept (part ∷ others) some = refl

    split_more : (b : ℕ) → (b == 10 ≡ true) ⊎ (b == 10 ≡ false) → (some parts : List (List ℕ)) → 0 < length parts → some ≡ without_empty_last parts → cond (b == 10) ([] ∷ some) (onto_first b some) ≡ without_empty_last (cond (b == 10) ([] ∷ parts) (onto_first b parts))
    split_more b (inl here) some parts full is = rw here (ap (λ (more : List (List ℕ)). [] ∷ more) is ∙ empty_kept parts full)
    split_more b (inr apart) some parts full is = rw apart (ap (onto_first b) is ∙ onto_kept b parts full)
