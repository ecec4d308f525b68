-- What a line that is read gives is a value.
use Rattle.std.proofs.Common.{◌≡◌, ℕ, ◌+◌, ◌-◌, ◌<◌, ◌≤◌, ◌==◌, ◌&&◌, Bool, true, false, cond, List, [], ◌∷◌, ◌++◌, length, get_or, take, drop, reverse, refl, sym, ap, subst, ◌∙◌, arith, suc, zero}
use Rattle.std.specs.Prelude.{not}
use Rattle.std.specs.List.{prefix_len, suffix_len}
use Rattle.std.proofs.lemmas.List.{take-append-drop, get_or-reverse, length-reverse, length-drop, reverse-append}
use Rattle.std.proofs.lemmas.List.Sums.{prefix_len_stops, suffix_len-take_no}
use Rattle.tl_model.specs.Words.{is_blank}
use Rattle.tl_text.specs.Texts.{IsText}
use Rattle.tl_srctext.specs.Content.{less_comment, less_blanks_before, less_blanks_behind, line_content, word_len, before_blank, behind_blank}
use Rattle.tl_srctext.specs.Formed.{IsValue}
use Rattle.tl_srctext.proofs.TextLemmas.{drop-past, take-past, no_blanks_before, no_blanks_behind}

-- ---- comments

-- behind its first byte a text without a comment has none either
pub plain-rest : (opens : Bool) (b : ℕ) (text : List ℕ) → less_comment opens (b ∷ text) ≡ b ∷ text → less_comment (is_blank b) text ≡ text
plain-rest opens b text is = by (opens && b == 35) is
  where
    by : (t : Bool) → cond t [] (b ∷ less_comment (is_blank b) text) ≡ b ∷ text → less_comment (is_blank b) text ≡ text
    by true same = absurd (cc)
    by false same = ap (drop 1) same

plain-blanks : (text : List ℕ) → less_comment true text ≡ text → less_comment true (less_blanks_before text) ≡ less_blanks_before text
plain-blanks [] is = refl
plain-blanks (b ∷ text) is = by (plain-blanks text) (is_blank b) refl
  where
    by : (less_comment true text ≡ text → less_comment true (less_blanks_before text) ≡ less_blanks_before text)
        → (t : Bool) → is_blank b ≡ t → less_comment true (less_blanks_before (b ∷ text)) ≡ less_blanks_before (b ∷ text)
    by more true e =
        let rest : less_blanks_before (b ∷ text) ≡ less_blanks_before text = ap (λ t. drop (cond t (1 + prefix_len is_blank text) 0) (b ∷ text)) e ∙ drop-past b text (prefix_len is_blank text) in
        ap (less_comment true) rest ∙ more (ap (λ t. less_comment t text) (sym e) ∙ plain-rest true b text is) ∙ sym rest
    by more false e =
        let rest : less_blanks_before (b ∷ text) ≡ b ∷ text = ap (λ t. drop (cond t (1 + prefix_len is_blank text) 0) (b ∷ text)) e in
        ap (less_comment true) rest ∙ is ∙ sym rest

-- nor behind its first blanks
pub plain-behind : (opens : Bool) (text : List ℕ) → less_comment opens text ≡ text → less_comment true (behind_blank text) ≡ behind_blank text
plain-behind opens [] is = refl
plain-behind opens (b ∷ text) is = by (plain-behind (is_blank b) text) (is_blank b) refl
  where
    by : (less_comment (is_blank b) text ≡ text → less_comment true (behind_blank text) ≡ behind_blank text)
        → (t : Bool) → is_blank b ≡ t → less_comment true (behind_blank (b ∷ text)) ≡ behind_blank (b ∷ text)
    by more true e =
        let rest : behind_blank (b ∷ text) ≡ less_blanks_before text =
        ap (λ t. less_blanks_before (drop (cond (not t) (1 + word_len text) 0) (b ∷ text))) e ∙ ap (λ t. drop (cond t (1 + prefix_len is_blank text) 0) (b ∷ text)) e ∙ drop-past b text (prefix_len is_blank text) in
        ap (less_comment true) rest ∙ plain-blanks text (ap (λ t. less_comment t text) (sym e) ∙ plain-rest opens b text is) ∙ sym rest
    by more false e =
        let rest : behind_blank (b ∷ text) ≡ behind_blank text =
        ap (λ t. less_blanks_before (drop (cond (not t) (1 + word_len text) 0) (b ∷ text))) e ∙ ap less_blanks_before (drop-past b text (word_len text)) in
        ap (less_comment true) rest ∙ more (plain-rest opens b text is) ∙ sym rest

plain-take : (opens : Bool) (text : List ℕ) (n : ℕ) → less_comment opens text ≡ text → less_comment opens (take n text) ≡ take n text
plain-take opens text zero is = refl
plain-take opens [] (suc n) is = refl
plain-take opens (b ∷ text) (suc n) is = by (plain-take (is_blank b) text n) (opens && b == 35) refl is
  where
    by : (less_comment (is_blank b) text ≡ text → less_comment (is_blank b) (take n text) ≡ take n text)
        → (t : Bool) → (opens && b == 35) ≡ t → cond t [] (b ∷ less_comment (is_blank b) text) ≡ b ∷ text → cond (opens && b == 35) [] (b ∷ less_comment (is_blank b) (take n text)) ≡ b ∷ take n text
    by more true e same = absurd (cc)
    by more false e same =
        ap (λ t. cond t [] (b ∷ less_comment (is_blank b) (take n text))) e ∙ ap (λ (l : List ℕ). b ∷ l) (more (ap (drop 1) same))

plain-comment : (opens : Bool) (line : List ℕ) → less_comment opens (less_comment opens line) ≡ less_comment opens line
plain-comment opens [] = refl
plain-comment opens (b ∷ line) = by (plain-comment (is_blank b) line) (opens && b == 35) refl
  where
    by : less_comment (is_blank b) (less_comment (is_blank b) line) ≡ less_comment (is_blank b) line
        → (t : Bool) → (opens && b == 35) ≡ t → less_comment opens (cond (opens && b == 35) [] (b ∷ less_comment (is_blank b) line)) ≡ cond (opens && b == 35) [] (b ∷ less_comment (is_blank b) line)
    by more true e =
        let none : cond (opens && b == 35) [] (b ∷ less_comment (is_blank b) line) ≡ [] = ap (λ t. cond t [] (b ∷ less_comment (is_blank b) line)) e in
        ap (less_comment opens) none ∙ sym none
    by more false e =
        let some : cond (opens && b == 35) [] (b ∷ less_comment (is_blank b) line) ≡ b ∷ less_comment (is_blank b) line = ap (λ t. cond t [] (b ∷ less_comment (is_blank b) line)) e in
        ap (less_comment opens) some
        ∙ ap (λ t. cond t [] (b ∷ less_comment (is_blank b) (less_comment (is_blank b) line))) e
        ∙ ap (λ (l : List ℕ). b ∷ l) more
        ∙ sym some

-- what counts of a line has no comment
pub content-plain : (line : List ℕ) → less_comment true (line_content line) ≡ line_content line
content-plain line =
    let kept = less_blanks_before (less_comment true line) in
    plain-take true kept (length kept - suffix_len is_blank kept) (plain-blanks (less_comment true line) (plain-comment true line))

-- ---- blanks

prefix-dropped : (text : List ℕ) → prefix_len is_blank (less_blanks_before text) ≡ 0
prefix-dropped [] = refl
prefix-dropped (b ∷ text) = by (prefix-dropped text) (is_blank b) refl
  where
    by : prefix_len is_blank (less_blanks_before text) ≡ 0 → (t : Bool) → is_blank b ≡ t → prefix_len is_blank (less_blanks_before (b ∷ text)) ≡ 0
    by more true e = ap (λ t. prefix_len is_blank (drop (cond t (1 + prefix_len is_blank text) 0) (b ∷ text))) e ∙ ap (prefix_len is_blank) (drop-past b text (prefix_len is_blank text)) ∙ more
    by more false e = ap (λ t. prefix_len is_blank (drop (cond t (1 + prefix_len is_blank text) 0) (b ∷ text))) e ∙ ap (λ t. cond t (1 + prefix_len is_blank text) 0) e

-- nothing is left to drop at the front
pub begins-dropped : (text : List ℕ) → less_blanks_before (less_blanks_before text) ≡ less_blanks_before text
begins-dropped text = no_blanks_before (less_blanks_before text) (prefix-dropped text)

suffix-dropped : (text : List ℕ) → suffix_len is_blank (less_blanks_behind text) ≡ 0
suffix-dropped text = by (length text - suffix_len is_blank text) refl
  where
    by : (n : ℕ) → length text - suffix_len is_blank text ≡ n → suffix_len is_blank (take n text) ≡ 0
    by zero e = refl
    by (suc m) e =
        let k = suffix_len is_blank text in
        let lt : k < length (reverse text) = omega (arith, e, length-reverse text) in
        let at : length text - 1 - k ≡ suc m - 1 = omega (arith, e) in
        suffix_len-take_no is_blank text (suc m) 0 (omega arith) (omega (arith, e))
        (ap is_blank (ap (λ i. get_or text i 0) (sym at) ∙ sym (get_or-reverse text k 0 (omega (arith, e)))) ∙ prefix_len_stops is_blank (reverse text) 0 lt)

-- a text behind another one ends without a blank where both together do
suffix-part : (front text : List ℕ) → suffix_len is_blank (front ++ text) ≡ 0 → suffix_len is_blank text ≡ 0
suffix-part front text none = first (reverse text) (reverse front) (ap (prefix_len is_blank) (sym (reverse-append front text)) ∙ none)
  where
    first : (xs ys : List ℕ) → prefix_len is_blank (xs ++ ys) ≡ 0 → prefix_len is_blank xs ≡ 0
    first [] ys e = refl
    first (x ∷ xs) ys e = by (is_blank x) refl e
      where
        by : (t : Bool) → is_blank x ≡ t → cond t (1 + prefix_len is_blank (xs ++ ys)) 0 ≡ 0 → cond (is_blank x) (1 + prefix_len is_blank xs) 0 ≡ 0
        by true same zero_is = absurd (omega (arith, zero_is))
        by false same zero_is = ap (λ t. cond t (1 + prefix_len is_blank xs) 0) same

-- what stands behind the first blanks ends as the text does
pub behind-ends : (text : List ℕ) → suffix_len is_blank text ≡ 0 → suffix_len is_blank (behind_blank text) ≡ 0
behind-ends text none =
    let rest = drop (word_len text) text in
    suffix-part (take (prefix_len is_blank rest) rest) (behind_blank text)
    (ap (suffix_len is_blank) (take-append-drop (prefix_len is_blank rest) rest)
    ∙ suffix-part (take (word_len text) text) rest (ap (suffix_len is_blank) (take-append-drop (word_len text) text) ∙ none))

pub content-ends : (line : List ℕ) → suffix_len is_blank (line_content line) ≡ 0
content-ends line = suffix-dropped (less_blanks_before (less_comment true line))

pub drop-ends : (text : List ℕ) (n : ℕ) → suffix_len is_blank text ≡ 0 → suffix_len is_blank (drop n text) ≡ 0
drop-ends text n none = suffix-part (take n text) (drop n text) (ap (suffix_len is_blank) (take-append-drop n text) ∙ none)

-- what stands behind the first blanks of a text that has neither a comment nor a blank at its end is a value
pub behind-value : (opens : Bool) (text : List ℕ) → less_comment opens text ≡ text → suffix_len is_blank text ≡ 0 → IsText (behind_blank text) → IsValue (behind_blank text)
behind-value opens text plain ends is = record {
  text = is;
  begins = begins-dropped (drop (word_len text) text);
  ends = no_blanks_behind (behind_blank text) (behind-ends text ends);
  plain = plain-behind opens text plain;
}

-- a word, a blank and what stands behind the first blanks are no longer than the text
pub parts-short : (text : List ℕ) → 0 < length (behind_blank text) → length (before_blank text) + 1 + length (behind_blank text) ≤ length text
parts-short [] some = absurd (omega arith)
parts-short (b ∷ text) some = by (parts-short text) (is_blank b) refl
  where
    by : (0 < length (behind_blank text) → length (before_blank text) + 1 + length (behind_blank text) ≤ length text)
        → (t : Bool) → is_blank b ≡ t → length (before_blank (b ∷ text)) + 1 + length (behind_blank (b ∷ text)) ≤ length (b ∷ text)
    by shorter true e =
        let before : before_blank (b ∷ text) ≡ [] = ap (λ t. take (cond (not t) (1 + word_len text) 0) (b ∷ text)) e in
        let rest : behind_blank (b ∷ text) ≡ less_blanks_before text =
        ap (λ t. less_blanks_before (drop (cond (not t) (1 + word_len text) 0) (b ∷ text))) e ∙ ap (λ t. drop (cond t (1 + prefix_len is_blank text) 0) (b ∷ text)) e ∙ drop-past b text (prefix_len is_blank text) in
        omega (arith, ap length before, ap length rest, length-drop (prefix_len is_blank text) text)
    by shorter false e =
        let before : before_blank (b ∷ text) ≡ b ∷ before_blank text = ap (λ t. take (cond (not t) (1 + word_len text) 0) (b ∷ text)) e ∙ take-past b text (word_len text) in
        let rest : behind_blank (b ∷ text) ≡ behind_blank text =
        ap (λ t. less_blanks_before (drop (cond (not t) (1 + word_len text) 0) (b ∷ text))) e ∙ ap less_blanks_before (drop-past b text (word_len text)) in
        let more = shorter (subst (λ (l : List ℕ). 0 < length l) rest some) in
        omega (arith, ap length before, ap length rest, more)
