-- What counts of a line that is written.
use Rattle.std.proofs.Common.{◌≡◌, ℕ, ◌+◌, ◌-◌, ◌<◌, ◌==◌, ◌&&◌, Bool, true, false, cond, List, [], ◌∷◌, ◌++◌, length, take, drop, reverse, refl, sym, ap, subst, ◌∙◌, arith, suc}
use Rattle.std.specs.Prelude.{not}
use Rattle.std.specs.List.{list_all, prefix_len, suffix_len}
use Rattle.std.proofs.lemmas.Bool.{and_parts, not-true}
use Rattle.std.proofs.lemmas.List.{append-nil, take_at, drop_at, take_all, length-take, length-drop, length-append, reverse-append, length-reverse}
use Rattle.std.specs.Prelude.{All}
use Rattle.std.proofs.lemmas.List.Elements.{All-head}
use Rattle.std.proofs.lemmas.List.Sorted.{All-permutation, IsPermutation-reverse}
use Rattle.std.proofs.lemmas.List.Sums.{prefix_len-le-length, suffix_len-le-length, AllPass-from_list_all}
use Rattle.tl_model.specs.Words.{is_blank}
use Rattle.tl_srctext.specs.Content.{less_comment, less_blanks_before, less_blanks_behind, word_len, before_blank, behind_blank}

-- a byte of a word: no blank and no `#`
abbrev pub is_word_byte : ℕ → Bool
is_word_byte b = not (is_blank b) && not (b == 35)

-- ---- numbers of bytes

pub drop-past : (b : ℕ) (text : List ℕ) (n : ℕ) → drop (1 + n) (b ∷ text) ≡ drop n text
drop-past b text n = let same : 1 + n ≡ suc n = omega arith in ap (λ m. drop m (b ∷ text)) same

pub take-past : (b : ℕ) (text : List ℕ) (n : ℕ) → take (1 + n) (b ∷ text) ≡ b ∷ take n text
take-past b text n = let same : 1 + n ≡ suc n = omega arith in ap (λ m. take m (b ∷ text)) same

-- ---- comments

-- a word before a blank keeps its bytes, and a comment may begin behind the blank
pub comment-word : (word rest : List ℕ) → list_all is_word_byte word ≡ true → less_comment false (word ++ 32 ∷ rest) ≡ word ++ 32 ∷ less_comment true rest
comment-word [] rest all = refl
comment-word (b ∷ word) rest all =
    let parts = and_parts (is_word_byte b) (list_all is_word_byte word) all in
    let byte = and_parts (not (is_blank b)) (not (b == 35)) parts.0 in
    ap (λ t. b ∷ less_comment t (word ++ 32 ∷ rest)) (not-true (is_blank b) byte.0) ∙ ap (λ (l : List ℕ). b ∷ l) (comment-word word rest parts.1)

pub comment-first : (b : ℕ) (word rest : List ℕ) → list_all is_word_byte (b ∷ word) ≡ true → less_comment true ((b ∷ word) ++ 32 ∷ rest) ≡ (b ∷ word) ++ 32 ∷ less_comment true rest
comment-first b word rest all =
    let parts = and_parts (is_word_byte b) (list_all is_word_byte word) all in
    let byte = and_parts (not (is_blank b)) (not (b == 35)) parts.0 in
    ap (λ t. cond t [] (b ∷ less_comment (is_blank b) (word ++ 32 ∷ rest))) (not-true (b == 35) byte.1)
    ∙ ap (λ t. b ∷ less_comment t (word ++ 32 ∷ rest)) (not-true (is_blank b) byte.0) ∙ ap (λ (l : List ℕ). b ∷ l) (comment-word word rest parts.1)

-- a text without a comment has none with a blank behind it
pub comment-blank : (opens : Bool) (text : List ℕ) → less_comment opens text ≡ text → less_comment opens (text ++ 32 ∷ []) ≡ text ++ 32 ∷ []
comment-blank opens [] is = by opens
  where
    by : (t : Bool) → less_comment t (32 ∷ []) ≡ 32 ∷ []
    by true = refl
    by false = refl
comment-blank opens (b ∷ text) is = by (comment-blank (is_blank b) text) (opens && b == 35) refl is
  where
    by : (less_comment (is_blank b) text ≡ text → less_comment (is_blank b) (text ++ 32 ∷ []) ≡ text ++ 32 ∷ [])
        → (t : Bool) → (opens && b == 35) ≡ t → cond t [] (b ∷ less_comment (is_blank b) text) ≡ b ∷ text
        → cond (opens && b == 35) [] (b ∷ less_comment (is_blank b) (text ++ 32 ∷ [])) ≡ b ∷ (text ++ 32 ∷ [])
    by rest true e same = absurd (cc)
    by rest false e same =
        ap (λ t. cond t [] (b ∷ less_comment (is_blank b) (text ++ 32 ∷ []))) e
        ∙ ap (λ (l : List ℕ). b ∷ l) (rest (ap (drop 1) same))

-- ---- blanks at the ends

-- a text that loses nothing at its front has no blank there
pub none_before : (text : List ℕ) → less_blanks_before text ≡ text → prefix_len is_blank text ≡ 0
none_before text is =
    omega (arith, ap length is, length-drop (prefix_len is_blank text) text, prefix_len-le-length is_blank text)

pub none_behind : (text : List ℕ) → less_blanks_behind text ≡ text → suffix_len is_blank text ≡ 0
none_behind text is =
    let taken : length (take (length text - suffix_len is_blank text) text) ≡ length text = ap length is in
    let le = suffix_len-le-length is_blank text in
    omega (arith, taken, le, length-take (length text - suffix_len is_blank text) text)

prefix-more : (p : ℕ → Bool) (xs ys : List ℕ) → 0 < length xs → prefix_len p xs ≡ 0 → prefix_len p (xs ++ ys) ≡ 0
prefix-more p [] ys some none = absurd (omega arith)
prefix-more p (x ∷ xs) ys some none = by (p x) refl none
  where
    by : (t : Bool) → p x ≡ t → cond t (1 + prefix_len p xs) 0 ≡ 0 → cond (p x) (1 + prefix_len p (xs ++ ys)) 0 ≡ 0
    by true e zero_is = absurd (omega (arith, zero_is))
    by false e zero_is = ap (λ t. cond t (1 + prefix_len p (xs ++ ys)) 0) e

-- what stands in front of a text that ends with no blank changes nothing there
pub behind-more : (front text : List ℕ) → 0 < length text → suffix_len is_blank text ≡ 0 → suffix_len is_blank (front ++ text) ≡ 0
behind-more front text some none =
    ap (prefix_len is_blank) (reverse-append front text) ∙ prefix-more is_blank (reverse text) (reverse front) (omega (arith, some, length-reverse text)) none

-- a text without a blank has none at its end
pub word-behind : (word : List ℕ) → list_all is_word_byte word ≡ true → suffix_len is_blank word ≡ 0
word-behind word all =
    first (reverse word) (All-permutation (λ b. is_word_byte b ≡ true) word (reverse word) (IsPermutation-reverse word) (AllPass-from_list_all is_word_byte word all))
  where
    first : (text : List ℕ) → All (λ b. is_word_byte b ≡ true) text → prefix_len is_blank text ≡ 0
    first [] each = refl
    first (b ∷ text) each =
        ap (λ t. cond t (1 + prefix_len is_blank text) 0) (not-true (is_blank b) (and_parts (not (is_blank b)) (not (b == 35)) (All-head (λ b. is_word_byte b ≡ true) b text each)).0)

pub no_blanks_behind : (text : List ℕ) → suffix_len is_blank text ≡ 0 → less_blanks_behind text ≡ text
no_blanks_behind text none = ap (λ n. take (length text - n) text) none ∙ take_all (length text - 0) text (omega arith)

pub no_blanks_before : (text : List ℕ) → prefix_len is_blank text ≡ 0 → less_blanks_before text ≡ text
no_blanks_before text none = ap (λ n. drop n text) none

-- one blank behind a text is taken off
pub blank_behind : (text : List ℕ) → suffix_len is_blank text ≡ 0 → less_blanks_behind (text ++ 32 ∷ []) ≡ text
blank_behind text none =
    let one : suffix_len is_blank (text ++ 32 ∷ []) ≡ 1 = ap (prefix_len is_blank) (reverse-append text (32 ∷ [])) ∙ ap (λ n. 1 + n) none in
    ap (λ n. take (length (text ++ 32 ∷ []) - n) (text ++ 32 ∷ [])) one
    ∙ take_at text (32 ∷ []) (length (text ++ 32 ∷ []) - 1) (omega (arith, length-append text (32 ∷ [])))

-- ---- words

pub word-len : (word rest : List ℕ) (b : ℕ) → list_all is_word_byte word ≡ true → is_blank b ≡ true → word_len (word ++ b ∷ rest) ≡ length word
word-len [] rest b all blank = ap (λ t. cond (not t) (1 + word_len rest) 0) blank
word-len (c ∷ word) rest b all blank =
    let parts = and_parts (is_word_byte c) (list_all is_word_byte word) all in
    ap (λ t. cond t (1 + word_len (word ++ b ∷ rest)) 0) (and_parts (not (is_blank c)) (not (c == 35)) parts.0).0
    ∙ ap (λ n. 1 + n) (word-len word rest b parts.1 blank) ∙ omega arith

pub word-alone : (word : List ℕ) → list_all is_word_byte word ≡ true → word_len word ≡ length word
word-alone [] all = refl
word-alone (c ∷ word) all =
    let parts = and_parts (is_word_byte c) (list_all is_word_byte word) all in
    ap (λ t. cond t (1 + word_len word) 0) (and_parts (not (is_blank c)) (not (c == 35)) parts.0).0
    ∙ ap (λ n. 1 + n) (word-alone word parts.1) ∙ omega arith

-- a word stands before the blank that follows it, and what has no blank at its front behind it
pub before-word : (word rest : List ℕ) → list_all is_word_byte word ≡ true → before_blank (word ++ 32 ∷ rest) ≡ word
before-word word rest all = take_at word (32 ∷ rest) (word_len (word ++ 32 ∷ rest)) (sym (word-len word rest 32 all refl))

pub behind-word : (word rest : List ℕ) → list_all is_word_byte word ≡ true → prefix_len is_blank rest ≡ 0 → behind_blank (word ++ 32 ∷ rest) ≡ rest
behind-word word rest all none =
    ap less_blanks_before (drop_at word (32 ∷ rest) (word_len (word ++ 32 ∷ rest)) (sym (word-len word rest 32 all refl)))
    ∙ ap (λ n. drop (1 + n) (32 ∷ rest)) none

pub before-alone : (word : List ℕ) → list_all is_word_byte word ≡ true → before_blank word ≡ word
before-alone word all = take_all (word_len word) word (omega (arith, word-alone word all))

pub behind-alone : (word : List ℕ) → list_all is_word_byte word ≡ true → behind_blank word ≡ []
behind-alone word all =
    ap less_blanks_before (subst (λ (w : List ℕ). drop (word_len word) w ≡ []) (append-nil word) (drop_at word [] (word_len word) (sym (word-alone word all))))
