-- Values that are made of words.
use Rattle.std.proofs.Common.{◌≡◌, ℕ, ◌+◌, ◌<◌, ◌≤◌, ◌==◌, ◌&&◌, Bool, true, false, cond, List, [], ◌∷◌, ◌++◌, length, drop, refl, sym, ap, ◌∙◌, arith, suc, zero, append_assoc}
use Rattle.std.specs.Prelude.{not, nat_le}
use Rattle.std.specs.List.{list_all, prefix_len, suffix_len}
use Rattle.std.specs.Str.{IsUtf8, is_utf8, IsAscii}
use Rattle.std.proofs.lemmas.Bool.{and_parts, and_from, not-true}
use Rattle.std.proofs.lemmas.Bool.Decides.{nat_tests}
use Rattle.std.proofs.lemmas.List.Folds.{list_all-append}
use Rattle.std.proofs.lemmas.Str.{IsUtf8-append, IsUtf8-from_ascii}
use Rattle.tl_model.specs.Words.{is_blank}
use Rattle.tl_text.specs.Texts.{IsText-from, IsUtf8-from_text}
use Rattle.tl_srctext.specs.Content.{less_comment, less_blanks_before}
use Rattle.tl_srctext.specs.Formed.{IsFullValue}
use Rattle.tl_srctext.proofs.TextLemmas.{is_word_byte, comment-first, none_behind, behind-more, word-behind, no_blanks_behind}

-- a byte that may stand anywhere in a word
abbrev pub is_ink : ℕ → Bool
is_ink b = (nat_le 33 b && nat_le b 126) && not (b == 35)

ink_byte : (b : ℕ) → is_ink b ≡ true → (is_word_byte b ≡ true) × (b < 128) × (not (b == 10) ≡ true)
ink_byte b is = (grind (arith, nat_tests), grind (arith, nat_tests), grind (arith, nat_tests))

pub ink_word : (word : List ℕ) → list_all is_ink word ≡ true → list_all is_word_byte word ≡ true
ink_word [] all = refl
ink_word (b ∷ word) all = let parts = and_parts (is_ink b) (list_all is_ink word) all in and_from _ _ (ink_byte b parts.0).0 (ink_word word parts.1)

ink_ascii : (word : List ℕ) → list_all is_ink word ≡ true → IsAscii word
ink_ascii [] all i = omega arith
ink_ascii (b ∷ word) all zero = (ink_byte b (and_parts (is_ink b) (list_all is_ink word) all).0).1
ink_ascii (b ∷ word) all (suc i) = ink_ascii word (and_parts (is_ink b) (list_all is_ink word) all).1 i

ink_line : (word : List ℕ) → list_all is_ink word ≡ true → list_all (λ b. not (b == 10)) word ≡ true
ink_line [] all = refl
ink_line (b ∷ word) all = let parts = and_parts (is_ink b) (list_all is_ink word) all in and_from _ _ (ink_byte b parts.0).2 (ink_line word parts.1)

-- each byte of one kind is of another
pub all_of : (p q : ℕ → Bool) → ((b : ℕ) → p b ≡ true → q b ≡ true) → (bytes : List ℕ) → list_all p bytes ≡ true → list_all q bytes ≡ true
all_of p q each [] all = refl
all_of p q each (b ∷ bytes) all = let parts = and_parts (p b) (list_all p bytes) all in and_from _ _ (each b parts.0) (all_of p q each bytes parts.1)

comment-alone : (opens : Bool) (word : List ℕ) → list_all is_word_byte word ≡ true → less_comment opens word ≡ word
comment-alone opens [] all = refl
comment-alone opens (b ∷ word) all =
    let parts = and_parts (is_word_byte b) (list_all is_word_byte word) all in
    by opens (not-true (b == 35) (and_parts (not (is_blank b)) (not (b == 35)) parts.0).1) ∙ ap (λ (l : List ℕ). b ∷ l) (comment-alone (is_blank b) word parts.1)
  where
    by : (t : Bool) → (b == 35) ≡ false → cond (t && b == 35) [] (b ∷ less_comment (is_blank b) word) ≡ b ∷ less_comment (is_blank b) word
    by true e = ap (λ t. cond t [] (b ∷ less_comment (is_blank b) word)) e
    by false e = refl

first_apart : (b : ℕ) (word rest : List ℕ) → list_all is_word_byte (b ∷ word) ≡ true → less_blanks_before ((b ∷ word) ++ rest) ≡ (b ∷ word) ++ rest
first_apart b word rest all =
    ap (λ t. drop (cond t (1 + prefix_len is_blank (word ++ rest)) 0) ((b ∷ word) ++ rest))
    (not-true (is_blank b) (and_parts (not (is_blank b)) (not (b == 35)) (and_parts (is_word_byte b) (list_all is_word_byte word) all).0).0)

-- a word is a value
pub word-value : (b : ℕ) (word : List ℕ) → list_all is_ink (b ∷ word) ≡ true → length (b ∷ word) ≤ 65536 → IsFullValue (b ∷ word)
word-value b word all short = record {
  value = record {
    text = IsText-from (b ∷ word) (IsUtf8-from_ascii (b ∷ word) (ink_ascii (b ∷ word) all)) (ink_line (b ∷ word) all) short;
    begins = ap (λ t. drop (cond t (1 + prefix_len is_blank word) 0) (b ∷ word))
        (not-true (is_blank b) (and_parts (not (is_blank b)) (not (b == 35)) (and_parts (is_word_byte b) (list_all is_word_byte word) (ink_word (b ∷ word) all)).0).0);
    ends = no_blanks_behind (b ∷ word) (word-behind (b ∷ word) (ink_word (b ∷ word) all));
    plain = comment-alone true (b ∷ word) (ink_word (b ∷ word) all);
  };
  full = omega arith;
}

-- a word, a blank and a value are a value
pub pair-value : (b : ℕ) (word value : List ℕ) → list_all is_ink (b ∷ word) ≡ true → IsFullValue value → length ((b ∷ word) ++ 32 ∷ value) ≤ 65536 → IsFullValue ((b ∷ word) ++ 32 ∷ value)
pair-value b word value all is short = record {
  value = record {
    text = IsText-from ((b ∷ word) ++ 32 ∷ value) utf8 line short;
    begins = first_apart b word (32 ∷ value) (ink_word (b ∷ word) all);
    ends = no_blanks_behind ((b ∷ word) ++ 32 ∷ value)
        (ap (suffix_len is_blank) (sym (append_assoc (b ∷ word) (32 ∷ []) value)) ∙ behind-more ((b ∷ word) ++ 32 ∷ []) value is.full (none_behind value is.value.ends));
    plain = comment-first b word value (ink_word (b ∷ word) all) ∙ ap (λ (l : List ℕ). (b ∷ word) ++ 32 ∷ l) is.value.plain;
  };
  full = omega arith;
}
  where
    blank : IsAscii (32 ∷ [])
    blank zero = omega arith
    blank (suc i) = omega arith

    utf8 : IsUtf8 ((b ∷ word) ++ 32 ∷ value)
    utf8 = IsUtf8-append (b ∷ word) (32 ∷ value) (IsUtf8-from_ascii (b ∷ word) (ink_ascii (b ∷ word) all))
        (IsUtf8-append (32 ∷ []) value (IsUtf8-from_ascii (32 ∷ []) blank) (IsUtf8-from_text value is.value.text))

    line : list_all (λ b. not (b == 10)) ((b ∷ word) ++ 32 ∷ value) ≡ true
    line = list_all-append (λ b. not (b == 10)) (b ∷ word) (32 ∷ value) ∙ and_from _ _ (ink_line (b ∷ word) all) (and_parts (list_all (λ b. not (b == 10)) value) (nat_le (length value) 65536)
        (and_parts (is_utf8 value) (list_all (λ b. not (b == 10)) value && nat_le (length value) 65536) is.value.text).1).0
