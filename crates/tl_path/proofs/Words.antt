-- Names and tags are ASCII, and how far a text goes on as a name.
use Rattle.std.proofs.Common.{◌≡◌, ℕ, ◌+◌, ◌<◌, ◌≤◌, Bool, true, false, cond, ◌&&◌, List, [], ◌∷◌, ◌++◌, length, get_or, take, refl, sym, ◌∙◌, ap, nat_le, min, suc, zero, arith, length-append}
use Rattle.std.specs.List.{list_all, prefix_len}
use Rattle.std.specs.Str.{IsAscii, IsUtf8}
use Rattle.std.proofs.lemmas.Str.{IsUtf8-from_ascii}
use Rattle.std.proofs.lemmas.List.{length-take-le, get_or-take, get_or_append_left, append-nil}
use Rattle.std.proofs.lemmas.List.Folds.{list_all-append}
use Rattle.std.proofs.lemmas.Bool.{true≢false}
use Rattle.std.proofs.lemmas.Bool.Decides.{nat_tests}
use Rattle.tl_path.specs.Bytes.{is_letter_or_digit, is_lower_or_digit, is_of_name, is_of_tag, is_of_platform}
use Rattle.tl_path.specs.Names.{is_word, is_name, is_tag, is_platform, IsLongestNameFront}

left : (a b : Bool) → (a && b) ≡ true → a ≡ true
left true b h = refl
left false b h = absurd (true≢false (sym h))

right : (a b : Bool) → (a && b) ≡ true → b ≡ true
right true b h = h
right false b h = absurd (true≢false (sym h))

both : (a b : Bool) → a ≡ true → b ≡ true → (a && b) ≡ true
both a b h k = rw (h, k)

ascii : (p : ℕ → Bool) → ((b : ℕ) → p b ≡ true → b < 128) → (text : List ℕ) → list_all p text ≡ true → IsAscii text
ascii p small [] h i = omega arith
ascii p small (b ∷ text) h zero = small b (left (p b) _ h)
ascii p small (b ∷ text) h (suc i) = ascii p small text (right (p b) _ h) i

word_first : (first other : ℕ → Bool) (most : ℕ) (text : List ℕ) → is_word first other most text ≡ true → first (get_or text 0 0) ≡ true
word_first first other most text h =
    left (first (get_or text 0 0)) (list_all other text)
    (right (nat_le (length text) most) (first (get_or text 0 0) && list_all other text)
    (right (nat_le 1 (length text)) (nat_le (length text) most && (first (get_or text 0 0) && list_all other text)) h))

pub word_all : (first other : ℕ → Bool) (most : ℕ) (text : List ℕ) → is_word first other most text ≡ true → list_all other text ≡ true
word_all first other most text h =
    right (first (get_or text 0 0)) (list_all other text)
    (right (nat_le (length text) most) (first (get_or text 0 0) && list_all other text)
    (right (nat_le 1 (length text)) (nat_le (length text) most && (first (get_or text 0 0) && list_all other text)) h))

at_most : (n m : ℕ) → nat_le n m ≡ true → n ≤ m
at_most n m h = grind (arith, nat_tests, h)

le_test : (n m : ℕ) → n ≤ m → nat_le n m ≡ true
le_test n m h = grind (arith, nat_tests, h)

pub word_short : (first other : ℕ → Bool) (most : ℕ) (text : List ℕ) → is_word first other most text ≡ true → length text ≤ most
word_short first other most text h =
    at_most (length text) most
    (left (nat_le (length text) most) (first (get_or text 0 0) && list_all other text)
    (right (nat_le 1 (length text)) (nat_le (length text) most && (first (get_or text 0 0) && list_all other text)) h))

-- each byte of a platform is one that platforms have, and it is short
pub platform_bytes : (text : List ℕ) → is_platform text ≡ true → list_all is_of_platform text ≡ true
platform_bytes text is = word_all is_lower_or_digit is_of_platform 32 text is

pub platform_short : (text : List ℕ) → is_platform text ≡ true → length text ≤ 32
platform_short text is = word_short is_lower_or_digit is_of_platform 32 text is

make_word : (first other : ℕ → Bool) (most : ℕ) (text : List ℕ) → 0 < length text → length text ≤ most → first (get_or text 0 0) ≡ true → list_all other text ≡ true → is_word first other most text ≡ true
make_word first other most text some short f all =
    both _ _ (le_test 1 (length text) (omega arith)) (both _ _ (le_test (length text) most short) (both _ _ f all))

pub word_utf8 : (first other : ℕ → Bool) (most : ℕ) → ((b : ℕ) → other b ≡ true → b < 128) → (text : List ℕ) → is_word first other most text ≡ true → IsUtf8 text
word_utf8 first other most small text h =
    IsUtf8-from_ascii text (ascii other small text (word_all first other most text h))

pub is_of_name-small : (b : ℕ) → is_of_name b ≡ true → b < 128
is_of_name-small b h = grind (arith, nat_tests, h)

pub is_of_tag-small : (b : ℕ) → is_of_tag b ≡ true → b < 128
is_of_tag-small b h = grind (arith, nat_tests, h)

pub is_of_platform-small : (b : ℕ) → is_of_platform b ≡ true → b < 128
is_of_platform-small b h = grind (arith, nat_tests, h)

pub name_utf8 : (text : List ℕ) → is_name text ≡ true → IsUtf8 text
name_utf8 = word_utf8 is_letter_or_digit is_of_name 128 is_of_name-small

pub tag_utf8 : (text : List ℕ) → is_tag text ≡ true → IsUtf8 text
tag_utf8 = word_utf8 is_letter_or_digit is_of_tag 64 is_of_tag-small

-- the longest front that passes a test

prefix_len-le : (p : ℕ → Bool) (xs : List ℕ) → prefix_len p xs ≤ length xs
prefix_len-le p [] = omega arith
prefix_len-le p (x ∷ xs) = at (p x) (prefix_len p xs) (length xs) (prefix_len-le p xs)
  where
    at : (b : Bool) (k n : ℕ) → k ≤ n → cond b (1 + k) 0 ≤ suc n
    at true k n h = omega arith
    at false k n h = omega arith

prefix_len-some : (p : ℕ → Bool) (xs : List ℕ) → 0 < length xs → p (get_or xs 0 0) ≡ true → 0 < prefix_len p xs
prefix_len-some p [] h f = absurd (omega arith)
prefix_len-some p (x ∷ xs) h f = rw f (omega arith)

all_front : (p : ℕ → Bool) (xs : List ℕ) (n : ℕ) → n ≤ prefix_len p xs → list_all p (take n xs) ≡ true
all_front p xs zero h = refl
all_front p [] (suc n) h = refl
all_front p (x ∷ xs) (suc n) h = at (p x) (prefix_len p xs) (list_all p (take n xs)) h (all_front p xs n)
  where
    at : (b : Bool) (k : ℕ) (rest : Bool) → suc n ≤ cond b (1 + k) 0 → (n ≤ k → rest ≡ true) → (b && rest) ≡ true
    at true k rest h more = more (omega arith)
    at false k rest h more = absurd (omega arith)

front_all : (p : ℕ → Bool) (xs : List ℕ) (m : ℕ) → m ≤ length xs → list_all p (take m xs) ≡ true → m ≤ prefix_len p xs
front_all p xs zero h all = omega arith
front_all p [] (suc m) h all = absurd (omega arith)
front_all p (x ∷ xs) (suc m) h all = at (p x) (prefix_len p xs) (list_all p (take m xs)) all (front_all p xs m (omega arith))
  where
    at : (b : Bool) (k : ℕ) (rest : Bool) → (b && rest) ≡ true → (rest ≡ true → m ≤ k) → suc m ≤ cond b (1 + k) 0
    at true k rest h more = let le = more h in omega arith
    at false k rest h more = absurd (true≢false (sym h))

first_in_name : (b : ℕ) → is_letter_or_digit b ≡ true → is_of_name b ≡ true
first_in_name b h = rw h

pub longest_front : (text : List ℕ) → 0 < length text → is_letter_or_digit (get_or text 0 0) ≡ true → IsLongestNameFront text (min (prefix_len is_of_name text) 128)
longest_front text some first =
    let k : ℕ = prefix_len is_of_name text in
    let n : ℕ = min k 128 in
    let le : k ≤ length text = prefix_len-le is_of_name text in
    let pos : 0 < k = prefix_len-some is_of_name text some (first_in_name (get_or text 0 0) first) in
    let len : length (take n text) ≡ n = length-take-le n text (omega arith) in
    let named : is_name (take n text) ≡ true = make_word is_letter_or_digit is_of_name 128 (take n text) (omega arith) (omega arith)
    (rw (get_or-take n text 0 0 (omega arith)) first) (all_front is_of_name text n (omega arith)) in
    record {
      within = omega arith;
      front = ([], rw append-nil named);
      longest = λ m above within found.
          let all : list_all is_of_name (take m text ++ found.0) ≡ true = word_all is_letter_or_digit is_of_name 128 (take m text ++ found.0) found.1 in
          let short : length (take m text ++ found.0) ≤ 128 = word_short is_letter_or_digit is_of_name 128 (take m text ++ found.0) found.1 in
          let size : length (take m text) ≡ m = length-take-le m text within in
          let both_parts : (list_all is_of_name (take m text) && list_all is_of_name found.0) ≡ true = sym (list_all-append is_of_name (take m text) found.0) ∙ all in
          let far : m ≤ k = front_all is_of_name text m within (left (list_all is_of_name (take m text)) (list_all is_of_name found.0) both_parts) in
          omega (arith, length-append (take m text) found.0);
    }

pub no_front : (text : List ℕ) → (0 < length text → is_letter_or_digit (get_or text 0 0) ≡ false) → IsLongestNameFront text 0
no_front text none = record {
  within = omega arith;
  front = (97 ∷ [], refl);
  longest = λ m above within found.
      let first : is_letter_or_digit (get_or (take m text ++ found.0) 0 0) ≡ true = word_first is_letter_or_digit is_of_name 128 (take m text ++ found.0) found.1 in
      let size : length (take m text) ≡ m = length-take-le m text within in
      let same : get_or (take m text ++ found.0) 0 0 ≡ get_or text 0 0
      = get_or_append_left (take m text) found.0 0 0 (omega arith) ∙ get_or-take m text 0 0 (omega arith) in
      true≢false (sym first ∙ ap is_letter_or_digit same ∙ none (omega arith));
}
