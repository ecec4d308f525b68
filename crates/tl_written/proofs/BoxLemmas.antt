-- The lines of containers: a number's digits, and a digest's.
use Rattle.std.proofs.Common.{◌≡◌, ◌⊎◌, ℕ, zero, suc, ◌+◌, ◌-◌, ◌*◌, ◌/◌, ◌%◌, ◌==◌, ◌^◌, ◌<◌, ◌≤◌, Bool, true, false, not, ◌&&◌, ◌||◌, List, [], ◌∷◌, ◌++◌, length, slice_index, fold, Option, Some, None, inl, inr, refl, sym, ◌∙◌, ap, arith, append_assoc}
use Rattle.std.specs.Prelude.{nat_le}
use Rattle.std.specs.Borrow.{Bor}
use Rattle.std.proofs.lemmas.Bool.{and_from, and_parts, cases_lt, eqb-true, leb-true, true≢false}
use Rattle.std.proofs.lemmas.List.Folds.{fold_stays}
use Rattle.tl_model.specs.Decimal.{decimal_text}
use Rattle.tl_model.specs.Acks.{plain-nil, plain-append}
use Rattle.hex.specs.Hex.{IsBytes, encode_with, encode_lower, lower_digits}
use Rattle.tl_entry.specs.declared.object.Container.{Container}
use Rattle.tl_object.specs.Plain.{is_key}
use Rattle.hex.proofs.HexLemmas.{length-encode_with}
use Rattle.tl_object.specs.Formed.{IsDigest, IsFormedSize, IsFormedDigest, IsFormedBox}
use Rattle.tl_object.specs.Writing.{key_line, size_line, digest_line, container_lines}
use Rattle.tl_object.proofs.PlainLemmas.{plain_key_line, line_of_number, line_of_digest}
use Rattle.tl_written.specs.Stands.{Stands}
use Rattle.tl_written.specs.Found.{LacksEach, Finds, is_apart}
use Rattle.tl_written.specs.Pieces.{is_lower_digit, is_digest_text}
use Rattle.tl_written.proofs.StandLemmas.{behind-both}
use Rattle.tl_written.proofs.TextLemmas.{IsOptional}
use Rattle.tl_written.proofs.FindLemmas.{skip}
use Rattle.tl_written.proofs.BeginLemmas.{digest_line-begins}

-- an absent size has no line
pub no_size : (key text : List ℕ) → Stands (size_line key) IsFormedSize text text
no_size key text = record { value = None; same = refl; plain = plain-nil; is = tt }

-- the line of a size
pub size_stands : (key digits text rest : List ℕ) (n : ℕ) → is_key key ≡ true → text ≡ key_line key digits ++ rest → digits ≡ decimal_text n → n < 2 ^ 64 → Stands (size_line key) IsFormedSize text rest
size_stands key digits text rest n begins same shown small = record {
  value = Some n;
  same = same ∙ ap (λ (d : List ℕ). key_line key d ++ rest) shown;
  plain = plain_key_line key (decimal_text n) begins (line_of_number n small);
  is = small;
}

-- an absent digest has no line
pub no_digest : (key text : List ℕ) → Stands (digest_line key) IsFormedDigest text text
no_digest key text = record { value = None; same = refl; plain = plain-nil; is = tt }

-- whether each number below n passes a test
abbrev all_below : (ℕ → Bool) → ℕ → Bool
all_below test zero = true
all_below test (suc n) = test n && all_below test n

below_at : (test : ℕ → Bool) (n k : ℕ) → all_below test n ≡ true → k < n → test k ≡ true
below_at test zero k all lt = absurd (omega arith)
below_at test (suc n) k all lt =
    let parts = and_parts (test n) (all_below test n) all in
    elim (cases_lt k n) [
      | inl below ↦ below_at test n k parts.1 below
      | inr top ↦
          let e : k ≡ n = omega arith in
          ap test e ∙ parts.0
    ]

decimal_at : (k : ℕ) → k < 10 → slice_index lower_digits k ≡ 48 + k
decimal_at k lt = eqb-true (slice_index lower_digits k) (48 + k) (below_at (λ i. slice_index lower_digits i == 48 + i) 10 k refl lt)

letter_at : (k : ℕ) → k < 6 → slice_index lower_digits (10 + k) ≡ 97 + k
letter_at k lt = eqb-true (slice_index lower_digits (10 + k)) (97 + k) (below_at (λ i. slice_index lower_digits (10 + i) == 97 + i) 6 k refl lt)

-- the value of a digit
record HasValue (digit : ℕ) : Type 0 where
  value : ℕ
  small : value < 16
  shown : slice_index lower_digits value ≡ digit

from_either : (a b : Bool) → (a || b) ≡ true → (a ≡ true) ⊎ (b ≡ true)
from_either true b is = inl refl
from_either false b is = inr is

within : (low high b : ℕ) → (nat_le low b && nat_le b high) ≡ true → (low ≤ b) × (b ≤ high)
within low high b is =
    let parts = and_parts (nat_le low b) (nat_le b high) is in
    (leb-true low b parts.0, leb-true b high parts.1)

digit_value : (digit : ℕ) → is_lower_digit digit ≡ true → HasValue digit
digit_value digit is = elim (from_either (nat_le 48 digit && nat_le digit 57) (nat_le 97 digit && nat_le digit 102) is) [
  | inl decimal ↦
      let bounds = within 48 57 digit decimal in
      let back : 48 + (digit - 48) ≡ digit = omega (arith, bounds.0) in
      record { value = digit - 48; small = omega (arith, bounds.0, bounds.1); shown = decimal_at (digit - 48) (omega (arith, bounds.0, bounds.1)) ∙ back }
  | inr letter ↦
      let bounds = within 97 102 digit letter in
      let back : 97 + (digit - 97) ≡ digit = omega (arith, bounds.0) in
      record { value = 10 + (digit - 97); small = omega (arith, bounds.0, bounds.1); shown = letter_at (digit - 97) (omega (arith, bounds.0, bounds.1)) ∙ back }
]

-- bytes whose digits are a text
record AreDigits (n : ℕ) (text : List ℕ) : Type 0 where
  bytes : List ℕ
  count : length bytes ≡ n
  small : IsBytes bytes
  same : text ≡ encode_lower bytes

byte_more : (b : ℕ) (bytes : List ℕ) → b < 256 → IsBytes bytes → IsBytes (b ∷ bytes)
byte_more b bytes small each zero = small
byte_more b bytes small each (suc i) = each i

-- two digits in front of others
digits_more : (n x y : ℕ) (text : List ℕ) → HasValue x → HasValue y → AreDigits n text → AreDigits (suc n) (x ∷ y ∷ text)
unfolding encode_with
digits_more n x y text high low more =
    let v = high.value in
    let w = low.value in
    let v_small : v < 16 = high.small in
    let w_small : w < 16 = low.small in
    let b = 16 * v + w in
    let first : x ≡ slice_index lower_digits (b / 16) = sym (ap (slice_index lower_digits) (omega arith) ∙ high.shown) in
    let second : y ≡ slice_index lower_digits (b % 16) = sym (ap (slice_index lower_digits) (omega arith) ∙ low.shown) in
    record {
      bytes = b ∷ more.bytes;
      count = ap suc more.count;
      small = byte_more b more.bytes (omega arith) more.small;
      same = ap (λ d. d ∷ y ∷ text) first ∙ ap (λ d. slice_index lower_digits (b / 16) ∷ d ∷ text) second
          ∙ ap (λ (t : List ℕ). slice_index lower_digits (b / 16) ∷ slice_index lower_digits (b % 16) ∷ t) more.same;
    }

all_from : (t : Bool) (text : List ℕ) → fold (λ all byte. all && is_lower_digit byte) t text ≡ true → (t ≡ true) × (fold (λ all byte. all && is_lower_digit byte) true text ≡ true)
all_from true text is = (refl, is)
all_from false text is = absurd (true≢false (sym is ∙ fold_stays (λ all byte. all && is_lower_digit byte) false (λ x. refl) text))

-- each text of digits, two for each byte, is that of some bytes
digits_of : (n : ℕ) (text : List ℕ) → length text ≡ n + n → fold (λ all byte. all && is_lower_digit byte) true text ≡ true → AreDigits n text
unfolding encode_with
digits_of zero [] len is = record { bytes = []; count = refl; small = λ i. omega arith; same = refl }
digits_of zero (x ∷ text) len is = absurd (omega arith)
digits_of (suc n) [] len is = absurd (omega arith)
digits_of (suc n) (x ∷ []) len is = absurd (omega arith)
digits_of (suc n) (x ∷ y ∷ text) len is =
    let parts = all_from (is_lower_digit x && is_lower_digit y) text is in
    let both = and_parts (is_lower_digit x) (is_lower_digit y) parts.0 in
    digits_more n x y text (digit_value x both.0) (digit_value y both.1) (digits_of n text (omega arith) parts.1)

-- the line of a digest
pub digest_stands : (key digits text rest : List ℕ) → is_key key ≡ true → text ≡ key_line key digits ++ rest → is_digest_text digits ≡ true → Stands (digest_line key) IsFormedDigest text rest
digest_stands key digits text rest begins same is =
    let parts = and_parts (length digits == 128) (fold (λ all byte. all && is_lower_digit byte) true digits) is in
    let read = digits_of 64 digits (eqb-true (length digits) 128 parts.0) parts.1 in
    record {
      value = Some read.bytes;
      same = same ∙ ap (λ (d : List ℕ). key_line key d ++ rest) read.same;
      plain = plain_key_line key (encode_lower read.bytes) begins (line_of_digest read.bytes);
      is = (read.count, read.small);
    }

-- ---- a size and a digest that are found

-- the line of a size is that of a key
pub size_optional : (key : List ℕ) → IsOptional key (size_line key) (λ n. n < 2 ^ 64) decimal_text
size_optional key = record { none = refl; some = λ n. refl; line = line_of_number }

-- no number is found where one is there to be found
pub undone : (n : ℕ) → None ≡ Some n → ⊥
undone n same = cc

-- the line of a digest is that of a key
pub digest_optional : (key : List ℕ) → IsOptional key (digest_line key) IsDigest encode_lower
digest_optional key = record { none = refl; some = λ digest. refl; line = λ digest is. line_of_digest digest }

-- each digit of the table is one of a number in base 16
lower_at : (k : ℕ) → k < 16 → is_lower_digit (slice_index lower_digits k) ≡ true
lower_at k lt = below_at (λ i. is_lower_digit (slice_index lower_digits i)) 16 k refl lt

-- each digit of some bytes is one of a number in base 16
each_lower : (bytes : List ℕ) → IsBytes bytes → fold (λ all byte. all && is_lower_digit byte) true (encode_lower bytes) ≡ true
unfolding encode_with
each_lower [] small = refl
each_lower (b ∷ bytes) small =
    let here : b < 256 = small 0 in
    let both = and_from (is_lower_digit (slice_index lower_digits (b / 16))) (is_lower_digit (slice_index lower_digits (b % 16))) (lower_at (b / 16) (omega arith)) (lower_at (b % 16) (omega arith)) in
    ap (λ t. fold (λ all byte. all && is_lower_digit byte) t (encode_lower bytes)) both ∙ each_lower bytes (λ i. small (suc i))

-- the digits of 64 bytes pass the test
digest_passes : (digest : List ℕ) → IsDigest digest → is_digest_text (encode_lower digest) ≡ true
digest_passes digest is =
    let digits : length (encode_lower digest) ≡ 128 = omega (arith, length-encode_with lower_digits digest, is.0) in
    and_from (length (encode_lower digest) == 128) (fold (λ all byte. all && is_lower_digit byte) true (encode_lower digest)) (ap (λ n. n == 128) digits) (each_lower digest is.1)

-- what fails the test is no digest
pub undigested : (digits digest : List ℕ) → is_digest_text digits ≡ false → IsDigest digest → digits ≡ encode_lower digest → ⊥
undigested digits digest fails is same = true≢false (sym (digest_passes digest is) ∙ ap is_digest_text (sym same) ∙ fails)

-- the lines of a container
pub box_stands : (size_key digest_key text mid rest : List ℕ) → Stands (size_line size_key) IsFormedSize text mid → Stands (digest_line digest_key) IsFormedDigest mid rest
    → Stands (container_lines size_key digest_key) IsFormedBox text rest
box_stands size_key digest_key text mid rest one two = record {
  value = record { size = one.value; digest = two.value };
  same = behind-both (size_line size_key one.value) (digest_line digest_key two.value) text mid rest one.same two.same;
  plain = plain-append (size_line size_key one.value) (digest_line digest_key two.value) one.plain two.plain;
  is = record { size = one.is; digest = two.is };
}

-- a test may be weakened at its second part
or_more : (a b c : Bool) → (b ≡ true → c ≡ true) → (a || b) ≡ true → (a || c) ≡ true
or_more true b c more is = refl
or_more false b c more is = more is

-- words that are apart stay so with more behind them
apart_more : (word other a b : List ℕ) → is_apart word other ≡ true → is_apart (word ++ a) (other ++ b) ≡ true
apart_more [] other a b is = absurd (cc)
apart_more (x ∷ word) [] a b is = absurd (cc)
apart_more (x ∷ word) (y ∷ other) a b is = or_more (not (x == y)) (is_apart word other) (is_apart (word ++ a) (other ++ b)) (apart_more word other a b) is

-- the lines of a container, cut behind the size
pub record BoxCut (size_key digest_key text rest : List ℕ) (box : Container) : Type 0 where
  pub same : text ≡ size_line size_key box.size ++ (digest_line digest_key box.digest ++ rest)
  pub lacks : LacksEach (digest_line digest_key box.digest ++ rest) ((size_key ++ 32 ∷ []) ∷ [])

-- behind the size stands what doesn't begin with the size's key
pub box_cut : (size_key digest_key text rest : List ℕ) (box : Container) → is_apart digest_key size_key ≡ true → LacksEach rest ((size_key ++ 32 ∷ []) ∷ (digest_key ++ 32 ∷ []) ∷ []) → text ≡ container_lines size_key digest_key box ++ rest
    → BoxCut size_key digest_key text rest box
box_cut size_key digest_key text rest box apart lacks same =
    let spaced = apart_more digest_key size_key (32 ∷ []) (32 ∷ []) apart in
    record {
      same = same ∙ append_assoc (size_line size_key box.size) (digest_line digest_key box.digest) rest;
      lacks = skip (digest_key ++ 32 ∷ []) (digest_line digest_key box.digest) rest ((size_key ++ 32 ∷ []) ∷ []) (digest_line-begins digest_key box.digest) (and_from _ true spaced refl) (lacks.0, tt);
    }

-- where no size is found in front of what lacks its key, no container is written
pub box-fails : (size_key digest_key text : List ℕ) → is_apart digest_key size_key ≡ true
    → ((size : Option ℕ) (rest : List ℕ) → IsFormedSize size → LacksEach rest ((size_key ++ 32 ∷ []) ∷ []) → text ≡ size_line size_key size ++ rest → ⊥)
    → (box : Container) (rest : List ℕ) → IsFormedBox box → LacksEach rest ((size_key ++ 32 ∷ []) ∷ (digest_key ++ 32 ∷ []) ∷ []) → text ≡ container_lines size_key digest_key box ++ rest → ⊥
box-fails size_key digest_key text apart none box rest is lacks same =
    let cut = box_cut size_key digest_key text rest box apart lacks same in
    none box.size (digest_line digest_key box.digest ++ rest) is.size cut.lacks cut.same

-- the size and then the digest of a container are found
pub box-finds : (size_key digest_key text mid : List ℕ) (found : Option (Bor (List ℕ))) → is_apart digest_key size_key ≡ true
    → ((size : Option ℕ) (rest : List ℕ) → IsFormedSize size → LacksEach rest ((size_key ++ 32 ∷ []) ∷ []) → text ≡ size_line size_key size ++ rest → mid ≡ rest)
    → Finds (digest_line digest_key) IsFormedDigest ((digest_key ++ 32 ∷ []) ∷ []) mid found
    → Finds (container_lines size_key digest_key) IsFormedBox ((size_key ++ 32 ∷ []) ∷ (digest_key ++ 32 ∷ []) ∷ []) text found
box-finds size_key digest_key text mid found apart one two box rest is lacks same =
    let cut = box_cut size_key digest_key text rest box apart lacks same in
    two box.digest rest is.digest lacks.1 (one box.size (digest_line digest_key box.digest ++ rest) is.size cut.lacks cut.same)
