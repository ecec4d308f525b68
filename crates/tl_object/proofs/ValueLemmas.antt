-- What the written values of an entry's lines read as.
use Rattle.std.proofs.Common.{◌≡◌, ℕ, zero, suc, ◌==◌, ◌^◌, ◌<◌, ◌≤◌, Bool, true, false, cond, not, ◌&&◌, ltb, List, [], ◌∷◌, ◌++◌, length, take, drop, Option, Some, None, Ok, Err, refl, ◌∙◌, ap, subst, arith}
use Rattle.std.specs.Char.{is_ascii_digit}
use Rattle.std.specs.List.{list_all}
use Rattle.std.specs.Str.{IsUtf8, IsAscii, is_utf8, bytes_eq}
use Rattle.std.specs.Str.Lossy.{utf8_valid_len, valid_len_up_to}
use Rattle.std.specs.Result.{result_ok}
use Rattle.std.proofs.lemmas.Bool.{ltb-false, lt-ltb}
use Rattle.std.proofs.lemmas.Bool.Decides.{nat_tests}
use Rattle.std.proofs.lemmas.List.{take_at, drop_at}
use Rattle.std.proofs.lemmas.Str.{IsUtf8-append, IsUtf8-from_ascii, IsUtf8-from_is_utf8, utf8_valid_len_le}
use Rattle.std.proofs.lemmas.Str.Ascii.{IsAscii-nil, IsAscii-cons}
use Rattle.hex.specs.Hex.{encode_lower, lower_digits}
use Rattle.hex.proofs.HexLemmas.{length-encode_with, IsAscii-encode_with, decode_pairs-encode_with, IsDigits-lower_digits}
use Rattle.hex.proofs.Pairs.{decode_sized-pairs}
use Rattle.tl_model.specs.Decimal.{decimal_text, decimal_value, is_decimal, IsDecimal-decimal_text, decimal_value-decimal_text, decimal_parts, length-decimal_text}
use Rattle.tl_path.specs.Path.{IsPath, size_fault, utf8_fault, place_fault, earlier, or_else, fault}
use Rattle.tl_path.specs.declared.fault.PathFault.{PathFault}
use Rattle.tl_path.specs.declared.fault.PathKind.TheVariants.{Utf8}
use Rattle.tl_object.specs.Cuts.{cut, onto_front}
use Rattle.tl_object.specs.Values.{number_value, digest_value, or_value, stripped}
use Rattle.tl_object.specs.Formed.{IsDigest}
use Rattle.tl_object.specs.declared.fault.LineKind.TheVariants as kinds

pub both : (a b : Bool) → (a && b) ≡ true → (a ≡ true) × (b ≡ true)
both true b is = (refl, is)
both false b is = absurd (cc)

pub from_not : (a : Bool) → not a ≡ true → a ≡ false
from_not true is = absurd (cc)
from_not false is = refl

-- a line with a byte isn't empty
pub not_nil : (b : ℕ) (line : List ℕ) → (length (b ∷ line) == 0) ≡ false
not_nil b line = grind (arith, nat_tests)

-- ---- UTF-8

-- bytes that pass a test which bytes below 128 alone pass
pub ascii_by : (test : ℕ → Bool) → ((b : ℕ) → test b ≡ true → b < 128) → (bytes : List ℕ) → list_all test bytes ≡ true → IsAscii bytes
ascii_by test small [] is = IsAscii-nil
ascii_by test small (b ∷ bytes) is =
    let parts = both (test b) (list_all test bytes) is in
    IsAscii-cons b bytes (small b parts.0) (ascii_by test small bytes parts.1)

-- bytes below 128, by a test that computes
pub ascii_tested : (bytes : List ℕ) → list_all (λ b. ltb b 128) bytes ≡ true → IsUtf8 bytes
ascii_tested bytes is = IsUtf8-from_ascii bytes (ascii_by (λ b. ltb b 128) (λ b e. grind (arith, nat_tests)) bytes is)

digit_small : (b : ℕ) → is_ascii_digit b ≡ true → b < 128
digit_small b is = grind (arith, nat_tests)

pub utf8_of_number : (n : ℕ) → n < 2 ^ 64 → IsUtf8 (decimal_text n)
utf8_of_number n small =
    IsUtf8-from_ascii (decimal_text n) (ascii_by is_ascii_digit digit_small (decimal_text n) (decimal_parts (decimal_text n) (IsDecimal-decimal_text n small)).1)

-- a space in front of a text
pub utf8_spaced : (bytes : List ℕ) → IsUtf8 bytes → IsUtf8 (32 ∷ bytes)
utf8_spaced bytes is = IsUtf8-append (32 ∷ []) bytes (IsUtf8-from_ascii (32 ∷ []) (IsAscii-cons 32 [] (omega arith) IsAscii-nil)) is

valid_len_le : (bytes : List ℕ) (m : ℕ) → valid_len_up_to bytes m ≤ m
valid_len_le bytes zero = omega arith
valid_len_le bytes (suc m) = by_test (is_utf8 (take (suc m) bytes)) (valid_len_le bytes m)
  where
    by_test : (t : Bool) → valid_len_up_to bytes m ≤ m → cond t (suc m) (valid_len_up_to bytes m) ≤ suc m
    by_test true le = omega arith
    by_test false le = omega arith

valid_len_all : (bytes : List ℕ) (m : ℕ) → valid_len_up_to bytes (suc m) ≡ suc m → is_utf8 (take (suc m) bytes) ≡ true
valid_len_all bytes m is = by_test (is_utf8 (take (suc m) bytes)) (valid_len_le bytes m) is
  where
    by_test : (t : Bool) → valid_len_up_to bytes m ≤ m → cond t (suc m) (valid_len_up_to bytes m) ≡ suc m → t ≡ true
    by_test true le is = refl
    by_test false le is = absurd (omega arith)

-- a text is its front of its own length
pub take_whole : (bytes : List ℕ) → take (length bytes) bytes ≡ bytes
take_whole [] = refl
take_whole (b ∷ bytes) = ap (λ (bs : List ℕ). b ∷ bs) (take_whole bytes)

-- bytes of which the whole is the longest valid front
pub utf8_whole : (bytes : List ℕ) → utf8_valid_len bytes ≡ length bytes → 0 < length bytes → IsUtf8 bytes
unfolding utf8_valid_len
utf8_whole [] is some = absurd (omega arith)
utf8_whole (b ∷ bytes) is some =
    subst IsUtf8 (take_whole (b ∷ bytes)) (IsUtf8-from_is_utf8 (take (suc (length bytes)) (b ∷ bytes)) (valid_len_all (b ∷ bytes) (length bytes) is))

no_first : (a b : Option PathFault) → or_else a b ≡ None → (a ≡ None) × (b ≡ None)
no_first None b is = (refl, is)
no_first (Some a) b is = absurd (cc)

no_earlier : (a b : Option PathFault) → earlier a b ≡ None → (a ≡ None) × (b ≡ None)
no_earlier None b is = (refl, is)
no_earlier (Some a) None is = absurd (cc)
no_earlier (Some a) (Some b) is = absurd (cc)

no_fault : (t : Bool) (at : PathFault) → cond t (Some at) None ≡ None → t ≡ false
no_fault true at is = absurd (cc)
no_fault false at is = refl

not_empty : (text : List ℕ) → size_fault text ≡ None → 0 < length text
not_empty [] is = absurd (cc)
not_empty (b ∷ text) is = omega arith

-- a path is UTF-8
pub utf8_of_path : (path : List ℕ) → IsPath path → IsUtf8 path
utf8_of_path path is =
    let parts = no_first (size_fault path) (earlier (utf8_fault path) (place_fault path)) is in
    let none : utf8_fault path ≡ None = (no_earlier (utf8_fault path) (place_fault path) parts.1).0 in
    let whole : length path ≤ utf8_valid_len path = ltb-false (utf8_valid_len path) (length path) (no_fault (ltb (utf8_valid_len path) (length path)) (fault Utf8 (utf8_valid_len path)) none) in
    let within = utf8_valid_len_le path in
    utf8_whole path (omega arith) (not_empty path parts.0)

-- ---- cuts

-- a text is cut where a front without the byte ends
pub cut_at : (at : ℕ) (front back : List ℕ) → list_all (λ b. not (b == at)) front ≡ true → (at == at) ≡ true → cut at (front ++ at ∷ back) ≡ Some (front, back)
cut_at at [] back none same = ap (λ t. cond t (Some ([], back)) (onto_front at (cut at back))) same
cut_at at (b ∷ front) back none same =
    let parts = both (not (b == at)) (list_all (λ c. not (c == at)) front) none in
    ap (λ t. cond t (Some ([], front ++ at ∷ back)) (onto_front b (cut at (front ++ at ∷ back)))) (from_not (b == at) parts.0)
    ∙ ap (onto_front b) (cut_at at front back parts.1 same)

-- a text without the byte isn't cut
pub cut_nowhere : (at : ℕ) (text : List ℕ) → list_all (λ b. not (b == at)) text ≡ true → cut at text ≡ None
cut_nowhere at [] none = refl
cut_nowhere at (b ∷ text) none =
    let parts = both (not (b == at)) (list_all (λ c. not (c == at)) text) none in
    ap (λ t. cond t (Some ([], text)) (onto_front b (cut at text))) (from_not (b == at) parts.0) ∙ ap (onto_front b) (cut_nowhere at text parts.1)

-- what stands behind a word
pub stripped_front : (word rest : List ℕ) → bytes_eq word word ≡ true → stripped word (word ++ rest) ≡ Some rest
stripped_front word rest same =
    ap (λ (bytes : List ℕ). cond (bytes_eq bytes word) (Some (drop (length word) (word ++ rest))) None) (take_at word rest (length word) refl)
    ∙ ap (λ t. cond t (Some (drop (length word) (word ++ rest))) None) same ∙ ap (λ (bytes : List ℕ). Some bytes) (drop_at word rest (length word) refl)

-- ---- numbers and digests

pub short_number : (n : ℕ) → n < 2 ^ 64 → length (decimal_text n) ≤ 20
short_number n small = length-decimal_text 20 n (omega arith) (omega arith) small

-- a number below a limit reads as it was written
pub number_again : (limit n : ℕ) → n < limit → n < 2 ^ 64 → number_value limit (decimal_text n) ≡ Ok n
number_again limit n below small =
    let decimal : is_decimal (decimal_text n) ≡ true = IsDecimal-decimal_text n small in
    let value : decimal_value (decimal_text n) ≡ n = decimal_value-decimal_text n small in
    ap (λ (m : ℕ). cond (is_decimal (decimal_text n) && ltb m limit) (Ok m) (Err kinds.Value)) value
    ∙ ap (λ t. cond (t && ltb n limit) (Ok n) (Err kinds.Value)) decimal ∙ ap (λ t. cond t (Ok n) (Err kinds.Value)) (lt-ltb n limit below)

lower_ascii : IsAscii lower_digits
lower_ascii = ascii_by (λ b. ltb b 128) (λ b is. grind (arith, nat_tests)) lower_digits refl

pub utf8_of_digest : (digest : List ℕ) → IsUtf8 (encode_lower digest)
utf8_of_digest digest = IsUtf8-from_ascii (encode_lower digest) (IsAscii-encode_with lower_digits digest lower_ascii)

pub length-digest : (digest : List ℕ) → IsDigest digest → length (encode_lower digest) ≡ 128
length-digest digest is = let e = length-encode_with lower_digits digest in omega (arith, is.0)

-- a digest reads as it was written
pub digest_again : (digest : List ℕ) → IsDigest digest → digest_value (encode_lower digest) ≡ Ok digest
digest_again digest is =
    let len : length (encode_lower digest) ≡ 128 = length-digest digest is in
    let pairs = decode_sized-pairs (encode_lower digest) 64 (omega arith) (omega arith) in
    ap (λ r. or_value (result_ok r)) (pairs ∙ decode_pairs-encode_with lower_digits IsDigits-lower_digits 0 digest is.1)
