-- What is written of an entry is whole lines, and none of them is an acknowledgement.
use Rattle.std.proofs.Common.{◌≡◌, ℕ, zero, suc, ◌+◌, ◌==◌, ◌/◌, ◌%◌, ◌^◌, ◌<◌, ◌≤◌, ltb, Bool, true, false, cond, not, ◌&&◌, List, [], ◌∷◌, ◌++◌, length, get_or, take, Option, Some, None, Result, Ok, Err, inl, inr, refl, sym, ◌∙◌, ap, subst, arith, append_assoc}
use Rattle.std.specs.Prelude.{All, OnOk, codes, slice_index}
use Rattle.std.specs.Char.{is_ascii_digit}
use Rattle.std.specs.Option.{option_map}
use Rattle.std.specs.List.{list_all, position, position_or_len}
use Rattle.std.proofs.lemmas.Bool.{cases_Bool, true≢false, eqb-true, ltb-false}
use Rattle.std.proofs.lemmas.List.{append-nil}
use Rattle.std.proofs.lemmas.List.Elements.{All-nil, All-cons, All-append, All-weaker, All-more}
use Rattle.std.proofs.lemmas.List.Sums.{prefix_len_passes}
use Rattle.tl_model.specs.Lines.{IsLine}
use Rattle.tl_model.specs.Decimal.{decimal_text, decimal_parts, IsDecimal-decimal_text}
use Rattle.tl_model.specs.Acks.{is_ack, IsPlain, plain-nil, plain-line, plain-append, plain-literal}
use Rattle.hex.specs.Hex.{encode_with, encode_lower, lower_digits}
use Rattle.tl_text.specs.Texts.{IsText, IsLine-from_text}
use Rattle.tl_path.specs.Bytes.{is_barred}
use Rattle.tl_path.specs.Path.{IsPath, fault, or_else, earlier, size_fault, utf8_fault, byte_fault, component_fault, place_fault}
use Rattle.tl_path.specs.declared.fault.PathFault.{PathFault}
use Rattle.tl_path.specs.declared.fault.PathKind.TheVariants.{Byte}
use Rattle.tl_path.specs.Bytes.{is_of_platform}
use Rattle.tl_path.specs.Names.{is_platform}
use Rattle.tl_path.proofs.Words.{platform_bytes}
use Rattle.tl_entry.specs.Parts.{FileEntry, FactEntry}
use Rattle.tl_object.specs.Plain.{is_key}
use Rattle.tl_object.specs.Writing.{key_line, path_line, mark_text, file_line, section_line, fact_line}

abbrev no_end : ℕ → Bool
no_end b = not (b == 10)

both : (a b : Bool) → (a && b) ≡ true → (a ≡ true) × (b ≡ true)
both true b is = (refl, is)
both false b is = absurd (cc)

from_not : (a : Bool) → not a ≡ true → a ≡ false
from_not true is = absurd (cc)
from_not false is = refl

-- bytes that pass a test which no line end passes
line_by : (test : ℕ → Bool) → ((b : ℕ) → test b ≡ true → (b == 10) ≡ false) → (bytes : List ℕ) → list_all test bytes ≡ true → IsLine bytes
line_by test apart [] is = All-nil (λ b. (b == 10) ≡ false)
line_by test apart (b ∷ bytes) is =
    let parts = both (test b) (list_all test bytes) is in
    All-cons (λ c. (c == 10) ≡ false) b bytes (apart b parts.0) (line_by test apart bytes parts.1)

-- bytes of which none ends a line, by a test that computes
pub line_tested : (bytes : List ℕ) → list_all no_end bytes ≡ true → IsLine bytes
line_tested bytes is = line_by no_end (λ b e. from_not (b == 10) e) bytes is

-- a byte that passes a test which the line end fails is no line end
apart_from : (test : ℕ → Bool) → test 10 ≡ false → (b : ℕ) → test b ≡ true → (b == 10) ≡ false
apart_from test none b is = elim (cases_Bool (b == 10)) [
  | inl same ↦ absurd (true≢false (sym is ∙ ap test (eqb-true b 10 same) ∙ none))
  | inr apart ↦ apart
]

pub line_append : (xs ys : List ℕ) → IsLine xs → IsLine ys → IsLine (xs ++ ys)
line_append xs ys far near = All-append (λ b. (b == 10) ≡ false) xs ys far near

-- a space before what has no line end
pub line_spaced : (bytes : List ℕ) → IsLine bytes → IsLine (32 ∷ bytes)
line_spaced bytes is = All-cons (λ b. (b == 10) ≡ false) 32 bytes refl is

pub line_of_number : (n : ℕ) → n < 2 ^ 64 → IsLine (decimal_text n)
line_of_number n small =
    line_by is_ascii_digit (apart_from is_ascii_digit refl) (decimal_text n) (decimal_parts (decimal_text n) (IsDecimal-decimal_text n small)).1

pub line_of_platform : (platform : List ℕ) → is_platform platform ≡ true → IsLine platform
line_of_platform platform is =
    line_by is_of_platform (apart_from is_of_platform refl) platform (platform_bytes platform is)

-- no digit of a table, nor what stands for a digit behind its end, is a line end
digit_apart : (table : List ℕ) (i : ℕ) → list_all no_end table ≡ true → (get_or table i 0 == 10) ≡ false
digit_apart [] i is = refl
digit_apart (d ∷ table) zero is = from_not (d == 10) (both _ _ is).0
digit_apart (d ∷ table) (suc i) is = digit_apart table i (both _ _ is).1

-- the digits of a digest
pub line_of_digest : (digest : List ℕ) → IsLine (encode_lower digest)
unfolding encode_with
line_of_digest [] = All-nil (λ b. (b == 10) ≡ false)
line_of_digest (b ∷ digest) =
    All-cons (λ b. (b == 10) ≡ false) (slice_index lower_digits (b / 16)) (slice_index lower_digits (b % 16) ∷ encode_lower digest) (digit_apart lower_digits (b / 16) refl)
    (All-cons (λ b. (b == 10) ≡ false) (slice_index lower_digits (b % 16)) (encode_lower digest) (digit_apart lower_digits (b % 16) refl) (line_of_digest digest))

no_fault : (a b : Option PathFault) → or_else a b ≡ None → b ≡ None
no_fault None b is = is
no_fault (Some a) b is = absurd (cc)

no_earlier : (a b : Option PathFault) → earlier a b ≡ None → (a ≡ None) × (b ≡ None)
no_earlier None b is = (refl, is)
no_earlier (Some a) None is = absurd (cc)
no_earlier (Some a) (Some b) is = absurd (cc)

no_byte : (at : Option ℕ) → option_map (fault Byte) at ≡ None → at ≡ None
no_byte None is = refl
no_byte (Some at) is = absurd (cc)

-- a list in which no element passes a test ends before the first that does
no_position : (t : Bool) (n : ℕ) → cond t (Some n) None ≡ None → t ≡ false
no_position true n is = absurd (cc)
no_position false n is = refl

-- no byte of a path is barred
pub unbarred : (path : List ℕ) → IsPath path → All (λ b. not (is_barred b) ≡ true) path
unbarred path is =
    let place : place_fault path ≡ None = (no_earlier (utf8_fault path) (place_fault path) (no_fault (size_fault path) (earlier (utf8_fault path) (place_fault path)) is)).1 in
    let byte : byte_fault path ≡ None = (no_earlier (byte_fault path) (component_fault path) place).0 in
    let at = position_or_len is_barred path in
    let none : ltb at (length path) ≡ false = no_position (ltb at (length path)) at (no_byte (position is_barred path) byte) in
    let behind : length path ≤ at = ltb-false at (length path) none in
    λ k d within. prefix_len_passes (λ b. not (is_barred b)) path k d (omega arith)

pub line_of_path : (path : List ℕ) → IsPath path → IsLine path
line_of_path path is =
    All-weaker (λ b. not (is_barred b) ≡ true) (λ b. (b == 10) ≡ false) (λ b e. apart_from (λ c. not (is_barred c)) refl b e) path (unbarred path is)

-- the front of a line that is no acknowledgement, however it goes on
pub record IsBegun (bytes : List ℕ) : Type 0 where
  pub other : (rest : List ℕ) → is_ack (bytes ++ rest) ≡ false
  pub line : IsLine bytes

pub begun_more : (bytes more : List ℕ) → IsBegun bytes → IsLine more → IsBegun (bytes ++ more)
begun_more bytes more begun is = record {
  other = λ rest. ap is_ack (append_assoc bytes more rest) ∙ begun.other (more ++ rest);
  line = line_append bytes more begun.line is;
}

pub plain_begun : (bytes : List ℕ) → IsBegun bytes → IsPlain (bytes ++ 10 ∷ [])
plain_begun bytes begun = plain-line bytes [] begun.line (sym (ap is_ack (append-nil bytes)) ∙ begun.other []) plain-nil

-- a line that a space begins
begun_space : IsBegun (32 ∷ [])
begun_space = record { other = λ rest. refl; line = line_tested (32 ∷ []) refl }

pub begun_key : (key : List ℕ) → is_key key ≡ true → IsBegun key
begun_key [] is = absurd (cc)
begun_key (a ∷ []) is = absurd (cc)
begun_key (a ∷ b ∷ bytes) is =
    let parts = both (not (116 == b)) (list_all no_end (a ∷ b ∷ bytes)) is in
    record { other = λ rest. stopped (115 == a) (116 == b) (from_not (116 == b) parts.0) _ _; line = line_tested (a ∷ b ∷ bytes) parts.1 }
  where
    stopped : (s t : Bool) → t ≡ false → (more ratio : Bool) → (s && (t && more) && ratio) ≡ false
    stopped true t other more ratio = rw other refl
    stopped false t other more ratio = refl

pub plain_key_line : (key value : List ℕ) → is_key key ≡ true → IsLine value → IsPlain (key_line key value)
unfolding key_line
plain_key_line key value begins is = plain_begun (key ++ 32 ∷ value) (begun_more key (32 ∷ value) (begun_key key begins) (line_spaced value is))

pub plain_path_line : (path : List ℕ) → IsPath path → IsPlain (path_line path)
unfolding path_line
plain_path_line path is = plain_begun (32 ∷ path) (begun_more (32 ∷ []) path begun_space (line_of_path path is))

pub plain_section_line : (key : List ℕ) (blocks : ℕ) → is_key key ≡ true → IsLine (decimal_text blocks) → IsPlain (section_line key blocks)
unfolding section_line
plain_section_line key blocks begins is =
    let sized = begun_more key (codes " size=") (begun_key key begins) (line_tested (codes " size=") refl) in
    plain_begun (key ++ codes " size=" ++ decimal_text blocks) (begun_more (key ++ codes " size=") (decimal_text blocks) sized is)

pub plain_bin_line : (platform : List ℕ) (blocks : ℕ) → is_platform platform ≡ true → blocks < 2 ^ 64 → IsPlain (codes "binfiles arch=" ++ section_line platform blocks)
unfolding section_line
plain_bin_line platform blocks is small =
    let named = line_append platform (codes " size=") (line_of_platform platform is) (line_tested (codes " size=") refl) in
    let more = line_append (platform ++ codes " size=") (decimal_text blocks) named (line_of_number blocks small) in
    plain_begun (codes "binfiles arch=" ++ (platform ++ codes " size=" ++ decimal_text blocks))
    (begun_more (codes "binfiles arch=") (platform ++ codes " size=" ++ decimal_text blocks) (begun_key (codes "binfiles arch=") refl) more)

pub plain_fact_line : (fact : FactEntry) → IsText fact.key → IsText fact.value → IsPlain (fact_line fact)
unfolding fact_line
plain_fact_line fact key value =
    let begun = begun_more (codes "catalogue-") fact.key (begun_key (codes "catalogue-") refl) (IsLine-from_text fact.key key) in
    plain_begun (codes "catalogue-" ++ fact.key ++ 32 ∷ fact.value) (begun_more (codes "catalogue-" ++ fact.key) (32 ∷ fact.value) begun (line_spaced fact.value (IsLine-from_text fact.value value)))

pub line_of_mark : (word text : List ℕ) → list_all no_end word ≡ true → IsText text → IsLine (mark_text word (Some text))
line_of_mark word text is value =
    line_append ((32 ∷ word) ++ text) (34 ∷ []) (line_append (32 ∷ word) text (line_spaced word (line_tested word is)) (IsLine-from_text text value)) (line_tested (34 ∷ []) refl)

pub plain_file_line : (file : FileEntry) → IsPath file.path → IsLine (mark_text (codes "details=\"") file.details) → IsLine (mark_text (codes "language=\"") file.language) → IsPlain (file_line file)
unfolding file_line
plain_file_line file path details language =
    let begun = begun_more (32 ∷ []) file.path begun_space (line_of_path file.path path) in
    let more = begun_more (32 ∷ file.path) (mark_text (codes "details=\"") file.details) begun details in
    plain_begun ((32 ∷ file.path) ++ mark_text (codes "details=\"") file.details ++ mark_text (codes "language=\"") file.language)
    (begun_more ((32 ∷ file.path) ++ mark_text (codes "details=\"") file.details) (mark_text (codes "language=\"") file.language) more language)

pub plain_relocated_line : IsPlain (codes "relocated 1\n")
plain_relocated_line = plain-literal (codes "relocated 1\n") refl refl

-- what was plain before stays so with plain lines behind it
pub plain_written : (old new lines : List ℕ) → new ≡ old ++ lines → IsPlain lines → IsPlain old → IsPlain new
plain_written old new lines is near far = subst IsPlain (sym is) (plain-append old lines far near)

pub on_ok : {T E P : Type 0} (r : Result T E) → P → OnOk r P
on_ok (Ok x) p = p
on_ok (Err e) p = tt

-- what follows from what a call shows where it succeeded
pub on_more : {T E P Q : Type 0} (r : Result T E) → (P → Q) → OnOk r P → OnOk r Q
on_more (Ok x) f p = f p
on_more (Err e) f p = tt

-- what holds of some elements holds with the next one
pub each_more : {X : Type 0} (P : X → Type 0) (xs : List X) (i : ℕ) (x : X) → i < length xs → x ≡ get_or xs i x → P x → All P (take i xs) → All P (take (i + 1) xs)
each_more P xs i x lt is here each = All-more P xs i x lt each (subst P is here)

-- a call that wrote plain lines where it succeeded
pub plain_behind : {T E : Type 0} (r : Result T E) (old new lines : List ℕ) → OnOk r (new ≡ old ++ lines) → IsPlain lines → OnOk r (IsPlain old → IsPlain new)
plain_behind (Ok x) old new lines is near = λ far. plain_written old new lines is near far
plain_behind (Err e) old new lines is near = tt

-- a last call after plain lines
pub plain_last : {T E : Type 0} (r : Result T E) (old between new : List ℕ) → (IsPlain old → IsPlain between) → OnOk r (IsPlain between → IsPlain new) → OnOk r (IsPlain old → IsPlain new)
plain_last (Ok x) old between new first last = λ far. last (first far)
plain_last (Err e) old between new first last = tt
