-- The spelling of an option's value: what it is made of, and that of platforms.
use Rattle.std.proofs.Common.{◌≡◌, ℕ, zero, suc, ◌+◌, ◌*◌, ◌^◌, ◌<◌, ◌≤◌, Bool, true, false, cond, ◌&&◌, not, List, [], ◌∷◌, ◌++◌, length, get_or, Option, Some, None, refl, sym, ap, subst, ◌∙◌, inl, inr, nat_le, arith, length-append}
use Rattle.std.specs.Prelude.{◌==◌, unwrap_or, option_and_then, codes}
use Rattle.std.specs.Str.{IsAscii, bytes_eq}
use Rattle.std.specs.Char.{is_ascii_digit}
use Rattle.std.specs.List.{list_all, join_with_byte}
use Rattle.std.proofs.lemmas.Bool.{cases_Bool, true≢false, leb-true}
use Rattle.std.proofs.lemmas.Bool.Decides.{nat_tests}
use Rattle.std.proofs.lemmas.Str.{IsUtf8-from_ascii}
use Rattle.std.proofs.lemmas.List.Elements.{All-weaker}
use Rattle.std.proofs.lemmas.List.Folds.{list_all-append}
use Rattle.std.proofs.lemmas.List.Sums.{AllPass-from_list_all}
use Rattle.tl_model.specs.Lines.{IsLine}
use Rattle.tl_model.specs.Decimal.{is_decimal, decimal_value, decimal_text, decimal_parts, IsDecimal-decimal_text, length-decimal_text}
use Rattle.tl_model.specs.Words.{fields}
use Rattle.tl_text.specs.Texts.{IsText, IsText-from}
use Rattle.tl_path.specs.Bytes.{is_of_platform}
use Rattle.tl_path.specs.Names.{is_platform}
use Rattle.tl_path.proofs.Words.{platform_bytes, platform_short}
use Rattle.tl_entry.specs.Rising.{comes_before, insert_by, has_key}
use Rattle.tl_entry.specs.FilePaths.{rising_of}
use Rattle.tl_entry.specs.declared.object.Object.{Object}
use Rattle.tl_db.specs.declared.options.TreeOption.{TreeOption}
use Rattle.tl_db.specs.declared.options.TreeOption.TheVariants.{Autobackup, Platforms}
use Rattle.tl_db.specs.Options.{option_prefix, option_default, are_distinct, are_platforms, spelled_number, spelled_platforms, spelled, kept_value, option_value}

abbrev own : List ℕ → List ℕ
own text = text

pub left : (a b : Bool) → (a && b) ≡ true → a ≡ true
left true b h = refl
left false b h = absurd (true≢false (sym h))

pub right : (a b : Bool) → (a && b) ≡ true → b ≡ true
right true b h = h
right false b h = absurd (true≢false (sym h))

pub both : (a b : Bool) → a ≡ true → b ≡ true → (a && b) ≡ true
both a b p q = ap (λ t. t && b) p ∙ q

pub from_if : {A : Type 0} (c : Bool) (x v : A) → cond c (Some x) None ≡ Some v → (c ≡ true) × (x ≡ v)
from_if true x v is = (refl, ap (λ (o : Option _). unwrap_or o x) is)
from_if false x v is = absurd (cc)

-- a byte that is printed, or a space
abbrev pub is_plain : ℕ → Bool
is_plain b = nat_le 32 b && nat_le b 126

plain_small : (b : ℕ) → is_plain b ≡ true → b < 128
plain_small b is = let high = leb-true b 126 (right (nat_le 32 b) (nat_le b 126) is) in omega arith

plain_apart : (b : ℕ) → is_plain b ≡ true → (b == 10) ≡ false
plain_apart b is = let low = leb-true 32 b (left (nat_le 32 b) (nat_le b 126) is) in grind (arith, nat_tests, low)

plain_digit : (b : ℕ) → is_ascii_digit b ≡ true → is_plain b ≡ true
plain_digit b is = grind (arith, nat_tests, is)

plain_of_platform : (b : ℕ) → is_of_platform b ≡ true → is_plain b ≡ true
plain_of_platform b is = grind (arith, nat_tests, is)

all_weaker : (p q : ℕ → Bool) → ((b : ℕ) → p b ≡ true → q b ≡ true) → (xs : List ℕ) → list_all p xs ≡ true → list_all q xs ≡ true
all_weaker p q h [] all = refl
all_weaker p q h (x ∷ xs) all = both (q x) (list_all q xs) (h x (left (p x) _ all)) (all_weaker p q h xs (right (p x) _ all))

ascii : (text : List ℕ) → list_all is_plain text ≡ true → IsAscii text
ascii [] h i = omega arith
ascii (b ∷ text) h zero = plain_small b (left (is_plain b) _ h)
ascii (b ∷ text) h (suc i) = ascii text (right (is_plain b) _ h) i

-- a text of plain bytes that isn't long
pub record IsPlainText (most : ℕ) (text : List ℕ) : Type 0 where
  pub plain : list_all is_plain text ≡ true
  pub short : length text ≤ most

pub line_from_plain : (text : List ℕ) → list_all is_plain text ≡ true → IsLine text
line_from_plain text all = All-weaker (λ b. is_plain b ≡ true) (λ b. (b == 10) ≡ false) plain_apart text (AllPass-from_list_all is_plain text all)

pub text_from_plain : (text : List ℕ) → list_all is_plain text ≡ true → length text ≤ 65536 → IsText text
text_from_plain text all short =
    IsText-from text (IsUtf8-from_ascii text (ascii text all)) (all_weaker is_plain (λ b. not (b == 10)) (λ b is. ap not (plain_apart b is)) text all) short

platform_parts : (word : List ℕ) → is_platform word ≡ true → IsPlainText 32 word
platform_parts word is = record {
  plain = all_weaker is_of_platform is_plain plain_of_platform word (platform_bytes word is);
  short = platform_short word is;
}

joined_parts : (words : List (List ℕ)) → list_all is_platform words ≡ true → IsPlainText (33 * length words) (join_with_byte 32 words)
joined_parts [] all = record { plain = refl; short = omega arith }
joined_parts (word ∷ []) all =
    let here = platform_parts word (left (is_platform word) true all) in
    record { plain = here.plain; short = omega (arith, here.short) }
joined_parts (word ∷ next ∷ words) all =
    let here = platform_parts word (left (is_platform word) (list_all is_platform (next ∷ words)) all) in
    let more = joined_parts (next ∷ words) (right (is_platform word) (list_all is_platform (next ∷ words)) all) in
    record {
      plain = list_all-append is_plain word (32 ∷ join_with_byte 32 (next ∷ words)) ∙ both _ _ here.plain more.plain;
      short = omega (arith, here.short, more.short, length-append word (32 ∷ join_with_byte 32 (next ∷ words)));
    }

all-insert : (p : List ℕ → Bool) (x : List ℕ) (xs : List (List ℕ)) → p x ≡ true → list_all p xs ≡ true → list_all p (insert_by own x xs) ≡ true
all-insert p x [] here all = both _ _ here refl
all-insert p x (y ∷ ys) here all = elim (cases_Bool (comes_before x y)) [
  | inl first ↦ ap (λ t. list_all p (cond t (x ∷ y ∷ ys) (y ∷ insert_by own x ys))) first ∙ both _ _ here all
  | inr later ↦ ap (λ t. list_all p (cond t (x ∷ y ∷ ys) (y ∷ insert_by own x ys))) later
      ∙ both _ _ (left (p y) _ all) (all-insert p x ys here (right (p y) _ all))
]

length-insert_by : (x : List ℕ) (xs : List (List ℕ)) → length (insert_by own x xs) ≤ 1 + length xs
length-insert_by x [] = omega arith
length-insert_by x (y ∷ ys) = elim (cases_Bool (comes_before x y)) [
  | inl first ↦ subst (λ t. length (cond t (x ∷ y ∷ ys) (y ∷ insert_by own x ys)) ≤ 1 + length (y ∷ ys)) (sym first) (omega arith)
  | inr later ↦ subst (λ t. length (cond t (x ∷ y ∷ ys) (y ∷ insert_by own x ys)) ≤ 1 + length (y ∷ ys)) (sym later) (omega (arith, length-insert_by x ys))
]

-- texts in order are of the same form and no more than they were
pub all-rising_of : (p : List ℕ → Bool) (xs : List (List ℕ)) → list_all p xs ≡ true → list_all p (rising_of xs) ≡ true
all-rising_of p [] all = refl
all-rising_of p (x ∷ xs) all =
    elim (cases_Bool (has_key own x (rising_of xs))) [
      | inl there ↦ ap (λ t. list_all p (cond t (rising_of xs) (insert_by own x (rising_of xs)))) there ∙ all-rising_of p xs (right (p x) _ all)
      | inr absent ↦ ap (λ t. list_all p (cond t (rising_of xs) (insert_by own x (rising_of xs)))) absent
          ∙ all-insert p x (rising_of xs) (left (p x) _ all) (all-rising_of p xs (right (p x) _ all))
    ]

pub length-rising_of : (xs : List (List ℕ)) → length (rising_of xs) ≤ length xs
length-rising_of [] = omega arith
length-rising_of (x ∷ xs) =
    elim (cases_Bool (has_key own x (rising_of xs))) [
      | inl there ↦ subst (λ t. length (cond t (rising_of xs) (insert_by own x (rising_of xs))) ≤ length (x ∷ xs)) (sym there) (omega (arith, length-rising_of xs))
      | inr absent ↦ subst (λ t. length (cond t (rising_of xs) (insert_by own x (rising_of xs))) ≤ length (x ∷ xs)) (sym absent)
          (omega (arith, length-rising_of xs, length-insert_by x (rising_of xs)))
    ]

number_parts : (value v : List ℕ) → spelled_number value ≡ Some v → IsPlainText 1056 v
number_parts value v is =
    let n = decimal_value value in
    let from = from_if (is_decimal value && nat_le n 1000) (decimal_text n) v is in
    let small : n ≤ 1000 = leb-true n 1000 (right (is_decimal value) (nat_le n 1000) from.0) in
    let fits : n < 2 ^ 64 = omega arith in
    let digits = decimal_parts (decimal_text n) (IsDecimal-decimal_text n fits) in
    let short : length (decimal_text n) ≤ 4 = length-decimal_text 4 n (omega arith) (omega arith) fits in
    subst (IsPlainText 1056) from.1 (record {
      plain = all_weaker is_ascii_digit is_plain plain_digit (decimal_text n) digits.1;
      short = omega (arith, short);
    })

platforms_parts : (value v : List ℕ) → spelled_platforms value ≡ Some v → IsPlainText 1056 v
platforms_parts value v is =
    let words = fields value in
    let from = from_if (are_platforms words) (join_with_byte 32 (rising_of words)) v is in
    let few : length words ≤ 32 = leb-true (length words) 32 (left (nat_le (length words) 32) (list_all is_platform words && are_distinct words) from.0) in
    let each : list_all is_platform words ≡ true =
    left (list_all is_platform words) (are_distinct words) (right (nat_le (length words) 32) (list_all is_platform words && are_distinct words) from.0) in
    let parts = joined_parts (rising_of words) (all-rising_of is_platform words each) in
    subst (IsPlainText 1056) from.1 (record { plain = parts.plain; short = omega (arith, parts.short, length-rising_of words, few) })

-- a spelled value has plain bytes and isn't long
pub spelled_parts : (option : TreeOption) (value v : List ℕ) → spelled option value ≡ Some v → IsPlainText 1056 v
spelled_parts Autobackup value v is = elim (cases_Bool (bytes_eq value (codes "-1"))) [
  | inl all ↦ subst (IsPlainText 1056) (from_if true (codes "-1") v (ap (λ t. cond t (Some (codes "-1")) (spelled_number value)) (sym all) ∙ is)).1 (record { plain = refl; short = omega arith })
  | inr other ↦ number_parts value v (ap (λ t. cond t (Some (codes "-1")) (spelled_number value)) (sym other) ∙ is)
]
spelled_parts Platforms value v is = platforms_parts value v is

prefix_parts : (option : TreeOption) → IsPlainText 32 (option_prefix option)
prefix_parts Autobackup = record { plain = refl; short = omega arith }
prefix_parts Platforms = record { plain = refl; short = omega arith }

-- the line that keeps a spelled value is a Text
pub line_is_text : (option : TreeOption) (value v : List ℕ) → spelled option value ≡ Some v → IsText (option_prefix option ++ v)
line_is_text option value v is =
    let front = prefix_parts option in let behind = spelled_parts option value v is in
    text_from_plain (option_prefix option ++ v) (list_all-append is_plain (option_prefix option) v ∙ both _ _ front.plain behind.plain)
    (omega (arith, front.short, behind.short, length-append (option_prefix option) v))

default_plain : (option : TreeOption) → list_all is_plain (option_default option) ≡ true
default_plain Autobackup = refl
default_plain Platforms = refl

value_plain : (option : TreeOption) (kept : Option (List ℕ)) → list_all is_plain (unwrap_or (option_and_then (spelled option) kept) (option_default option)) ≡ true
value_plain option None = default_plain option
value_plain option (Some value) = by_spelling (spelled option value) refl
  where
    by_spelling : (o : Option (List ℕ)) → spelled option value ≡ o → list_all is_plain (unwrap_or o (option_default option)) ≡ true
    by_spelling None is = default_plain option
    by_spelling (Some v) is = (spelled_parts option value v is).plain

-- an option's value has no line end
pub value_is_line : (option : TreeOption) (objects : List Object) → IsLine (option_value option objects)
value_is_line option objects = line_from_plain (option_value option objects) (value_plain option (kept_value option objects))
