-- What the lines of a source give can be written.
use Rattle.std.proofs.Common.{◌≡◌, ℕ, ◌+◌, ◌<◌, ◌≤◌, ◌==◌, ◌&&◌, Bool, true, false, cond, List, [], ◌∷◌, ◌++◌, length, drop, Option, Some, None, Result, Ok, Err, refl, sym, ap, subst, ◌∙◌, arith}
use Rattle.std.specs.Prelude.{not, nat_le, option_map}
use Rattle.std.specs.List.{list_all, slice_split, join_with_byte, suffix_len}
use Rattle.std.specs.Str.{is_utf8, bytes_eq}
use Rattle.std.proofs.lemmas.Bool.{and_parts, leb-true}
use Rattle.std.proofs.lemmas.Bool.Decides.{nat_tests}
use Rattle.std.proofs.lemmas.List.{length-append}
use Rattle.std.proofs.lemmas.List.Splits.{length-slice_split, join_with_byte-slice_split}
use Rattle.tl_kind.specs.declared.kinds.SourceKind.{SourceKind}
use Rattle.tl_kind.specs.declared.kinds.SourceKind.TheVariants as kinds
use Rattle.tl_model.specs.Words.{is_blank}
use Rattle.tl_text.specs.Texts.{IsText, is_text, length-text}
use Rattle.tl_path.specs.Names.{is_platform}
use Rattle.tl_path.specs.declared.kinds.Category.{Category}
use Rattle.tl_srctext.specs.Content.{less_comment, line_content, before_blank, behind_blank}
use Rattle.tl_srctext.specs.Keys.{source_key_of, may_be_empty}
use Rattle.tl_srctext.specs.Variables.{is_var_name, is_var_value, with_var_value, var_with, var_of}
use Rattle.tl_srctext.specs.Patterns.{begins_with, less_first, kind_of, platforms_of, limit_to, pattern_limit, has_form, pattern_text, pattern_with_text, pattern_with, pattern_from, pattern_of}
use Rattle.tl_srctext.specs.Line.{said_of, found_category, category_said, is_reserved_name, name_said, said_under, said_for_key, said_with, said_in}
use Rattle.tl_srctext.specs.Writing.{sign, letter, limit_text, pattern_value}
use Rattle.tl_srctext.specs.Formed.{IsValue, IsFullValue, IsVar, IsLimit, IsPattern}
use Rattle.tl_srctext.specs.declared.key.Section.{Section}
use Rattle.tl_srctext.specs.declared.key.Section.TheVariants.{Run, Src, Doc, Bin}
use Rattle.tl_srctext.specs.declared.key.Key.{Key}
use Rattle.tl_srctext.specs.declared.key.Key.TheVariants as keys
use Rattle.tl_pattern.specs.declared.kind.PatternKind.{PatternKind}
use Rattle.tl_srctext.specs.declared.pattern.Limit.{Limit}
use Rattle.tl_srctext.specs.declared.pattern.Limit.TheVariants.{All as Everywhere, Only, Except}
use Rattle.tl_srctext.specs.declared.pattern.SourcePattern.{SourcePattern}
use Rattle.tl_srctext.specs.declared.line.Said.{Said}
use Rattle.tl_srctext.specs.declared.line.Said.TheVariants as saids
use Rattle.tl_srctext.proofs.LineLemmas.{IsText-nil}
use Rattle.tl_srctext.proofs.TextLemmas.{none_behind}
use Rattle.tl_srctext.proofs.TrimLemmas.{plain-rest, behind-value, drop-ends, parts-short, content-plain, content-ends}

abbrev some_or : {A : Type 0} → A → Option A → A
some_or other None = other
some_or other (Some x) = x

some_same : {A : Type 0} {x y : A} → Some x ≡ Some y → x ≡ y
some_same {x = x} e = ap (some_or x) e

abbrev ok_or : {A : Type 0} → A → Result A SourceKind → A
ok_or other (Ok x) = x
ok_or other (Err kind) = other

ok_same : {A : Type 0} {x y : A} → ◌≡◌ {A = Result A SourceKind} (Ok x) (Ok y) → x ≡ y
ok_same {x = x} e = ap (ok_or x) e

-- what a line says can be written
abbrev pub IsSaid : Said → Type 0
IsSaid saids.Name = Unit {0}
IsSaid (saids.Category category) = Unit {0}
IsSaid (saids.Catalogue text) = IsFullValue text
IsSaid (saids.Shortdesc text) = IsValue text
IsSaid (saids.Longdesc text) = IsValue text
IsSaid (saids.Depend text) = IsFullValue text
IsSaid (saids.Execute text) = IsFullValue text
IsSaid (saids.Postaction text) = IsFullValue text
IsSaid (saids.Variable name value) = IsVar (name, value)
IsSaid (saids.Pattern section pattern) = IsPattern section pattern

-- ---- variables

var_given : (value : List ℕ) (var : List ℕ × List ℕ) → IsText value → var_of value ≡ Ok var → IsVar var
var_given value var is found = by (is_var_name (before_blank value)) refl (is_var_value (behind_blank value)) refl found
  where
    by : (s : Bool) → is_var_name (before_blank value) ≡ s → (t : Bool) → is_var_value (behind_blank value) ≡ t
        → var_with (cond s (Some (before_blank value)) None) (behind_blank value) ≡ Ok var → IsVar var
    by false e t f same = absurd (cc)
    by true e false f same =
        let none : ◌≡◌ {A = Result (List ℕ × List ℕ) SourceKind} (Err kinds.Variable) (Ok var) =
        sym (ap (λ t. with_var_value (before_blank value) (cond t (Ok (behind_blank value)) (Err kinds.Variable))) f) ∙ same in
        absurd (cc)
    by true e true f same =
        let parts : (before_blank value, behind_blank value) ≡ var =
        ok_same (sym (ap (λ t. with_var_value (before_blank value) (cond t (Ok (behind_blank value)) (Err kinds.Variable))) f) ∙ same) in
        let some : 1 ≤ length (behind_blank value) = leb-true 1 (length (behind_blank value)) (and_parts (nat_le 1 (length (behind_blank value))) _ f).0 in
        subst IsVar parts (record {
          name = e;
          value = f;
          short = omega (arith, parts-short value (omega (arith, some)), length-text value is, length-append (before_blank value) (32 ∷ behind_blank value));
        })

-- ---- limits

platforms_given : (parts platforms : List (List ℕ)) → platforms_of parts ≡ Some platforms → (parts ≡ platforms) × (list_all is_platform platforms ≡ true)
platforms_given parts platforms found = by (list_all is_platform parts) refl found
  where
    by : (t : Bool) → list_all is_platform parts ≡ t → cond t (Some parts) None ≡ Some platforms → (parts ≡ platforms) × (list_all is_platform platforms ≡ true)
    by false e same = absurd (cc)
    by true e same = let is : parts ≡ platforms = some_same same in (is, ap (list_all is_platform) (sym is) ∙ e)

-- a limit has its form, and is written as it stood
record LimitOf (word : List ℕ) (limit : Limit) : Type 0 where
  form : IsLimit Bin limit
  text : limit_text limit ≡ 47 ∷ word

parts_some : (text : List ℕ) → 0 < length (slice_split (λ b. b == 44) text)
parts_some text = omega (arith, length-slice_split (λ b. b == 44) text)

only_given : (text : List ℕ) (found : Option (List (List ℕ))) (limit : Limit) → platforms_of (slice_split (λ b. b == 44) text) ≡ found → option_map Only found ≡ Some limit → LimitOf text limit
only_given text None limit e same = absurd (cc)
only_given text (Some platforms) limit e same =
    let are = platforms_given (slice_split (λ b. b == 44) text) platforms e in
    subst (LimitOf text) (some_same same) (record {
      form = (subst (λ (ps : List (List ℕ)). 0 < length ps) are.0 (parts_some text), are.1);
      text = ap (λ (ps : List (List ℕ)). 47 ∷ join_with_byte 44 ps) (sym are.0) ∙ ap (λ (l : List ℕ). 47 ∷ l) (join_with_byte-slice_split 44 text);
    })

except_given : (text : List ℕ) (found : Option (List (List ℕ))) (limit : Limit) → platforms_of (slice_split (λ b. b == 44) text) ≡ found → option_map Except found ≡ Some limit → LimitOf (33 ∷ text) limit
except_given text None limit e same = absurd (cc)
except_given text (Some platforms) limit e same =
    let are = platforms_given (slice_split (λ b. b == 44) text) platforms e in
    subst (LimitOf (33 ∷ text)) (some_same same) (record {
      form = (subst (λ (ps : List (List ℕ)). 0 < length ps) are.0 (parts_some text), are.1);
      text = ap (λ (ps : List (List ℕ)). 47 ∷ 33 ∷ join_with_byte 44 ps) (sym are.0) ∙ ap (λ (l : List ℕ). 47 ∷ 33 ∷ l) (join_with_byte-slice_split 44 text);
    })

same_byte : (a b : ℕ) → (a == b) ≡ true → a ≡ b
same_byte a b is = grind (arith, nat_tests, is)

limit_to_given : (text : List ℕ) (limit : Limit) → limit_to text ≡ Some limit → LimitOf text limit
limit_to_given [] limit found = only_given [] (platforms_of (slice_split (λ b. b == 44) [])) limit refl found
limit_to_given (b ∷ text) limit found = by (b == 33) refl found
  where
    by : (t : Bool) → (b == 33) ≡ t
        → cond t (option_map Except (platforms_of (slice_split (λ b. b == 44) text))) (option_map Only (platforms_of (slice_split (λ b. b == 44) (b ∷ text)))) ≡ Some limit
        → LimitOf (b ∷ text) limit
    by true e same =
        subst (λ c. LimitOf (c ∷ text) limit) (sym (same_byte b 33 e)) (except_given text (platforms_of (slice_split (λ b. b == 44) text)) limit refl same)
    by false e same = only_given (b ∷ text) (platforms_of (slice_split (λ b. b == 44) (b ∷ text))) limit refl same

-- the same for any section
record LimitIn (section : Section) (word : List ℕ) (limit : Limit) : Type 0 where
  form : IsLimit section limit
  text : limit_text limit ≡ word

everywhere_given : (section : Section) (limit : Limit) → Some Everywhere ≡ Some limit → LimitIn section [] limit
everywhere_given section limit same = subst (LimitIn section []) (some_same same) (record { form = tt; text = refl })

limit_given : (section : Section) (word : List ℕ) (limit : Limit) → pattern_limit section word ≡ Some limit → LimitIn section word limit
limit_given Run [] limit found = everywhere_given Run limit found
limit_given Src [] limit found = everywhere_given Src limit found
limit_given Doc [] limit found = everywhere_given Doc limit found
limit_given Bin [] limit found = everywhere_given Bin limit found
limit_given Run (b ∷ word) limit found = absurd (cc)
limit_given Src (b ∷ word) limit found = absurd (cc)
limit_given Doc (b ∷ word) limit found = absurd (cc)
limit_given Bin (b ∷ word) limit found = by (b == 47) refl found
  where
    by : (t : Bool) → (b == 47) ≡ t → cond t (limit_to word) None ≡ Some limit → LimitIn Bin (b ∷ word) limit
    by false e same = absurd (cc)
    by true e same =
        let given = limit_to_given word limit same in
        record { form = given.form; text = given.text ∙ ap (λ c. c ∷ word) (sym (same_byte b 47 e)) }

-- ---- patterns

-- a text in which no comment begins, whatever stands before it, and which ends without a blank
record IsPlainText (text : List ℕ) : Type 0 where
  opens : Bool
  plain : less_comment opens text ≡ text
  ends : suffix_len is_blank text ≡ 0

-- behind a sign it is still one
first_plain : (t : Bool) (text : List ℕ) → IsPlainText text → IsPlainText (less_first t text)
first_plain false text is = is
first_plain true [] is = is
first_plain true (b ∷ text) is = record { opens = is_blank b; plain = plain-rest is.opens b text is.plain; ends = drop-ends (b ∷ text) 1 is.ends }

first_short : (byte : ℕ) (t : Bool) (text : List ℕ) → begins_with byte text ≡ t → length (sign t byte) + length (less_first t text) ≡ length text
first_short byte false text is = omega arith
first_short byte true [] is = absurd (cc)
first_short byte true (b ∷ text) is = omega arith

-- the parts of what stands behind a pattern's signs
letter_short : (rest : List ℕ) → 0 < length (behind_blank (drop 1 rest))
    → 1 + length (before_blank (drop 1 rest)) + 1 + length (behind_blank (drop 1 rest)) ≤ length rest
letter_short [] some = absurd (omega arith)
letter_short (b ∷ rest) some = omega (arith, parts-short rest some)

-- the text of a pattern, where it was found
text_given : (kind : PatternKind) (text given : List ℕ) → pattern_text kind text ≡ Some given → (text ≡ given) × (has_form kind text ≡ true) × (is_text text ≡ true)
text_given kind text given found = by (has_form kind text && is_text text) refl found
  where
    by : (t : Bool) → (has_form kind text && is_text text) ≡ t → cond t (Some text) None ≡ Some given → (text ≡ given) × (has_form kind text ≡ true) × (is_text text ≡ true)
    by false e same = absurd (cc)
    by true e same = let parts = and_parts (has_form kind text) (is_text text) e in (some_same same, parts.0, parts.1)

-- a pattern with these signs, which stands in a value of so many bytes
record PatternIn (section : Section) (adds takes_out : Bool) (len : ℕ) (p : SourcePattern) : Type 0 where
  text : IsFullValue p.text
  form : has_form p.kind p.text ≡ true
  limit : IsLimit section p.limit
  signs : (p.adds ≡ adds) × (p.takes_out ≡ takes_out)
  short : 1 + length (limit_text p.limit) + 1 + length p.text ≤ len

from_given : (section : Section) (line : ℕ) (adds takes_out : Bool) (rest : List ℕ) (p : SourcePattern) → IsPlainText (drop 1 rest)
    → pattern_from section line adds takes_out rest ≡ Ok p → PatternIn section adds takes_out (length rest) p
from_given section line adds takes_out rest p is found = by (kind_of rest) (pattern_limit section (before_blank (drop 1 rest))) refl found
  where
    text_by : (kind : PatternKind) (limit : Limit) → pattern_limit section (before_blank (drop 1 rest)) ≡ Some limit
        → (found : Option (List ℕ)) → pattern_text kind (behind_blank (drop 1 rest)) ≡ found
        → pattern_with_text (λ t. record { line = line; adds = adds; takes_out = takes_out; kind = kind; limit = limit; text = t }) found ≡ Ok p → PatternIn section adds takes_out (length rest) p
    text_by kind limit f None g same = absurd (cc)
    text_by kind limit f (Some text) g same =
        let given = text_given kind (behind_blank (drop 1 rest)) text g in
        let within = limit_given section (before_blank (drop 1 rest)) limit f in
        let value : IsValue (behind_blank (drop 1 rest)) = behind-value is.opens (drop 1 rest) is.plain is.ends given.2 in
        let some : 0 < length (behind_blank (drop 1 rest)) = leb-true 1 (length (behind_blank (drop 1 rest))) (and_parts (nat_le 1 (length (behind_blank (drop 1 rest)))) _ given.1).0 in
        subst (PatternIn section adds takes_out (length rest)) (ok_same same) (record {
          text = subst IsFullValue given.0 (record { value = value; full = some });
          form = subst (λ (l : List ℕ). has_form kind l ≡ true) given.0 given.1;
          limit = within.form;
          signs = (refl, refl);
          short = omega (arith, ap length given.0, ap length within.text, letter_short rest some);
        })

    by : (k : Option PatternKind) (l : Option Limit) → pattern_limit section (before_blank (drop 1 rest)) ≡ l
        → pattern_with line adds takes_out k l (behind_blank (drop 1 rest)) ≡ Ok p → PatternIn section adds takes_out (length rest) p
    by None l f same = absurd (cc)
    by (Some kind) None f same = absurd (cc)
    by (Some kind) (Some limit) f same = text_by kind limit f (pattern_text kind (behind_blank (drop 1 rest))) refl same

pattern_given : (section : Section) (line : ℕ) (value : List ℕ) (p : SourcePattern) → IsPlainText value → IsText value → pattern_of section line value ≡ Ok p → IsPattern section p
pattern_given section line value p is text found =
    let adds = begins_with 43 value in
    let signless = less_first adds value in
    let takes_out = begins_with 33 signless in
    let rest = less_first takes_out signless in
    let given = from_given section line adds takes_out rest p (first_plain true rest (first_plain takes_out signless (first_plain adds value is))) found in
    record {
      text = given.text;
      form = given.form;
      limit = given.limit;
      short = value_short adds takes_out rest given.signs (first_short 43 adds value refl) (first_short 33 takes_out signless refl) given.short;
    }
  where
    value_short : (adds takes_out : Bool) (rest : List ℕ) → (p.adds ≡ adds) × (p.takes_out ≡ takes_out) → length (sign adds 43) + length (less_first adds value) ≡ length value
        → length (sign takes_out 33) + length rest ≡ length (less_first adds value)
        → 1 + length (limit_text p.limit) + 1 + length p.text ≤ length rest → length (pattern_value p) ≤ 65536
    value_short adds takes_out rest signs first second short =
        omega (
          arith,
          ap (λ t. length (sign t 43)) signs.0,
          ap (λ t. length (sign t 33)) signs.1,
          first,
          second,
          short,
          length-text value text,
          length-append (sign p.adds 43 ++ sign p.takes_out 33) (letter p.kind ∷ (limit_text p.limit ++ 32 ∷ p.text)),
          length-append (sign p.adds 43) (sign p.takes_out 33),
          length-append (limit_text p.limit) (32 ∷ p.text),
        )

-- ---- lines

said_by_part : {A : Type 0} (say : A → Said) (found : Result A SourceKind) (said : Said) → ((x : A) → found ≡ Ok x → IsSaid (say x)) → said_of say found ≡ Ok said → IsSaid said
said_by_part say (Ok x) said each same = subst IsSaid (ok_same same) (each x refl)
said_by_part say (Err kind) said each same = absurd (cc)

name_given : (name value : List ℕ) (said : Said) → name_said name value ≡ Ok said → IsSaid said
name_given name value said found = by (bytes_eq value name && not (is_reserved_name name)) found
  where
    by : (t : Bool) → cond t (Ok saids.Name) (Err kinds.Name) ≡ Ok said → IsSaid said
    by true same = subst IsSaid (ok_same same) tt
    by false same = absurd (cc)

category_given : (found : Option Category) (said : Said) → category_said found ≡ Ok said → IsSaid said
category_given None said same = absurd (cc)
category_given (Some category) said same = subst IsSaid (ok_same same) tt

-- what a value that isn't empty says
under_given : (name : List ℕ) (number : ℕ) (key : Key) (value : List ℕ) (said : Said) → IsFullValue value → said_under name number key value ≡ Ok said → IsSaid said
under_given name number keys.Name value said is same = name_given name value said same
under_given name number keys.Category value said is same = category_given (found_category value) said same
under_given name number keys.Catalogue value said is same = subst IsSaid (ok_same same) is
under_given name number keys.Shortdesc value said is same = subst IsSaid (ok_same same) is.value
under_given name number keys.Longdesc value said is same = subst IsSaid (ok_same same) is.value
under_given name number keys.Depend value said is same = subst IsSaid (ok_same same) is
under_given name number keys.Execute value said is same = subst IsSaid (ok_same same) is
under_given name number keys.Postaction value said is same = subst IsSaid (ok_same same) is
under_given name number keys.Variable value said is same =
    said_by_part (λ var. saids.Variable var.0 var.1) (var_of value) said (λ var found. var_given value var is.value.text found) same
under_given name number (keys.Pattern section) value said is same =
    let plain : IsPlainText value = record { opens = true; plain = is.value.plain; ends = none_behind value is.value.ends } in
    said_by_part (saids.Pattern section) (pattern_of section number value) said (λ p found. pattern_given section number value p plain is.value.text found) same

-- what an empty value says where it may be empty
empty_given : (name : List ℕ) (number : ℕ) (key : Key) (said : Said) → IsValue [] → cond (not (may_be_empty key)) (Err kinds.Value) (said_under name number key []) ≡ Ok said → IsSaid said
empty_given name number keys.Name said is same = absurd (cc)
empty_given name number keys.Category said is same = absurd (cc)
empty_given name number keys.Catalogue said is same = absurd (cc)
empty_given name number keys.Shortdesc said is same = subst IsSaid (ok_same same) is
empty_given name number keys.Longdesc said is same = subst IsSaid (ok_same same) is
empty_given name number keys.Depend said is same = absurd (cc)
empty_given name number keys.Execute said is same = absurd (cc)
empty_given name number keys.Postaction said is same = absurd (cc)
empty_given name number keys.Variable said is same = absurd (cc)
empty_given name number (keys.Pattern section) said is same = absurd (cc)

key_given : (name : List ℕ) (number : ℕ) (key : Key) (value : List ℕ) (said : Said) → (IsText value → IsValue value) → said_for_key name number key value ≡ Ok said → IsSaid said
key_given name number key [] said is same = empty_given name number key said (is IsText-nil) same
key_given name number key (b ∷ value) said is same = by (is_text (b ∷ value)) refl same
  where
    by : (t : Bool) → is_text (b ∷ value) ≡ t → cond t (said_under name number key (b ∷ value)) (Err kinds.TooLong) ≡ Ok said → IsSaid said
    by true e found = under_given name number key (b ∷ value) said (record { value = is e; full = omega arith }) found
    by false e found = absurd (cc)

with_given : (name : List ℕ) (number : ℕ) (key : Option Key) (value : List ℕ) (said : Said) → (IsText value → IsValue value) → said_with name number key value ≡ Ok said → IsSaid said
with_given name number None value said is same = absurd (cc)
with_given name number (Some key) value said is same = key_given name number key value said is same

-- what a line says can be written
pub said_given : (name : List ℕ) (number : ℕ) (line : List ℕ) (said : Said) → said_in name number (line_content line) ≡ Ok said → IsSaid said
said_given name number line said found = by (is_utf8 (line_content line)) found
  where
    value : IsText (behind_blank (line_content line)) → IsValue (behind_blank (line_content line))
    value is = behind-value true (line_content line) (content-plain line) (content-ends line) is

    by : (t : Bool) → cond t (said_with name number (source_key_of (before_blank (line_content line))) (behind_blank (line_content line))) (Err kinds.Utf8) ≡ Ok said → IsSaid said
    by true same = with_given name number (source_key_of (before_blank (line_content line))) (behind_blank (line_content line)) said value same
    by false same = absurd (cc)
