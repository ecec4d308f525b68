-- The line of a refusal is a whole line and no acknowledgement.
use Rattle.std.proofs.Common.{◌≡◌, ℕ, ◌==◌, Bool, true, false, not, ◌&&◌, List, [], ◌∷◌, ◌++◌, refl, sym, ◌∙◌, ap, inl, inr}
use Rattle.std.specs.Prelude.{codes, nat_lt}
use Rattle.std.specs.Str.{IsAscii, IsUtf8}
use Rattle.std.specs.List.{list_all, flat_map}
use Rattle.std.proofs.lemmas.Bool.{cases_Bool, true≢false, eqb-true, ltb-true}
use Rattle.std.proofs.lemmas.Str.{IsUtf8-from_ascii}
use Rattle.std.proofs.lemmas.Str.Ascii.{IsAscii-nil, IsAscii-cons}
use Rattle.hex.specs.Hex.{encode_lower, lower_digits}
use Rattle.hex.proofs.HexLemmas.{IsAscii-encode_with}
use Rattle.std.proofs.lemmas.List.Elements.{All-nil, All-cons}
use Rattle.tl_model.specs.Lines.{IsLine}
use Rattle.tl_model.specs.Acks.{IsPlain, plain-nil, plain-line}
use Rattle.tl_path.specs.Bytes.{is_letter_or_digit, is_of_name, is_of_tag}
use Rattle.tl_path.specs.Names.{is_name, is_tag}
use Rattle.tl_path.proofs.Words.{word_all}
use Rattle.tl_object.proofs.PlainLemmas.{line_tested, line_append}
use Rattle.tl_kind.specs.declared.kinds.SourceKind.{SourceKind}
use Rattle.tl_kind.specs.declared.kinds.SourceKind.TheVariants as sources
use Rattle.tl_kind.specs.declared.kinds.EditKind.{EditKind}
use Rattle.tl_kind.specs.declared.kinds.EditKind.TheVariants as edits
use Rattle.tl_kind.specs.declared.kinds.RegexpKind.{RegexpKind}
use Rattle.tl_kind.specs.declared.kinds.RegexpKind.TheVariants as regexps
use Rattle.tl_kind.specs.declared.quantity.What.{What}
use Rattle.tl_kind.specs.declared.quantity.What.TheVariants as quantities
use Rattle.tl_words.specs.declared.error.WordKind.{WordKind}
use Rattle.tl_words.specs.declared.error.WordKind.TheVariants as words
use Rattle.tl_object.specs.declared.fault.LineKind.{LineKind}
use Rattle.tl_object.specs.declared.fault.LineKind.TheVariants as lines
use Rattle.tl_execute.specs.declared.execute.ExecuteKind.{ExecuteKind}
use Rattle.tl_execute.specs.declared.execute.ExecuteKind.TheVariants as executes
use Rattle.tl_kind.specs.Kinds.{source_kind_name, edit_kind_name, regexp_kind_name}
use Rattle.tl_kind.specs.Quantities.{quantity_name}
use Rattle.tl_refusal.specs.Kinds.{word_kind_name, line_kind_name, execute_kind_name}
use Rattle.tl_refusal.specs.Values.{field_text, AreOneLine}
use Rattle.tl_refusal.specs.Refusals.{refusal_name, refusal_fields, refusal_text, refusal_line}
use Rattle.tl_refusal.specs.declared.refusal.Refusal.{Refusal}
use Rattle.tl_refusal.specs.declared.refusal.Refusal.TheVariants as refusals

abbrev no_end : ℕ → Bool
no_end b = not (b == 10)

both : (a b : Bool) → (a && b) ≡ true → (a ≡ true) × (b ≡ true)
both true b is = (refl, is)
both false b is = absurd (cc)

-- bytes that all pass a test which the line end doesn't pass
line_of_all : (p : ℕ → Bool) → p 10 ≡ false → (bytes : List ℕ) → list_all p bytes ≡ true → IsLine bytes
line_of_all p not_end [] is = All-nil (λ b. (b == 10) ≡ false)
line_of_all p not_end (b ∷ bytes) is =
    let parts = both (p b) (list_all p bytes) is in
    All-cons (λ c. (c == 10) ≡ false) b bytes (no_line_end b parts.0) (line_of_all p not_end bytes parts.1)
  where
    no_line_end : (b : ℕ) → p b ≡ true → (b == 10) ≡ false
    no_line_end b is = elim (cases_Bool (b == 10)) [
      | inl same ↦ absurd (true≢false (sym is ∙ ap p (eqb-true b 10 same) ∙ not_end))
      | inr apart ↦ apart
    ]

-- a name and a tag have no line end
pub line_of_name : (name : List ℕ) → is_name name ≡ true → IsLine name
line_of_name name is = line_of_all is_of_name refl name (word_all is_letter_or_digit is_of_name 128 name is)

pub line_of_tag : (tag : List ℕ) → is_tag tag ≡ true → IsLine tag
line_of_tag tag is = line_of_all is_of_tag refl tag (word_all is_letter_or_digit is_of_tag 64 tag is)

-- the digits of a digest are UTF-8
pub utf8_of_digest : (digest : List ℕ) → IsUtf8 (encode_lower digest)
utf8_of_digest digest = IsUtf8-from_ascii (encode_lower digest) (IsAscii-encode_with lower_digits digest (ascii_tested lower_digits refl))
  where
    ascii_tested : (bytes : List ℕ) → list_all (λ b. nat_lt b 128) bytes ≡ true → IsAscii bytes
    ascii_tested [] is = IsAscii-nil
    ascii_tested (b ∷ bytes) is =
        let parts = both (nat_lt b 128) (list_all (λ c. nat_lt c 128) bytes) is in
        IsAscii-cons b bytes (ltb-true b 128 parts.0) (ascii_tested bytes parts.1)

-- nor has the name of a kind or quantity

pub line_of_word_kind : (kind : WordKind) → IsLine (word_kind_name kind)
line_of_word_kind kind = line_tested (word_kind_name kind) (tested kind)
  where
    tested : (kind : WordKind) → list_all no_end (word_kind_name kind) ≡ true
    tested words.Root = refl
    tested _ = refl

pub line_of_line_kind : (kind : LineKind) → IsLine (line_kind_name kind)
line_of_line_kind kind = line_tested (line_kind_name kind) (tested kind)
  where
    tested : (kind : LineKind) → list_all no_end (line_kind_name kind) ≡ true
    tested lines.Missing = refl
    tested _ = refl

pub line_of_execute_kind : (kind : ExecuteKind) → IsLine (execute_kind_name kind)
line_of_execute_kind kind = line_tested (execute_kind_name kind) (tested kind)
  where
    tested : (kind : ExecuteKind) → list_all no_end (execute_kind_name kind) ≡ true
    tested executes.Quote = refl
    tested _ = refl

pub line_of_source_kind : (kind : SourceKind) → IsLine (source_kind_name kind)
line_of_source_kind kind = line_tested (source_kind_name kind) (tested kind)
  where
    tested : (kind : SourceKind) → list_all no_end (source_kind_name kind) ≡ true
    tested sources.Utf8 = refl
    tested _ = refl

pub line_of_edit_kind : (kind : EditKind) → IsLine (edit_kind_name kind)
line_of_edit_kind kind = line_tested (edit_kind_name kind) (tested kind)
  where
    tested : (kind : EditKind) → list_all no_end (edit_kind_name kind) ≡ true
    tested edits.Cut = refl
    tested _ = refl

pub line_of_regexp_kind : (kind : RegexpKind) → IsLine (regexp_kind_name kind)
line_of_regexp_kind kind = line_tested (regexp_kind_name kind) (tested kind)
  where
    tested : (kind : RegexpKind) → list_all no_end (regexp_kind_name kind) ≡ true
    tested regexps.Size = refl
    tested _ = refl

pub line_of_quantity : (what : What) → IsLine (quantity_name what)
line_of_quantity what = line_tested (quantity_name what) (tested what)
  where
    tested : (what : What) → list_all no_end (quantity_name what) ≡ true
    tested quantities.Line = refl
    tested _ = refl

-- nor has the name of a refusal or of a field
line_of_refusal_name : (refusal : Refusal) → IsLine (refusal_name refusal)
line_of_refusal_name refusal = line_tested (refusal_name refusal) (tested refusal)
  where
    tested : (refusal : Refusal) → list_all no_end (refusal_name refusal) ≡ true
    tested refusals.MarksSpent = refl
    tested _ = refl

abbrev has_line_name : List ℕ × List ℕ → Bool
has_line_name field = list_all no_end field.0

line_names : (refusal : Refusal) → list_all has_line_name (refusal_fields refusal) ≡ true
line_names refusals.MarksSpent = refl
line_names _ = refl

line_of_fields : (fields : List (List ℕ × List ℕ)) → list_all has_line_name fields ≡ true → AreOneLine fields → IsLine (flat_map field_text fields)
line_of_fields [] names values = All-nil (λ b. (b == 10) ≡ false)
line_of_fields (field ∷ fields) names values =
    let parts = both (has_line_name field) (list_all has_line_name fields) names in
    line_append (field_text field) (flat_map field_text fields)
    (line_append (32 ∷ field.0) (61 ∷ field.1) (All-cons (λ b. (b == 10) ≡ false) 32 field.0 refl (line_tested field.0 parts.0)) (All-cons (λ b. (b == 10) ≡ false) 61 field.1 refl values.0))
    (line_of_fields fields parts.1 values.1)

-- the line of a refusal whose values are lines
pub plain-refusal : (refusal : Refusal) → AreOneLine (refusal_fields refusal) → IsPlain (refusal_line refusal)
unfolding refusal_text
plain-refusal refusal values = plain-line (refusal_text refusal) []
    (line_append (codes "tlmgr: " ++ refusal_name refusal) (flat_map field_text (refusal_fields refusal))
    (line_append (codes "tlmgr: ") (refusal_name refusal) (line_tested (codes "tlmgr: ") refl) (line_of_refusal_name refusal))
    (line_of_fields (refusal_fields refusal) (line_names refusal) values)) refl plain-nil
