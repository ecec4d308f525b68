-- What a value says under its key, by what is known of it.
use Rattle.std.proofs.Common.{◌≡◌, ℕ, Bool, true, false, cond, List, [], ◌∷◌, drop, Option, Some, None, Err, refl, sym, ap, ◌∙◌, arith}
use Rattle.std.specs.Str.{IsAscii}
use Rattle.std.proofs.lemmas.Bool.{true≢false}
use Rattle.std.proofs.lemmas.Str.{IsUtf8-from_ascii}
use Rattle.tl_kind.specs.declared.kinds.SourceKind.TheVariants as kinds
use Rattle.tl_text.specs.Texts.{IsText, is_text, IsText-from}
use Rattle.tl_srctext.specs.Keys.{is_missing}
use Rattle.tl_srctext.specs.Content.{before_blank, behind_blank}
use Rattle.tl_srctext.specs.Patterns.{kind_of, pattern_limit, pattern_text, pattern_with_text, pattern_with, pattern_from}
use Rattle.tl_srctext.specs.declared.key.Section.{Section}
use Rattle.tl_pattern.specs.declared.kind.PatternKind.{PatternKind}
use Rattle.tl_srctext.specs.declared.pattern.Limit.{Limit}
use Rattle.tl_srctext.specs.declared.pattern.SourcePattern.{SourcePattern}
use Rattle.tl_srctext.specs.Line.{said_under, said_for_key}
use Rattle.tl_srctext.specs.declared.key.Key.{Key}

pub value_missing : (name : List ℕ) (number : ℕ) (key : Key) (value : List ℕ) → is_missing key value ≡ true → said_for_key name number key value ≡ Err kinds.Value
value_missing name number key [] is = ap (λ t. cond t (Err kinds.Value) (said_under name number key [])) is
value_missing name number key (b ∷ value) is = absurd (cc)

ascii_nil : IsAscii []
ascii_nil i = omega arith

-- a text may be empty
pub IsText-nil : IsText []
IsText-nil = IsText-from [] (IsUtf8-from_ascii [] ascii_nil) refl (omega arith)

pub value_long : (name : List ℕ) (number : ℕ) (key : Key) (value : List ℕ) → is_text value ≡ false → said_for_key name number key value ≡ Err kinds.TooLong
value_long name number key [] is = absurd (true≢false (sym IsText-nil ∙ is))
value_long name number key (b ∷ value) is = ap (λ t. cond t (said_under name number key (b ∷ value)) (Err kinds.TooLong)) is

pub value_there : (name : List ℕ) (number : ℕ) (key : Key) (value : List ℕ) → is_missing key value ≡ false → is_text value ≡ true → said_for_key name number key value ≡ said_under name number key value
value_there name number key [] is text = ap (λ t. cond t (Err kinds.Value) (said_under name number key [])) is
value_there name number key (b ∷ value) is text = ap (λ t. cond t (said_under name number key (b ∷ value)) (Err kinds.TooLong)) text

-- a pattern whose text hasn't its form
pub text_missing : (section : Section) (line : ℕ) (adds takes_out : Bool) (rest : List ℕ) (kind : PatternKind) (limit : Limit)
    → kind_of rest ≡ Some kind → pattern_limit section (before_blank (drop 1 rest)) ≡ Some limit → pattern_text kind (behind_blank (drop 1 rest)) ≡ None
    → pattern_from section line adds takes_out rest ≡ Err kinds.Pattern
text_missing section line adds takes_out rest kind limit found within missing =
    let make : List ℕ → SourcePattern = λ t. record { line = line; adds = adds; takes_out = takes_out; kind = kind; limit = limit; text = t } in
    ap (λ (o : Option PatternKind). pattern_with line adds takes_out o (pattern_limit section (before_blank (drop 1 rest))) (behind_blank (drop 1 rest))) found
    ∙ ap (λ (o : Option Limit). pattern_with line adds takes_out (Some kind) o (behind_blank (drop 1 rest))) within
    ∙ ap (pattern_with_text make) missing
