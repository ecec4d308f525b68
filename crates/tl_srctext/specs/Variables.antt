-- The variables of a source.
use Rattle.std.specs.Prelude.{ℕ, ◌==◌, ◌&&◌, ◌||◌, Bool, not, nat_le, if◌then◌else◌, List, length, Option, Some, None, Result, Ok, Err, codes}
use Rattle.std.specs.List.{list_all}
use Rattle.std.specs.Str.{bytes_eq}
use Rattle.std.specs.Map.{lookup}
use Rattle.tl_kind.specs.declared.kinds.SourceKind.{SourceKind}
use Rattle.tl_kind.specs.declared.kinds.SourceKind.TheVariants as kinds
use Rattle.tl_text.specs.Texts.{is_text}
use Rattle.tl_path.specs.Bytes.{is_letter_or_digit}
use Rattle.tl_srctext.specs.Content.{before_blank, behind_blank}

-- a byte of a variable's name: a letter of ASCII, a digit or '_'
abbrev pub is_var_byte : ℕ → Bool
is_var_byte b = is_letter_or_digit b || b == 95

-- a byte of a variable's value: one from 0x21 to 0x7E but for `$`, `{`, `}`, `"`, `\`, `#`, `*` and `?`
abbrev pub is_value_byte : ℕ → Bool
is_value_byte b = (nat_le 33 b && nat_le b 126)
    && not (b == 36 || (b == 123 || (b == 125 || (b == 34 || (b == 92 || (b == 35 || (b == 42 || b == 63)))))))

-- the name of a variable: one byte or more, and neither `PKGNAME` nor `ARCH`
abbrev pub is_var_name : List ℕ → Bool
is_var_name word = nat_le 1 (length word)
    && (list_all is_var_byte word && not (bytes_eq word (codes "PKGNAME") || bytes_eq word (codes "ARCH")))

-- the value of a variable: a text of one byte or more
abbrev pub is_var_value : List ℕ → Bool
is_var_value text = nat_le 1 (length text) && (list_all is_value_byte text && is_text text)

-- the name of a variable that a word is
abbrev pub name_of : List ℕ → Option (List ℕ)
name_of word = if is_var_name word then Some word else None

-- the value of a variable that a text is
abbrev pub var_value : List ℕ → Result (List ℕ) SourceKind
var_value text = if is_var_value text then Ok text else Err kinds.Variable

-- a name with the value that was found for it
abbrev pub with_var_value : List ℕ → Result (List ℕ) SourceKind → Result (List ℕ × List ℕ) SourceKind
with_var_value name (Ok value) = Ok (name, value)
with_var_value name (Err kind) = Err kind

-- the setting of a name that was found, by the text behind it
abbrev pub var_with : Option (List ℕ) → List ℕ → Result (List ℕ × List ℕ) SourceKind
var_with None text = Err kinds.Variable
var_with (Some name) text = with_var_value name (var_value text)

-- what a value sets: the name before its first blank, to the value behind it
abbrev pub var_of : List ℕ → Result (List ℕ × List ℕ) SourceKind
var_of value = var_with (name_of (before_blank value)) (behind_blank value)

-- the value that a name has among some variables
abbrev pub value_of : List ℕ → List (List ℕ × List ℕ) → Option (List ℕ)
value_of name vars = lookup (bytes_eq name) vars
