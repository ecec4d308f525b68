-- What one line of a source says.
use Rattle.std.specs.Prelude.{ℕ, ◌&&◌, Bool, not, if◌then◌else◌, List, [], ◌∷◌, find, Option, Some, None, Result, Ok, Err, codes}
use Rattle.std.specs.List.{starts_with}
use Rattle.std.specs.Prelude.{nat_eq}
use Rattle.std.specs.Str.{bytes_eq, is_utf8}
use Rattle.tl_kind.specs.declared.kinds.SourceKind.{SourceKind}
use Rattle.tl_kind.specs.declared.kinds.SourceKind.TheVariants as kinds
use Rattle.tl_text.specs.Texts.{is_text}
use Rattle.tl_path.specs.declared.kinds.Category.{Category}
use Rattle.tl_path.specs.Kinds.{category_text, all_categories}
use Rattle.tl_srctext.specs.Content.{before_blank, behind_blank}
use Rattle.tl_srctext.specs.Keys.{source_key_of, may_be_empty}
use Rattle.tl_srctext.specs.Variables.{var_of}
use Rattle.tl_srctext.specs.Patterns.{pattern_of}
use Rattle.tl_srctext.specs.declared.key.Key.{Key}
use Rattle.tl_srctext.specs.declared.key.Key.TheVariants as keys
use Rattle.tl_srctext.specs.declared.line.Said.{Said}
use Rattle.tl_srctext.specs.declared.line.Said.TheVariants as saids

-- whether a name begins as those of entries that no source makes
abbrev pub is_reserved_name : List ℕ → Bool
is_reserved_name name = starts_with nat_eq name (codes "00texlive")

-- what is said by a part of a line, where that was found
abbrev pub said_of : {A : Type 0} → (A → Said) → Result A SourceKind → Result Said SourceKind
said_of say (Ok x) = Ok (say x)
said_of say (Err kind) = Err kind

-- the category that is written so
abbrev pub found_category : List ℕ → Option Category
found_category value = find (λ category. bytes_eq (category_text category) value) all_categories

-- what the line of a category says, where one was found
abbrev pub category_said : Option Category → Result Said SourceKind
category_said None = Err kinds.Category
category_said (Some category) = Ok (saids.Category category)

-- what the line of a name says in the source of this name, where a source may have it
abbrev pub name_said : List ℕ → List ℕ → Result Said SourceKind
name_said name value = if bytes_eq value name && not (is_reserved_name name) then Ok saids.Name else Err kinds.Name

-- what a value says under its key, in a line with this number of the source of this name
abbrev pub said_under : List ℕ → ℕ → Key → List ℕ → Result Said SourceKind
said_under name number keys.Name value = name_said name value
said_under name number keys.Category value = category_said (found_category value)
said_under name number keys.Catalogue value = Ok (saids.Catalogue value)
said_under name number keys.Shortdesc value = Ok (saids.Shortdesc value)
said_under name number keys.Longdesc value = Ok (saids.Longdesc value)
said_under name number keys.Depend value = Ok (saids.Depend value)
said_under name number keys.Execute value = Ok (saids.Execute value)
said_under name number keys.Postaction value = Ok (saids.Postaction value)
said_under name number keys.Variable value = said_of (λ var. saids.Variable var.0 var.1) (var_of value)
said_under name number (keys.Pattern section) value = said_of (saids.Pattern section) (pattern_of section number value)

-- the same, where the value may be empty only under some keys, and is a text
abbrev pub said_for_key : List ℕ → ℕ → Key → List ℕ → Result Said SourceKind
said_for_key name number key [] = if not (may_be_empty key) then Err kinds.Value else said_under name number key []
said_for_key name number key (b ∷ value) = if is_text (b ∷ value) then said_under name number key (b ∷ value) else Err kinds.TooLong

-- the same for the key that was found
abbrev pub said_with : List ℕ → ℕ → Option Key → List ℕ → Result Said SourceKind
said_with name number None value = Err kinds.Key
said_with name number (Some key) value = said_for_key name number key value

-- what a line with this number says in the source of this name, or how it is bad
abbrev pub said_in : List ℕ → ℕ → List ℕ → Result Said SourceKind
said_in name number line =
    if is_utf8 line then said_with name number (source_key_of (before_blank line)) (behind_blank line) else Err kinds.Utf8
