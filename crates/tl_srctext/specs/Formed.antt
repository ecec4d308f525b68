-- Sources that can be written: each value is one that a line can give.
use Rattle.std.specs.Prelude.{◌≡◌, ℕ, ◌<◌, ◌≤◌, true, false, List, length, All, IfSome}
use Rattle.std.specs.List.{list_all}
use Rattle.tl_text.specs.Texts.{IsText}
use Rattle.tl_path.specs.Names.{is_name, is_platform}
use Rattle.tl_srctext.specs.Content.{less_comment, less_blanks_before, less_blanks_behind}
use Rattle.tl_srctext.specs.Variables.{is_var_name, is_var_value}
use Rattle.tl_srctext.specs.Patterns.{has_form}
use Rattle.tl_srctext.specs.Line.{is_reserved_name}
use Rattle.tl_srctext.specs.Reading.{vars_of}
use Rattle.tl_srctext.specs.Writing.{var_text, pattern_value}
use Rattle.tl_srctext.specs.declared.key.Section.{Section}
use Rattle.tl_srctext.specs.declared.key.Section.TheVariants.{Run, Src, Doc, Bin}
use Rattle.tl_srctext.specs.declared.pattern.Limit.{Limit}
use Rattle.tl_srctext.specs.declared.pattern.Limit.TheVariants.{All as Everywhere, Only, Except}
use Rattle.tl_srctext.specs.declared.pattern.SourcePattern.{SourcePattern}
use Rattle.tl_srctext.specs.declared.fields.SourceFields.{SourceFields}

-- a value that a line can give: a text without blanks at its ends in which no comment begins
pub record IsValue (value : List ℕ) : Type 0 where
  pub text : IsText value
  pub begins : less_blanks_before value ≡ value
  pub ends : less_blanks_behind value ≡ value
  pub plain : less_comment true value ≡ value

-- such a value that isn't empty
pub record IsFullValue (text : List ℕ) : Type 0 where
  pub value : IsValue text
  pub full : 0 < length text

-- a variable whose name and value have their forms, and which fits into a line
pub record IsVar (var : List ℕ × List ℕ) : Type 0 where
  pub name : is_var_name var.0 ≡ true
  pub value : is_var_value var.1 ≡ true
  pub short : length (var_text var) ≤ 65536

-- a limit has its form: only patterns of binaries have one, of one platform at least
abbrev pub IsLimit : Section → Limit → Type 0
IsLimit section Everywhere = Unit {0}
IsLimit Bin (Only platforms) = (0 < length platforms) × (list_all is_platform platforms ≡ true)
IsLimit Bin (Except platforms) = (0 < length platforms) × (list_all is_platform platforms ≡ true)
IsLimit section limit = ⊥

-- a pattern whose parts have their forms, and which fits into a line
pub record IsPattern (section : Section) (pattern : SourcePattern) : Type 0 where
  pub text : IsFullValue pattern.text
  pub form : has_form pattern.kind pattern.text ≡ true
  pub limit : IsLimit section pattern.limit
  pub short : length (pattern_value pattern) ≤ 65536

-- a source that can be written
pub record IsSource (s : SourceFields) : Type 0 where
  pub name : is_name s.name ≡ true
  pub allowed : is_reserved_name s.name ≡ false
  pub catalogue : IfSome s.catalogue IsFullValue
  pub shortdesc : IfSome s.shortdesc IsValue
  pub longdesc : All IsValue s.longdesc
  pub depends : All IsFullValue s.depends
  pub executes : All IsFullValue s.executes
  pub postactions : All IsFullValue s.postactions
  pub vars : All IsVar s.vars
  pub once : vars_of s.vars ≡ s.vars
  pub run : All (IsPattern Run) s.run
  pub src : All (IsPattern Src) s.src
  pub doc : All (IsPattern Doc) s.doc
  pub bin : All (IsPattern Bin) s.bin
