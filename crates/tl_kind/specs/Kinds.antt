-- The names of kinds.
use Rattle.std.specs.Prelude.{ℕ, List, codes}
use Rattle.tl_kind.specs.declared.kinds.SourceKind.{SourceKind}
use Rattle.tl_kind.specs.declared.kinds.SourceKind.TheVariants as sources
use Rattle.tl_kind.specs.declared.kinds.EditKind.{EditKind}
use Rattle.tl_kind.specs.declared.kinds.EditKind.TheVariants as edits
use Rattle.tl_kind.specs.declared.kinds.RegexpKind.{RegexpKind}
use Rattle.tl_kind.specs.declared.kinds.RegexpKind.TheVariants as regexps

-- a kind of bad line of a source, by its name
abbrev pub source_kind_name : SourceKind → List ℕ
source_kind_name sources.Utf8 = codes "Utf8"
source_kind_name sources.Key = codes "Key"
source_kind_name sources.Value = codes "Value"
source_kind_name sources.TooLong = codes "TooLong"
source_kind_name sources.Name = codes "Name"
source_kind_name sources.Category = codes "Category"
source_kind_name sources.Variable = codes "Variable"
source_kind_name sources.Pattern = codes "Pattern"

-- a kind of bad line of an edit, by its name
abbrev pub edit_kind_name : EditKind → List ℕ
edit_kind_name edits.Command = codes "Command"
edit_kind_name edits.Operand = codes "Operand"
edit_kind_name edits.Name = codes "Name"
edit_kind_name edits.Path = codes "Path"
edit_kind_name edits.Number = codes "Number"
edit_kind_name edits.Platforms = codes "Platforms"
edit_kind_name edits.Cut = codes "Cut"

-- how a regular expression is refused, by its name
abbrev pub regexp_kind_name : RegexpKind → List ℕ
regexp_kind_name regexps.Syntax = codes "Syntax"
regexp_kind_name regexps.Size = codes "Size"
