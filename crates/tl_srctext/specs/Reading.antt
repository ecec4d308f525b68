-- What the text of a source reads as, and its first bad line.
use Rattle.std.specs.Prelude.{ℕ, ◌==◌, ◌&&◌, Bool, not, if◌then◌else◌, List, [], ◌∷◌, ◌++◌, length, fold, Some, None, Result, Ok, Err, codes}
use Rattle.std.specs.List.{list_any}
use Rattle.std.specs.Str.{bytes_eq}
use Rattle.indexmap.specs.IndexMap.{insert_entry}
use Rattle.tl_kind.specs.declared.kinds.SourceKind.{SourceKind}
use Rattle.tl_kind.specs.declared.kinds.SourceKind.TheVariants as kinds
use Rattle.tl_path.specs.declared.kinds.Category.TheVariants.{Package}
use Rattle.tl_srctext.specs.Joined.{Joined, joined_lines}
use Rattle.tl_srctext.specs.Content.{line_content, before_blank}
use Rattle.tl_srctext.specs.Line.{is_reserved_name, said_in}
use Rattle.tl_srctext.specs.declared.key.Section.{Section}
use Rattle.tl_srctext.specs.declared.key.Section.TheVariants.{Run, Src, Doc, Bin}
use Rattle.tl_srctext.specs.declared.pattern.SourcePattern.{SourcePattern}
use Rattle.tl_srctext.specs.declared.line.Said.{Said}
use Rattle.tl_srctext.specs.declared.line.Said.TheVariants as saids
use Rattle.tl_srctext.specs.declared.fields.SourceFields.{SourceFields}

-- the number of a bad line, and how it is bad
abbrev pub BadLine : Type 0
BadLine = ℕ × SourceKind

-- what goes on from what a line says; or that line, where it is bad
abbrev pub or_bad_line : ℕ → Result Said SourceKind → (Said → Result (List Said) BadLine) → Result (List Said) BadLine
or_bad_line number (Err kind) go = Err (number, kind)
or_bad_line number (Ok said) go = go said

-- what the lines say that aren't empty, behind what was said before; or the first bad one
abbrev pub lines_said : List ℕ → List Said → List Joined → Result (List Said) BadLine
lines_said name done [] = Ok done
lines_said name done (line ∷ lines) = if length (line_content line.text) == 0 then lines_said name done lines
    else or_bad_line line.number (said_in name line.number (line_content line.text)) (λ said. lines_said name (done ++ said ∷ []) lines)

-- the fields of a source that says nothing
abbrev pub no_fields : List ℕ → SourceFields
no_fields name = record {
  name = name;
  category = Package;
  catalogue = None;
  shortdesc = None;
  longdesc = [];
  depends = [];
  executes = [];
  postactions = [];
  vars = [];
  run = [];
  src = [];
  doc = [];
  bin = [];
}

-- the fields with a pattern more in a section
abbrev pub with_pattern : SourceFields → Section → SourcePattern → SourceFields
with_pattern s Run pattern = record s { run = s.run ++ pattern ∷ [] }
with_pattern s Src pattern = record s { src = s.src ++ pattern ∷ [] }
with_pattern s Doc pattern = record s { doc = s.doc ++ pattern ∷ [] }
with_pattern s Bin pattern = record s { bin = s.bin ++ pattern ∷ [] }

-- the fields with what a further line says: some values are replaced by a later one, a variable's in its place, and others add up
abbrev pub with_said : SourceFields → Said → SourceFields
with_said s saids.Name = s
with_said s (saids.Category category) = record s { category = category }
with_said s (saids.Catalogue text) = record s { catalogue = Some text }
with_said s (saids.Shortdesc text) = record s { shortdesc = Some text }
with_said s (saids.Longdesc text) = record s { longdesc = s.longdesc ++ text ∷ [] }
with_said s (saids.Depend text) = record s { depends = s.depends ++ text ∷ [] }
with_said s (saids.Execute text) = record s { executes = s.executes ++ text ∷ [] }
with_said s (saids.Postaction text) = record s { postactions = s.postactions ++ text ∷ [] }
with_said s (saids.Variable name value) = record s { vars = insert_entry bytes_eq s.vars name value }
with_said s (saids.Pattern section pattern) = with_pattern s section pattern

-- the fields of the source of this name that says this
abbrev pub fields_of : List ℕ → List Said → SourceFields
fields_of name saids = fold with_said (no_fields name) saids

-- some settings in the order of their names' first ones, each name with its last value
abbrev pub vars_of : List (List ℕ × List ℕ) → List (List ℕ × List ℕ)
vars_of vars = fold (λ vs var. insert_entry bytes_eq vs var.0 var.1) [] vars

-- the fields, where no line was bad
abbrev pub as_fields : List ℕ → Result (List Said) BadLine → Result SourceFields BadLine
as_fields name (Ok saids) = Ok (fields_of name saids)
as_fields name (Err bad) = Err bad

-- the fields that lines give, or the first bad one
abbrev pub fields_read : List ℕ → List Joined → Result SourceFields BadLine
fields_read name lines = as_fields name (lines_said name [] lines)

-- whether the key of a line is `name`
abbrev pub is_name_line : Joined → Bool
is_name_line line = bytes_eq (before_blank (line_content line.text)) (codes "name")

-- how the first line is bad in a source that wants a name line and has none: in its own way, or that it is no name line
abbrev pub or_nameless : Result Said SourceKind → SourceKind
or_nameless (Ok said) = kinds.Name
or_nameless (Err kind) = kind

-- how the first of some lines is bad where none is a name line
abbrev pub nameless_fault : List ℕ → List Joined → SourceKind
nameless_fault name [] = kinds.Name
nameless_fault name (line ∷ lines) =
    if length (line_content line.text) == 0 then kinds.Name else or_nameless (said_in name 1 (line_content line.text))

-- the first line is the bad one where a source wants a name line and has none
abbrev pub nameless : List ℕ → List Joined → Result SourceFields BadLine
nameless name lines = Err (1, nameless_fault name lines)

-- the fields that the lines of a source give, or its first bad line: a name that no source may have is bad at its line or without one
abbrev pub lines_source : List ℕ → List Joined → Result SourceFields BadLine
lines_source name lines = if is_reserved_name name && not (list_any is_name_line lines) then nameless name lines else fields_read name lines

-- the fields of the source that a text is for this name, or its first bad line and how it is bad
abbrev pub source_of : List ℕ → List ℕ → Result SourceFields BadLine
source_of name text = lines_source name (joined_lines text)
