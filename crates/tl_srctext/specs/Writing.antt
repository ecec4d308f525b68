-- The text of a source.
use Rattle.std.specs.Prelude.{ℕ, ◌==◌, ◌||◌, Bool, true, false, if◌then◌else◌, List, [], ◌∷◌, ◌++◌, codes, Option, Some, None}
use Rattle.std.specs.List.{flat_map, join_with_byte}
use Rattle.tl_path.specs.Kinds.{category_text}
use Rattle.tl_srctext.specs.Joined.{last_byte}
use Rattle.tl_pattern.specs.declared.kind.PatternKind.{PatternKind}
use Rattle.tl_pattern.specs.declared.kind.PatternKind.TheVariants.{F, D, T, R}
use Rattle.tl_srctext.specs.declared.pattern.Limit.{Limit}
use Rattle.tl_srctext.specs.declared.pattern.Limit.TheVariants.{All as Everywhere, Only, Except}
use Rattle.tl_srctext.specs.declared.pattern.SourcePattern.{SourcePattern}
use Rattle.tl_srctext.specs.declared.fields.SourceFields.{SourceFields}

-- the blank behind a value that ends with a backslash or a carriage return, so that the line's end doesn't take that with it
abbrev pub guard : List ℕ → List ℕ
guard value = if last_byte value == 92 || last_byte value == 13 then 32 ∷ [] else []

-- the line of a key and its value, with its end
unfoldable pub source_line : List ℕ → List ℕ → List ℕ
source_line key value = key ++ ((32 ∷ value) ++ (guard value ++ 10 ∷ []))

-- a value that is absent has no line
abbrev pub optional_line : List ℕ → Option (List ℕ) → List ℕ
optional_line key None = []
optional_line key (Some value) = source_line key value

-- a line for each value
abbrev pub value_lines : List ℕ → List (List ℕ) → List ℕ
value_lines key values = flat_map (λ value. source_line key value) values

-- a variable's name and its value, parted by a blank
abbrev pub var_text : List ℕ × List ℕ → List ℕ
var_text var = var.0 ++ 32 ∷ var.1

-- a line for each variable
abbrev pub var_lines : List (List ℕ × List ℕ) → List ℕ
var_lines vars = flat_map (λ var. source_line (codes "tlpsetvar") (var_text var)) vars

-- a sign, where a pattern has it
abbrev pub sign : Bool → ℕ → List ℕ
sign false byte = []
sign true byte = byte ∷ []

-- the letter of a kind
abbrev pub letter : PatternKind → ℕ
letter F = 102
letter D = 100
letter T = 116
letter R = 114

-- the limit of a pattern as it stands behind the letter
abbrev pub limit_text : Limit → List ℕ
limit_text Everywhere = []
limit_text (Only platforms) = 47 ∷ join_with_byte 44 platforms
limit_text (Except platforms) = 47 ∷ 33 ∷ join_with_byte 44 platforms

-- a pattern as it stands behind its key
abbrev pub pattern_value : SourcePattern → List ℕ
pattern_value p = sign p.adds 43 ++ sign p.takes_out 33 ++ letter p.kind ∷ (limit_text p.limit ++ 32 ∷ p.text)

-- a line for each pattern
abbrev pub pattern_lines : List ℕ → List SourcePattern → List ℕ
pattern_lines key patterns = flat_map (λ pattern. source_line key (pattern_value pattern)) patterns

-- name, category, catalogue and short description
unfoldable pub source_head : SourceFields → List ℕ
source_head s = source_line (codes "name") s.name ++ (source_line (codes "category") (category_text s.category)
    ++ (optional_line (codes "catalogue") s.catalogue ++ optional_line (codes "shortdesc") s.shortdesc))

-- the descriptions, depends, executes and postactions
unfoldable pub source_middle : SourceFields → List ℕ
source_middle s = value_lines (codes "longdesc") s.longdesc ++ (value_lines (codes "depend") s.depends
    ++ (value_lines (codes "execute") s.executes ++ value_lines (codes "postaction") s.postactions))

-- the variables and the patterns
unfoldable pub source_tail : SourceFields → List ℕ
source_tail s = var_lines s.vars ++ (pattern_lines (codes "runpattern") s.run ++ (pattern_lines (codes "srcpattern") s.src
    ++ (pattern_lines (codes "docpattern") s.doc ++ pattern_lines (codes "binpattern") s.bin)))

-- the text of a source: a line for each value, in the order of the keys
abbrev pub source_text : SourceFields → List ℕ
source_text s = source_head s ++ (source_middle s ++ source_tail s)
