-- The names of kinds of faults.
use Rattle.std.specs.Prelude.{ℕ, List, codes}
use Rattle.tl_words.specs.declared.error.WordKind.{WordKind}
use Rattle.tl_words.specs.declared.error.WordKind.TheVariants as words
use Rattle.tl_object.specs.declared.fault.LineKind.{LineKind}
use Rattle.tl_object.specs.declared.fault.LineKind.TheVariants as lines
use Rattle.tl_execute.specs.declared.execute.ExecuteKind.{ExecuteKind}
use Rattle.tl_execute.specs.declared.execute.ExecuteKind.TheVariants as executes

-- a kind of words that are no command, by its name
abbrev pub word_kind_name : WordKind → List ℕ
word_kind_name words.Root = codes "Root"
word_kind_name words.Option = codes "Option"
word_kind_name words.Value = codes "Value"
word_kind_name words.Number = codes "Number"
word_kind_name words.Action = codes "Action"
word_kind_name words.Name = codes "Name"
word_kind_name words.Operand = codes "Operand"
word_kind_name words.Repository = codes "Repository"

-- a kind of bad line of an entry, by its name
abbrev pub line_kind_name : LineKind → List ℕ
line_kind_name lines.Missing = codes "Missing"
line_kind_name lines.Utf8 = codes "Utf8"
line_kind_name lines.Key = codes "Key"
line_kind_name lines.Value = codes "Value"
line_kind_name lines.Repeated = codes "Repeated"
line_kind_name lines.File = codes "File"
line_kind_name lines.TooLong = codes "TooLong"

-- a kind of bad execute, by its name
abbrev pub execute_kind_name : ExecuteKind → List ℕ
execute_kind_name executes.Quote = codes "Quote"
execute_kind_name executes.Word = codes "Word"
execute_kind_name executes.Key = codes "Key"
execute_kind_name executes.Repeated = codes "Repeated"
execute_kind_name executes.Missing = codes "Missing"
execute_kind_name executes.Number = codes "Number"
execute_kind_name executes.Value = codes "Value"
