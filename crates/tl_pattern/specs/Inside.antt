-- How a pattern is kept.
use Rattle.std.specs.Prelude.{◌≡◌, ℕ, List}
use Rattle.tl_path.specs.Components.{components}
use Rattle.tl_pattern.specs.declared.kind.PatternKind.{PatternKind}
use Rattle.tl_pattern.specs.declared.kind.PatternKind.TheVariants.{F, D, T, R}
use Rattle.tl_pattern.specs.declared.form.Form.{Form}
use Rattle.tl_pattern.specs.declared.form.Form.TheVariants.{File, Folder, Tree, Expression}
use Rattle.tl_pattern.specs.Form.{HasForm, folder_of, words_of, name_of, last_of}

-- the kind of what is kept
abbrev pub kind_of : Form → PatternKind
kind_of (File path glob) = F
kind_of (Folder path) = D
kind_of (Tree words name) = T
kind_of (Expression regexp) = R

-- what is kept is made of the text
abbrev pub IsMadeOf : List ℕ → Form → Type 0
IsMadeOf text (File path glob) = (path ≡ text) × (glob ≡ last_of (components text)) × HasForm F text
IsMadeOf text (Folder path) = (path ≡ folder_of text) × HasForm D text
IsMadeOf text (Tree words name) = (words.items ≡ words_of text) × (name ≡ name_of text) × HasForm T text
IsMadeOf text (Expression regexp) = (regexp ≡ text) × HasForm R text
