-- What a line of a session asks for.
use Rattle.std.specs.Prelude.{◌≡◌, ℕ, ◌||◌, Bool, true, false, codes, bytes_eq, List, [], ◌∷◌, map, Some, None}
use Rattle.tl_model.specs.Words.{quoted_words, IsQuoted, IsLoneQuote}
use Rattle.tl_text.specs.declared.words.QuoteError.{QuoteError}
use Rattle.tl_text.specs.declared.words.QuoteError.TheVariants as quoting
use Rattle.tl_action.specs.declared.action_name.ActionName.{ActionName}
use Rattle.tl_action.specs.Actions.{IsOn}
use Rattle.tl_words.specs.declared.error.WordsError.{WordsError}
use Rattle.tl_words.specs.declared.error.WordsError.TheVariants as wording
use Rattle.tl_words.specs.Lines.{unquoted}
use Rattle.tl_words.specs.Commands.{IsCommandOf}
use Rattle.tl_words.specs.Faults.{session_fault, session_parts}
use Rattle.tl_shell.specs.declared.error.SessionError.{SessionError}
use Rattle.tl_shell.specs.declared.error.SessionError.TheVariants.{BadQuote, BadWords, NoMemory}
use Rattle.tl_shell.specs.declared.line.ShellLine.{ShellLine}
use Rattle.tl_shell.specs.declared.line.ShellLine.TheVariants.{Run, Nothing, Leave}

-- the words of a line, without their double quotes
abbrev pub line_words : List ℕ → List (List ℕ)
line_words line = map unquoted (quoted_words line)

-- whether words ask to leave a session: their only one is such a word
abbrev pub is_leaving : List (List ℕ) → Bool
is_leaving (word ∷ []) = bytes_eq word (codes "quit") || (bytes_eq word (codes "end") || (bytes_eq word (codes "bye") || bytes_eq word (codes "byebye")))
is_leaving _ = false

-- words that are there and don't ask to leave
pub record AreOfCommand (words : List (List ℕ)) : Type 0 where
  pub some : words ≡ [] → ⊥
  pub stays : is_leaving words ≡ false

-- what words ask for, where some actions are on
abbrev pub Asks : List ActionName → List (List ℕ) → ShellLine → Type 0
Asks on words (Run command) = AreOfCommand words × (session_fault on words ≡ None) × (command.root ≡ [])
    × IsCommandOf on (session_parts words) command × IsOn on command.action
Asks on words Nothing = words ≡ []
Asks on words Leave = is_leaving words ≡ true

-- why a line asks for nothing that is known: a double quote without a partner; else the first fault of its words. Want of memory has no cause
abbrev pub IsUnread : List ActionName → List ℕ → SessionError → Type 0
IsUnread on line (BadQuote at) = IsLoneQuote line at
IsUnread on line (BadWords at kind) = IsQuoted line × AreOfCommand (line_words line)
    × (session_fault on (line_words line) ≡ Some (record { at = at; kind = kind }))
IsUnread on line NoMemory = Unit {0}

-- what is said of a line that isn't split
abbrev pub of_quote : QuoteError → SessionError
of_quote (quoting.BadQuote at) = BadQuote at
of_quote quoting.NoMemory = NoMemory

-- what is said of words that are no command
abbrev pub of_words : WordsError → SessionError
of_words (wording.BadWords at kind) = BadWords at kind
of_words wording.NoMemory = NoMemory
