-- The run of a command: what it says, the steps that it makes, and how it ends.
use Rattle.std.specs.Prelude.{ℕ, nat_lt, if◌then◌else◌, List, [], ◌∷◌, ◌++◌, length, Option, Some, None, Result, Ok, Err}
use Rattle.tl_model.specs.Volume.{Name, Volume, at}
use Rattle.tl_model.specs.Acks.{IsLabel}
use Rattle.tl_model.specs.Trace.{Event, Text, Step}
use Rattle.tl_kind.specs.Quantities.{limit_of}
use Rattle.tl_kind.specs.declared.quantity.What.{What}
use Rattle.tl_kind.specs.declared.quantity.What.TheVariants.{Database, Packages}
use Rattle.tl_entry.specs.declared.object.Object.{Object}
use Rattle.tl_object.specs.declared.fault.LineKind.{LineKind}
use Rattle.tl_db.specs.Reading.{db_of}
use Rattle.tl_db.specs.Text.{db_text}
use Rattle.tl_tree.specs.Changes.{entries_after, has_entries, changed}
use Rattle.tl_tree.specs.declared.change.Part.{Part}
use Rattle.tl_refusal.specs.declared.refusal.Refusal.{Refusal}
use Rattle.tl_refusal.specs.declared.refusal.Refusal.TheVariants.{BadDatabase, TooLarge}
use Rattle.tl_refusal.specs.Refusals.{refusal_line}
use Rattle.tl_command.specs.declared.ending.Ending.{Ending}
use Rattle.tl_command.specs.declared.ending.Ending.TheVariants.{Done, Refused}

-- a run: its events in order, and its ending
pub record Run : Type 0 where
  pub events : List Event
  pub ending : Ending

-- the run that has nothing left to do
abbrev pub finished : Run
finished = record { events = []; ending = Done }

-- some events, and then a run
abbrev pub followed : List Event → Run → Run
followed events run = record { events = events ++ run.events; ending = run.ending }

-- the run that says a text, and is carried out
abbrev pub saying : List ℕ → Run
saying bytes = followed (Text bytes ∷ []) finished

-- the run that says a refusal and nothing else
abbrev pub refused : Refusal → Run
refused refusal = record { events = Text (refusal_line refusal) ∷ []; ending = Refused refusal }

-- a run of which a quantity is so large: refused where it passes its limit
abbrev pub limited : What → ℕ → Run → Run
limited what count run = if nat_lt (limit_of what) count then refused (TooLarge what (limit_of what)) else run

-- a run over the bytes that a file may have: refused where they are more than the quantity may have
abbrev pub over_bytes : What → (Option (List ℕ) → Run) → Option (List ℕ) → Run
over_bytes what go None = go None
over_bytes what go (Some bytes) = limited what (length bytes) (go (Some bytes))

-- a run over what a file of a tree holds
abbrev pub over_file : What → Name → (Option (List ℕ) → Run) → Volume → Run
over_file what path go tree = over_bytes what go (at tree path)

-- a run over what a database reads as, where it has no more entries than the limit
abbrev pub over_entries : (List Object → Run) → Result (List Object) (ℕ × LineKind) → Run
over_entries go (Ok entries) = limited Packages (length entries) (go entries)
over_entries go (Err fault) = refused (BadDatabase fault.0 fault.1)

-- a run over the text of a database: refused where the text passes its limit, doesn't read, or has too many entries
abbrev pub over_database : (List Object → Run) → List ℕ → Run
over_database go text = limited Database (length text) (over_entries go (db_of text))

-- a run that leaves a database with these entries: refused where they pass a limit, the entries first, then the text
abbrev pub leaving_entries : List Object → Run → Run
leaving_entries entries run = limited Packages (length entries) (limited Database (length (db_text entries)) run)

-- a run that begins with a change of a tree with these entries: where it speaks of an entry, the limits of the database come first
abbrev pub changing_entries : List Object → List Part → Run → Run
changing_entries db parts run = if has_entries parts then leaving_entries (entries_after parts db) run else run

-- the run that makes a step of a tree with these entries, and then goes on
abbrev pub stepping : List Object → List Part → List ℕ → Run → Volume → Run
stepping db parts label rest tree = changing_entries db parts (followed (Step (changed db parts tree) label ∷ []) rest)

-- the line of each step is one acknowledged line
abbrev pub AreLabelled : List Event → Type 0
AreLabelled [] = Unit {0}
AreLabelled (Text bytes ∷ events) = AreLabelled events
AreLabelled (Step next label ∷ events) = IsLabel label × AreLabelled events
