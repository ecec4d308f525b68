-- What the answers of a tree's calls say.
use Rattle.std.specs.Prelude.{◌≡◌, ◌≤◌, ◌<◌, ℕ, true, List, [], ◌∷◌, length, Err}
use Rattle.tl_model.specs.Seen.{Seen}
use Rattle.tl_model.specs.Trace.{Event, Step, Trace, Cut}
use Rattle.tl_entry.specs.declared.object.Object.{Object}
use Rattle.tl_db.specs.Reading.{db_of, HasTooMany}
use Rattle.tl_db.specs.Text.{db_text}
use Rattle.tl_kind.specs.declared.quantity.What.TheVariants as quantities
use Rattle.tl_kind.specs.declared.quantity.What.{What}
use Rattle.tl_journal_text.specs.Stand.{stand, tree_of}
use Rattle.tl_tree.specs.Planted.{Planted}
use Rattle.tl_tree.specs.Changes.{entries_after, has_entries, changed}
use Rattle.tl_tree.specs.Packages.{ReplacesWhole}
use Rattle.tl_tree.specs.declared.change.Part.{Part}
use Rattle.tl_tree.specs.declared.error.TreeError.{TreeError}
use Rattle.tl_tree.specs.declared.error.TreeError.TheVariants as loading
use Rattle.tl_tree.specs.declared.error.StepError.{StepError}
use Rattle.tl_tree.specs.declared.error.StepError.TheVariants as stepping

-- the cause of each refusal of a tree whose database has this text; a fault and want of memory have theirs elsewhere
abbrev pub IsTreeError : List ℕ → TreeError → Type 0
IsTreeError text (loading.BadDatabase line kind) = (length text ≤ 268435456) × (db_of text ≡ Err (line, kind))
IsTreeError text (loading.TooLarge quantities.Database limit) = (268435456 < length text) × (limit ≡ 268435456)
IsTreeError text (loading.TooLarge quantities.Packages limit) = (length text ≤ 268435456) × HasTooMany text × (limit ≡ 65536)
IsTreeError text (loading.TooLarge other limit) = ⊥
IsTreeError text loading.HostFault = Unit {0}
IsTreeError text loading.NoMemory = Unit {0}

-- the entries of a database are within its limits, and so is its text
abbrev pub IsWithin : List Object → Type 0
IsWithin db = (length db ≤ 65536) × (length (db_text db) ≤ 268435456)

-- a quantity of a database passes its limit: its entries first, then its text
abbrev pub IsTooLarge : List Object → What → ℕ → Type 0
IsTooLarge db quantities.Packages limit = (65536 < length db) × (limit ≡ 65536)
IsTooLarge db quantities.Database limit = (length db ≤ 65536) × (268435456 < length (db_text db)) × (limit ≡ 268435456)
IsTooLarge db other limit = ⊥

-- the step of a tree by a change with its label
abbrev pub step_of : Planted → List Part → List ℕ → Event
step_of tree parts label = Step (changed tree.db parts (tree_of tree.seen.present.held)) label

-- a step was made: the tree is the changed one, what was seen is the run of this step, and packages were replaced whole
pub record IsStepped (old : Planted) (parts : List Part) (label : List ℕ) (new : Planted) : Type 0 where
  pub tree : tree_of new.seen.present.held ≡ changed old.db parts (tree_of old.seen.present.held)
  pub trace : Trace stand old.seen new.seen (tree_of old.seen.present.held) (step_of old parts label ∷ [])
  pub packages : ReplacesWhole old.db parts (tree_of old.seen.present.held) new.db (tree_of new.seen.present.held)

-- what was seen of a tree's host up to a step that was cut off by a fault, or that wasn't made for another cause and synced nothing
abbrev pub IsLostStep : Planted → List Part → List ℕ → StepError → Seen → Type 0
IsLostStep tree parts label stepping.HostFault last =
    Cut stand tree.seen last (tree_of tree.seen.present.held) (step_of tree parts label ∷ [])
IsLostStep tree parts label stepping.NoMemory last =
    Trace stand tree.seen last (tree_of tree.seen.present.held) [] × (last.syncs ≡ tree.seen.syncs)
IsLostStep tree parts label (stepping.TooLarge what limit) last =
    Trace stand tree.seen last (tree_of tree.seen.present.held) [] × (last.syncs ≡ tree.seen.syncs)

-- where a change speaks of an entry, the database that it leaves is within its limits
abbrev pub IsAllowed : Planted → List Part → Type 0
IsAllowed tree parts = has_entries parts ≡ true → IsWithin (entries_after parts tree.db)

-- the cause of a step that isn't made: it speaks of an entry and passes a limit of the database that it would leave; one that was cut
-- off by a fault is within the limits
abbrev pub IsStepError : Planted → List Part → StepError → Type 0
IsStepError tree parts stepping.HostFault = IsAllowed tree parts
IsStepError tree parts stepping.NoMemory = Unit {0}
IsStepError tree parts (stepping.TooLarge what limit) = (has_entries parts ≡ true) × IsTooLarge (entries_after parts tree.db) what limit

-- the cause of files that aren't made from a database of these entries
abbrev pub IsMadeError : List Object → StepError → Type 0
IsMadeError db stepping.HostFault = ⊥
IsMadeError db stepping.NoMemory = Unit {0}
IsMadeError db (stepping.TooLarge what limit) = IsTooLarge db what limit

-- the cause of a step that isn't planned
abbrev pub IsPlanError : List Object → List Part → StepError → Type 0
IsPlanError db parts stepping.HostFault = ⊥
IsPlanError db parts stepping.NoMemory = Unit {0}
IsPlanError db parts (stepping.TooLarge what limit) = (has_entries parts ≡ true) × IsTooLarge (entries_after parts db) what limit

-- a step that isn't staged lacks memory, or the host failed
abbrev pub IsStageError : StepError → Type 0
IsStageError stepping.HostFault = Unit {0}
IsStageError stepping.NoMemory = Unit {0}
IsStageError (stepping.TooLarge what limit) = ⊥
