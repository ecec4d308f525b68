-- What a walk over the names of a tree finds.
use Rattle.std.specs.Prelude.{◌≡◌, ◌≤◌, ◌<◌, Bool, List, [], Option, Some, filter, length}
use Rattle.std.specs.FinMap.{keys}
use Rattle.tl_model.specs.Causes.{Rose}
use Rattle.tl_model.specs.Seen.{Told}
use Rattle.tl_model.specs.Volume.{Name, Volume}
use Rattle.tl_kind.specs.Quantities.{limit_of}
use Rattle.tl_kind.specs.declared.quantity.What.TheVariants.{Files}
use Rattle.tl_journal_text.specs.Stand.{stand}
use Rattle.tl_tree.specs.Planted.{Planted}
use Rattle.tl_command.specs.Performs.{Advances}
use Rattle.tl_publish.specs.Listable.{AreInside, is_inside, occupant}
use Rattle.tl_publish.specs.declared.error.WalkError.{WalkError}
use Rattle.tl_publish.specs.declared.error.WalkError.TheVariants.{HostFault}

-- of some names, those below the folder but the list itself, and the first one below the list
pub record Gathering : Type 0 where
  pub inside : List Name
  pub occupant : Option Name

-- what is gathered of some names
abbrev pub gathering_of : List Name → Gathering
gathering_of names = record { inside = filter is_inside names; occupant = occupant names }

-- the names of a tree were gathered, of which there are no more than the limit
abbrev pub IsGathered : Volume → Gathering → Type 0
IsGathered tree gathering = (length (keys tree) ≤ limit_of Files) × (gathering ≡ gathering_of (keys tree))

-- a tree has more names than the limit
abbrev pub HasManyNames : Volume → Type 0
HasManyNames tree = limit_of Files < length (keys tree)

-- a fault of the host is answered only where its count of faults rose
abbrev pub IsWalkCause : Planted → Planted → WalkError → Type 0
IsWalkCause old new error = error ≡ HostFault → Rose old.seen.faults new.seen.faults

-- the names of a tree were gathered: nothing else was done, and the entries stay; the names inside are such as can be listed
pub record Gathers (tells : Bool) (old new : Planted) (gathering : Gathering) : Type 0 where
  pub quiet : Advances tells (λ _. []) old.seen new.seen
  pub db : new.db ≡ old.db
  pub names : Told tells ((tree : Volume) → stand old.seen.present.held ≡ Some tree → IsGathered tree gathering)
  pub inside : AreInside gathering.inside
