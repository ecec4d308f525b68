-- What a call that asks a tree says.
use Rattle.std.specs.Prelude.{◌≡◌, ◌≤◌, Bool, Option, Some, None, Result, Ok, Err}
use Rattle.tl_model.specs.Causes.{Rose}
use Rattle.tl_model.specs.Seen.{Told, Quiet}
use Rattle.tl_model.specs.Volume.{Volume}
use Rattle.tl_journal_text.specs.Stand.{tree_of}
use Rattle.tl_tree.specs.Planted.{Planted}
use Rattle.tl_coming.specs.declared.error.ComingError.{ComingError}
use Rattle.tl_coming.specs.declared.error.ComingError.TheVariants.{HostFault, NoMemory}

-- what a tree holds
abbrev pub tree_in : Planted → Volume
tree_in tree = tree_of tree.seen.present.held

-- a tree was asked, and nothing has changed but the count of faults, which never falls
pub record IsAsked (tells : Bool) (old new : Planted) : Type 0 where
  pub quiet : Told tells (Quiet old.seen new.seen)
  pub db : new.db ≡ old.db
  pub later : old.seen.faults ≤ new.seen.faults

-- a fault of the host is answered only where its count of faults rose
abbrev pub IsCausedBy : Planted → Planted → ComingError → Type 0
IsCausedBy old new error = error ≡ HostFault → Rose old.seen.faults new.seen.faults

-- a fault of the host or want of memory: an error that has no cause in what was asked
abbrev pub IsFree : ComingError → Type 0
IsFree HostFault = Unit {0}
IsFree NoMemory = Unit {0}
IsFree error = ⊥

-- an error that was answered is the fault that is wanted; a fault of the host and want of memory have their causes elsewhere
abbrev pub IsFaultOf : Option ComingError → ComingError → Type 0
IsFaultOf wanted HostFault = Unit {0}
IsFaultOf wanted NoMemory = Unit {0}
IsFaultOf wanted error = wanted ≡ Some error

-- something, unless there is a fault
abbrev pub unless_fault : {X : Type 0} → Option ComingError → X → Result X ComingError
unless_fault None x = Ok x
unless_fault (Some fault) x = Err fault

-- an answer is the one that is given; a fault of the host and want of memory have their causes elsewhere
abbrev pub Answers : {X Y : Type 0} → (X → Y) → Result X ComingError → Result Y ComingError → Type 0
Answers view (Ok x) given = given ≡ Ok (view x)
Answers view (Err HostFault) given = Unit {0}
Answers view (Err NoMemory) given = Unit {0}
Answers view (Err error) given = given ≡ Err error
