-- What a call that reads a master says.
use Rattle.std.specs.Prelude.{◌≡◌, ℕ, Bool, Result, Ok, Err, IfErr}
use Rattle.tl_model.specs.Causes.{Rose}
use Rattle.tl_model.specs.Devices.{Verdicts, RegexpsSeen}
use Rattle.tl_model.specs.Seen.{Told}
use Rattle.tl_model.specs.Volume.{Volume}
use Rattle.tl_kind.specs.declared.kinds.RegexpKind.{RegexpKind}
use Rattle.tl_kind.specs.declared.kinds.RegexpKind.TheVariants.{Syntax, Size}
use Rattle.tl_tree.specs.Planted.{Planted}
use Rattle.tl_auto.specs.Pushing.{KeepsVerdicts, KeepsRegexps}
use Rattle.tl_backup.specs.Asked.{IsAsked, tree_in}
use Rattle.tl_master.specs.declared.error.MasterError.{MasterError}
use Rattle.tl_master.specs.declared.error.MasterError.TheVariants.{Regexp, HostFault, NoMemory}

-- an answer is the one that was to be given; a fault of the host and want of memory have their causes elsewhere
abbrev pub Answers : {V T : Type 0} → (T → V) → Result T MasterError → Result V MasterError → Type 0
Answers view (Ok found) wanted = wanted ≡ Ok (view found)
Answers view (Err HostFault) wanted = Unit {0}
Answers view (Err NoMemory) wanted = Unit {0}
Answers view (Err fault) wanted = wanted ≡ Err fault

-- a regular expression is refused for its size only where so many refusals rose to so many
abbrev pub IsKindCause : ℕ → ℕ → RegexpKind → Type 0
IsKindCause before now Syntax = Unit {0}
IsKindCause before now Size = Rose before now

-- a refusal for size comes only where the count of these rose
abbrev pub IsSizeCause : ℕ → ℕ → MasterError → Type 0
IsSizeCause before now (Regexp name line kind) = IsKindCause before now kind
IsSizeCause before now fault = Unit {0}

-- a fault of the host is answered only where its count of faults rose
abbrev pub IsHostCause : Planted → Planted → MasterError → Type 0
IsHostCause old new fault = fault ≡ HostFault → Rose old.seen.faults new.seen.faults

-- a fault of the host or want of memory: an answer that has no cause in what was read
abbrev pub IsFree : MasterError → Type 0
IsFree HostFault = Unit {0}
IsFree NoMemory = Unit {0}
IsFree fault = ⊥

-- an answer that no device gave
abbrev pub IsOwn : MasterError → Type 0
IsOwn HostFault = ⊥
IsOwn (Regexp name line kind) = ⊥
IsOwn fault = Unit {0}

-- a regular expression was refused
abbrev pub IsOfRegexp : MasterError → Type 0
IsOfRegexp (Regexp name line kind) = Unit {0}
IsOfRegexp fault = ⊥

-- what a call answers that reads a tree: where the host tells, what was to be given of it. It changes nothing, and refuses no regular
-- expression
pub record Asks {V T : Type 0} (tells : Bool) (view : T → V) (wanted : Volume → Result V MasterError) (old new : Planted) (answer : Result T MasterError) : Type 0 where
  pub answered : Told tells (Answers view answer (wanted (tree_in old)))
  pub asked : IsAsked tells old new
  pub cause : IfErr answer (IsHostCause old new)
  pub others : IfErr answer (λ fault. IsOfRegexp fault → ⊥)

-- what a call answers that reads a tree and finds verdicts on the way: where the host tells, what was to be given by the verdicts that stand
-- after the call, and by any that keep these. It changes nothing else
pub record Finds {V T : Type 0} (tells : Bool) (view : T → V) (wanted : Verdicts → Volume → Result V MasterError) (old new : Planted)
    (before after : RegexpsSeen) (answer : Result T MasterError) : Type 0 where
  pub answered : Told tells ((later : Verdicts) → KeepsVerdicts after.verdicts later → Answers view answer (wanted later (tree_in old)))
  pub asked : IsAsked tells old new
  pub cause : IfErr answer (IsHostCause old new)
  pub regexps : KeepsRegexps before after
  pub size : IfErr answer (IsSizeCause before.refusals after.refusals)

-- what a call answers that finds verdicts on the way and asks no tree
pub record Judges {V T : Type 0} (view : T → V) (wanted : Verdicts → Result V MasterError) (before after : RegexpsSeen) (answer : Result T MasterError) : Type 0 where
  pub answered : (later : Verdicts) → KeepsVerdicts after.verdicts later → Answers view answer (wanted later)
  pub own : IfErr answer (λ fault. fault ≡ HostFault → ⊥)
  pub regexps : KeepsRegexps before after
  pub size : IfErr answer (IsSizeCause before.refusals after.refusals)
