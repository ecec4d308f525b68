-- Why a repository doesn't read.
use Rattle.std.specs.Prelude.{◌≡◌, ℕ, List, Option, Some, None, IfSome, Result, Ok, Err}
use Rattle.tl_model.specs.Volume.{Name}
use Rattle.tl_kind.specs.declared.quantity.What.{What}
use Rattle.tl_object.specs.declared.fault.LineKind.{LineKind}
use Rattle.tl_repo.specs.declared.error.RepoError.{RepoError}
use Rattle.tl_repo.specs.declared.error.RepoError.TheVariants as errors

-- why a repository doesn't read
pub data RepoFault : Type 0 where
  Absent : Name → RepoFault
  BadDigestLine : RepoFault
  RepoDigest : List ℕ → List ℕ → RepoFault
  RepoDatabase : ℕ → LineKind → RepoFault
  TooLarge : What → ℕ → RepoFault

-- the fault that an error names; None for a fault of the device and for want of memory
abbrev pub fault_of : RepoError → Option RepoFault
fault_of (errors.Absent name) = Some (Absent name)
fault_of errors.BadDigestLine = Some BadDigestLine
fault_of (errors.RepoDigest want got) = Some (RepoDigest want got)
fault_of (errors.RepoDatabase line kind) = Some (RepoDatabase line kind)
fault_of (errors.TooLarge what limit) = Some (TooLarge what limit)
fault_of errors.ShelfFault = None
fault_of errors.NoMemory = None

-- an error says that a file is absent
abbrev pub IsAbsent : RepoError → Type 0
IsAbsent (errors.Absent name) = Unit {0}
IsAbsent other = ⊥

-- an error says nothing of what the device did: it is no fault of it, and no file is absent
abbrev pub IsOfBytes : RepoError → Type 0
IsOfBytes (errors.Absent name) = ⊥
IsOfBytes errors.ShelfFault = ⊥
IsOfBytes other = Unit {0}

-- a call gives this value, seen so, or this fault; it may fail for another cause
abbrev pub Gives : {X Y : Type 0} → (X → Y) → Result X RepoError → Result Y RepoFault → Type 0
Gives view (Ok x) given = given ≡ Ok (view x)
Gives view (Err error) given = IfSome (fault_of error) (λ fault. given ≡ Err fault)

-- what comes behind a value, or the fault that came before it
abbrev pub behind : {X Y : Type 0} → Result X RepoFault → (X → Result Y RepoFault) → Result Y RepoFault
behind (Ok x) next = next x
behind (Err fault) next = Err fault
