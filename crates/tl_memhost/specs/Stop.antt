-- What a stop leaves of a host in memory.
use Rattle.std.specs.Prelude.{◌≡◌, ℕ, ◌<◌, Bool, true, false, if◌then◌else◌, List, Option, Some, None}
use Rattle.std.specs.FinSet as set
use Rattle.tl_model.specs.Volume.{Name, Volume, SameBut, at}
use Rattle.tl_memhost.specs.Memory.{Standing, Memory}
use Rattle.tl_memhost.specs.declared.record.Did.{Did}
use Rattle.tl_memhost.specs.declared.record.Did.TheVariants.{Put, Grown, Failing, Settled, Said, Unsaid}
use Rattle.tl_memhost.specs.declared.stop.Choice.{Choice}
use Rattle.tl_memhost.specs.declared.stop.Choice.TheVariants.{Kept, Gone, Synced, Fill}
use Rattle.tl_memhost.specs.declared.stop.StopError.{StopError}
use Rattle.tl_memhost.specs.declared.stop.StopError.TheVariants.{NoSuchCall, NoMemory}

-- what a touched name holds: what a read gave, nothing, what it held at the last sync that succeeded, or these bytes
abbrev pub filled : Choice → Standing → Name → Option (List ℕ)
filled Kept s name = at s.held name
filled Gone s name = None
filled Synced s name = at s.settled name
filled (Fill bytes) s name = Some bytes

-- what a name holds after the stop: a name that isn't touched holds what a read gave
abbrev pub left : Choice → Standing → Name → Option (List ℕ)
left choice s name = if set.contains s.touched name then filled choice s name else at s.held name

-- why there is no stop
abbrev pub IsStopRefusal : Memory → ℕ → StopError → Type 0
IsStopRefusal m call NoSuchCall = m.calls < call
IsStopRefusal m call NoMemory = Unit {0}

-- the name that a call touched
abbrev pub named : Did → Option Name
named (Put name bytes) = Some name
named (Grown name length) = Some name
named (Failing name) = Some name
named Settled = None
named (Said length) = None
named (Unsaid bytes) = None

-- a sync that succeeded
abbrev pub is_sync : Did → Bool
is_sync (Put name bytes) = false
is_sync (Grown name length) = false
is_sync (Failing name) = false
is_sync Settled = true
is_sync (Said length) = false
is_sync (Unsaid bytes) = false

-- this name, if any, holds these bytes, or nothing, and each other name what it held
abbrev pub Gives : Option Name → Option (List ℕ) → Volume → Volume → Type 0
Gives None bytes old new = new ≡ old
Gives (Some name) bytes old new = (at new name ≡ bytes) × SameBut name old new
