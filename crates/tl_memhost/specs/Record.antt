-- What a record of calls says, with what is held now: each entry says how to go back over its call.
use Rattle.std.specs.Prelude.{ℕ, List, [], ◌∷◌, take, drop, reverse, Option, Some, None, Vec}
use Rattle.std.specs.declared.alloc.Global.{Global}
use Rattle.std.specs.FinMap as map
use Rattle.std.specs.FinSet as set
use Rattle.tl_model.specs.Volume.{Name, Volume, Names, at}
use Rattle.tl_model.specs.Seen.{Stretch, at_rest, changing, saying}
use Rattle.tl_memhost.specs.Memory.{Standing, Step, Memory, moment_of}
use Rattle.tl_memhost.specs.declared.record.Did.{Did}
use Rattle.tl_memhost.specs.declared.record.Did.TheVariants.{Put, Grown, Failing, Settled, Said, Unsaid}
use Rattle.tl_memhost.specs.declared.record.Entry.{Entry}

-- a name that holds these bytes, or is absent
abbrev pub put : Name → Option (Vec ℕ Global) → Volume → Volume
put name None volume = map.remove volume name
put name (Some bytes) volume = map.insert volume name bytes.items

-- a file that is there is cut to its first bytes
abbrev pub cut : Name → ℕ → Option (List ℕ) → Volume → Volume
cut name length None volume = volume
cut name length (Some bytes) volume = map.insert volume name (take length bytes)

-- what was held before a call, by what is held after it
abbrev pub unheld : Did → Volume → Volume
unheld (Put name bytes) volume = put name bytes volume
unheld (Grown name length) volume = cut name length (at volume name) volume
unheld (Failing name) volume = volume
unheld Settled volume = volume
unheld (Said length) volume = volume
unheld (Unsaid bytes) volume = volume

-- what was said before a call, by what is said after it
abbrev pub unsaid : Did → List ℕ → List ℕ
unsaid (Put name bytes) said = said
unsaid (Grown name length) said = said
unsaid (Failing name) said = said
unsaid Settled said = said
unsaid (Said length) said = take length said
unsaid (Unsaid bytes) said = said

-- the names touched after a call
abbrev pub touches : Did → Names → Names
touches (Put name bytes) names = set.insert names name
touches (Grown name length) names = set.insert names name
touches (Failing name) names = set.insert names name
touches Settled names = set.empty
touches (Said length) names = names
touches (Unsaid bytes) names = names

-- what was held at the last sync that succeeded, after a call: before it one volume was held at that sync, and the
-- other one at that time
abbrev pub settles : Did → Volume → Volume → Volume
settles (Put name bytes) settled held = settled
settles (Grown name length) settled held = settled
settles (Failing name) settled held = settled
settles Settled settled held = held
settles (Said length) settled held = settled
settles (Unsaid bytes) settled held = settled

-- the newest entry comes first

-- the names touched after these calls
abbrev pub touched_of : List Entry → Names
touched_of [] = set.empty
touched_of (e ∷ es) = touches e.did (touched_of es)

-- what was held at the last sync that succeeded, by what is held after these calls
abbrev pub settled_of : List Entry → Volume → Volume
settled_of [] held = held
settled_of (e ∷ es) held = settles e.did (settled_of es (unheld e.did held)) (unheld e.did held)

-- what stands after these calls
abbrev pub standing : List Entry → Volume → List ℕ → Standing
standing es held said = record { held = held; touched = touched_of es; said = said; settled = settled_of es held }

-- what stands within a call, by what is said after it and what stood before it
abbrev pub during : Did → List ℕ → Standing → Stretch
during (Put name bytes) said s = changing name (moment_of s)
during (Grown name length) said s = changing name (moment_of s)
during (Failing name) said s = changing name (moment_of s)
during Settled said s = at_rest (moment_of s)
during (Said length) said s = saying (drop length said) (moment_of s)
during (Unsaid bytes) said s = saying bytes.items (moment_of s)

-- one call of the record, by what is said after it and what stood before it
abbrev pub step_of : Entry → List ℕ → Standing → Step
step_of e said s = record { call = e.call; rest = e.rest; before = s; during = during e.did said s }

-- these calls of the record, by what is held and said after them
abbrev pub steps_of : List Entry → Volume → List ℕ → List Step
steps_of [] held said = []
steps_of (e ∷ es) held said = step_of e said (standing es (unheld e.did held) (unsaid e.did said)) ∷ steps_of es (unheld e.did held) (unsaid e.did said)

-- a host by its record, the oldest entry first, what is held and said, and its counts
abbrev pub memory : List Entry → Volume → List ℕ → ℕ → ℕ → ℕ → List ℕ → ℕ → ℕ → Memory
memory entries held said rest calls short failing syncs faults = record {
  steps = steps_of (reverse entries) held said;
  rest = rest;
  present = standing (reverse entries) held said;
  calls = calls;
  short = short;
  failing = failing;
  syncs = syncs;
  faults = faults;
}
