-- Where a command halts that fetches.
use Rattle.std.specs.Prelude.{◌≡◌, ℕ, Bool, List, [], Result}
use Rattle.tl_model.specs.Causes.{Rose}
use Rattle.tl_model.specs.Devices.{ShelfSeen}
use Rattle.tl_model.specs.Seen.{Told}
use Rattle.tl_model.specs.Volume.{Name}
use Rattle.tl_refusal.specs.declared.refusal.Refusal.{Refusal}
use Rattle.tl_command.specs.Endings.{IsOfWords}
use Rattle.tl_command.specs.Runs.{Run, refused}
use Rattle.tl_fetch.specs.Fetching.{IsNoFetch}
use Rattle.tl_fetch.specs.Sinks.{SinkSeen}
use Rattle.tl_fetch.specs.declared.fetch_error.FetchError.{FetchError}
use Rattle.tl_fetch.specs.declared.fetch_error.FetchError.TheVariants as errors
use Rattle.tl_fill.specs.Filling.{over_container, over_containers}
use Rattle.tl_fill.specs.Wanted.{Wanted, files_wanted}
use Rattle.tl_fill.specs.declared.halt.Halt.{Halt}
use Rattle.tl_fill.specs.declared.halt.Halt.TheVariants.{Refused, Shelf, Sink, Memory}

-- a container whose fetch has this error is refused so, and not for words
abbrev pub RefusesBy : Wanted → FetchError → Refusal → Type 0
RefusesBy wanted error refusal =
    (IsOfWords refusal → ⊥) × ((files : Result (List (Name × List ℕ)) FetchError) (go : List (Name × List ℕ) → Run) → IsNoFetch files error → over_container wanted go files ≡ refused refusal)

-- a command halts for an error of a fetch that isn't refused
abbrev pub IsHaltOf : FetchError → Halt → Type 0
IsHaltOf error (Refused refusal) = ⊥
IsHaltOf error Shelf = error ≡ errors.ShelfFault
IsHaltOf error Sink = error ≡ errors.SinkFault
IsHaltOf error Memory = Unit {0}

-- a command halts for an error of a fetch
abbrev pub HaltsBy : Wanted → FetchError → Halt → Type 0
HaltsBy wanted error (Refused refusal) = RefusesBy wanted error refusal
HaltsBy wanted error Shelf = error ≡ errors.ShelfFault
HaltsBy wanted error Sink = error ≡ errors.SinkFault
HaltsBy wanted error Memory = Unit {0}

-- a command halts within a run over files: it is refused as the run is, where the repositories tell, or the count of a device rose
abbrev pub HaltsWithin : Bool → ((List (Name × List ℕ) → Run) → Run) → ShelfSeen → ShelfSeen → SinkSeen → SinkSeen → Halt → Type 0
HaltsWithin tells over old new sink_old sink_new (Refused refusal) = (IsOfWords refusal → ⊥) × Told tells ((go : List (Name × List ℕ) → Run) → over go ≡ refused refusal)
HaltsWithin tells over old new sink_old sink_new Shelf = Rose old.faults new.faults
HaltsWithin tells over old new sink_old sink_new Sink = Rose sink_old.faults sink_new.faults
HaltsWithin tells over old new sink_old sink_new Memory = Unit {0}

-- a command halts at a container
abbrev pub HaltsAt : Bool → Wanted → ShelfSeen → ShelfSeen → SinkSeen → SinkSeen → Halt → Type 0
HaltsAt tells wanted old new sink_old sink_new halt =
    HaltsWithin tells (λ go. over_container wanted go (files_wanted old.repositories wanted)) old new sink_old sink_new halt

-- a command halts at one of some containers
abbrev pub HaltsAmong : Bool → List Wanted → ShelfSeen → ShelfSeen → SinkSeen → SinkSeen → Halt → Type 0
HaltsAmong tells all old new sink_old sink_new halt =
    HaltsWithin tells (λ go. over_containers old.repositories all go []) old new sink_old sink_new halt
