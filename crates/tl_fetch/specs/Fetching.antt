-- What is fetched of a repository: the files of a container, or why it isn't taken.
use Rattle.std.specs.Prelude.{◌≡◌, ◌<◌, ◌^◌, ℕ, ◌==◌, ◌&&◌, not, nat_lt, Bool, true, false, if◌then◌else◌, codes, List, [], ◌∷◌, ◌++◌, length, map, Option, Some, None, Result, Ok, Err}
use Rattle.std.specs.List.{flat_map}
use Rattle.std.specs.Str.{bytes_eq}
use Rattle.sha2.specs.Sha512.{sha512}
use Rattle.sha2.specs.Hashers.{Holds512}
use Rattle.tl_model.specs.Seen.{Told}
use Rattle.tl_model.specs.Volume.{Name}
use Rattle.tl_kind.specs.Quantities.{limit_of}
use Rattle.tl_kind.specs.declared.quantity.What.TheVariants.{Frame}
use Rattle.tl_file.specs.declared.file.FileBytes.{FileBytes}
use Rattle.tl_frame.specs.Events.{event_tokens, with_tokens}
use Rattle.tl_frame.specs.declared.event.FrameEvent.{FrameEvent}
use Rattle.tl_frame.specs.Scan.{frame_fault, tokens_of}
use Rattle.tl_frame.specs.States.{IsFed, ReaderState, is_spent}
use Rattle.tl_entry.specs.Copies.{less_containers}
use Rattle.tl_entry.specs.declared.object.Object.{Object}
use Rattle.tl_fetch.specs.Containers.{box_of, container_format, container_name, part_paths}
use Rattle.tl_fetch.specs.Sinks.{SinkSeen}
use Rattle.tl_fetch.specs.Unpacked.{Follows, awaiting, less_paths, reads_as, unpacked}
use Rattle.tl_fetch.specs.declared.container.ContainerPart.{ContainerPart}
use Rattle.tl_fetch.specs.declared.fetching.Stated.{Stated}
use Rattle.tl_fetch.specs.declared.intake.Intake.{Intake}
use Rattle.tl_fetch.specs.declared.fetch_error.FetchError.{FetchError}
use Rattle.tl_fetch.specs.declared.fetch_error.FetchError.TheVariants.{ContainerFormat, Relocated, NoContainer, TooLarge, Absent, SizeDiffers, DigestDiffers, BadFrame, FrameEntry, ShelfFault, SinkFault, NoMemory}

-- what comes behind a value, or the error that came before it
abbrev pub following : {X Y : Type 0} → Result X FetchError → (X → Result Y FetchError) → Result Y FetchError
following (Ok x) next = next x
following (Err error) next = Err error

-- a size and a digest that are stated, where both are
abbrev pub stated_both : Name → Option ℕ → Option (List ℕ) → Result Stated FetchError
stated_both name (Some size) (Some digest) =
    if nat_lt (limit_of Frame) size then Err (TooLarge Frame (limit_of Frame)) else Ok (record { size = size; digest = digest })
stated_both name (Some size) None = Err (NoContainer name)
stated_both name None digest = Err (NoContainer name)

-- what an entry of a repository states of the container of a part; or why it can't be fetched
abbrev pub stated_of : List Object → Object → ContainerPart → Result Stated FetchError
stated_of db entry part =
    if not (bytes_eq (container_format db) (codes "frame")) then Err (ContainerFormat (container_format db))
    else if entry.relocated then Err (Relocated entry.name)
    else stated_both entry.name (box_of entry part).size (box_of entry part).digest

-- the bytes that a container holds, if it is there
abbrev pub there : Name → Option (List ℕ) → Result (List ℕ) FetchError
there name (Some bytes) = Ok bytes
there name None = Err (Absent name)

-- bytes of the stated size
abbrev pub of_size : Name → ℕ → List ℕ → Result (List ℕ) FetchError
of_size name size bytes = if length bytes == size then Ok bytes else Err (SizeDiffers name size (length bytes))

-- bytes with the stated digest
abbrev pub digested : Name → List ℕ → List ℕ → Result (List ℕ) FetchError
digested name digest bytes = if bytes_eq (sha512 bytes) digest then Ok bytes else Err (DigestDiffers name digest (sha512 bytes))

-- the entry's text and the files of bytes, by the first field of a frame that is cut or wrong in them
abbrev pub unframed_by : Option ℕ → List ℕ → Result (List ℕ × List FileBytes) FetchError
unframed_by None bytes = Ok (with_tokens ([], []) (tokens_of bytes))
unframed_by (Some place) bytes = Err (BadFrame place)

-- whether two lists have the same texts
abbrev pub are_same : List (List ℕ) → List (List ℕ) → Bool
are_same [] [] = true
are_same [] (y ∷ ys) = false
are_same (x ∷ xs) [] = false
are_same (x ∷ xs) (y ∷ ys) = bytes_eq x y && are_same xs ys

-- a file's path and bytes
abbrev pub path_and_bytes : FileBytes → Name × List ℕ
path_and_bytes file = (file.path, file.bytes)

-- the files of a frame, where its entry reads as the package's without its containers, and its paths are those of the part
abbrev pub files_of_part : Object → ContainerPart → (List ℕ × List FileBytes) → Result (List (Name × List ℕ)) FetchError
files_of_part entry part frame =
    if reads_as frame.0 (less_containers entry) && are_same (map (λ (file : FileBytes). file.path) frame.1) (part_paths entry part)
    then Ok (map path_and_bytes frame.1) else Err (FrameEntry entry.name)

-- the files of bytes with the stated digest
abbrev pub files_under : Name → List ℕ → Object → ContainerPart → List ℕ → Result (List (Name × List ℕ)) FetchError
files_under name digest entry part bytes =
    following (digested name digest bytes) (λ bytes. following (unframed_by (frame_fault bytes) bytes) (files_of_part entry part))

-- the files of a container that holds this, or holds nothing, where so much is stated
abbrev pub files_stated : Name → Stated → Object → ContainerPart → Option (List ℕ) → Result (List (Name × List ℕ)) FetchError
files_stated name stated entry part held =
    following (there name held) (λ bytes. following (of_size name stated.size bytes) (files_under name stated.digest entry part))

-- the files of the container of a part of a package, which holds this or isn't there; or the first reason not to take it
abbrev pub container_files : List Object → Object → ContainerPart → Option (List ℕ) → Result (List (Name × List ℕ)) FetchError
container_files db entry part held =
    following (stated_of db entry part) (λ stated. files_stated (container_name db entry part) stated entry part held)

-- files went to a sink, and nothing else
pub record HasTaken (tells : Bool) (first now : SinkSeen) (files : List (Name × List ℕ)) : Type 0 where
  pub lacks : now.lacks ≡ 0
  pub takes : now.takes ≡ less_paths first.takes files
  pub given : Told tells (now.given ≡ first.given ++ files)

-- an error is the one that is wanted; a fault of a device and want of memory say nothing of what is fetched
abbrev pub IsNoFetch : {X : Type 0} → Result X FetchError → FetchError → Type 0
IsNoFetch wanted ShelfFault = Unit {0}
IsNoFetch wanted SinkFault = Unit {0}
IsNoFetch wanted NoMemory = Unit {0}
IsNoFetch wanted error = wanted ≡ Err error

-- a call gave these files to a sink, or answers why there are none
abbrev pub Gave : Bool → SinkSeen → SinkSeen → Result (List (Name × List ℕ)) FetchError → Result Unit FetchError → Type 0
Gave tells first now wanted (Ok _) = (files : List (Name × List ℕ)) × (wanted ≡ Ok files) × HasTaken tells first now files
Gave tells first now wanted (Err error) = IsNoFetch wanted error

-- a container was read that held this, or wasn't there: where the shelf tells, it is what this one holds
pub record Fetched (tells sink_tells : Bool) (held : Option (List ℕ)) (db : List Object) (entry : Object) (part : ContainerPart) (first now : SinkSeen) (result : Result Unit FetchError) : Type 0 where
  pub seen : Option (List ℕ)
  pub same : Told tells (seen ≡ held)
  pub gave : Gave sink_tells first now (container_files db entry part seen) result

-- an error is a fault of the sink or want of memory
abbrev pub IsOfSink : FetchError → Type 0
IsOfSink SinkFault = Unit {0}
IsOfSink NoMemory = Unit {0}
IsOfSink _ = ⊥

-- an error says that a container isn't there
abbrev pub IsMissing : FetchError → Type 0
IsMissing (Absent name) = Unit {0}
IsMissing _ = ⊥

-- these bytes were taken in, and what they tell went to a sink
pub record TookIn (tells : Bool) (entry : Object) (paths : List Name) (first now : SinkSeen) (intake : Intake) (bytes : List ℕ) : Type 0 where
  pub holds : Holds512 intake.hasher bytes
  pub fed : IsFed intake.reader bytes
  pub live : is_spent intake.reader ≡ false
  pub follows : Follows tells entry first now intake.unpacking (unpacked entry (awaiting paths) (tokens_of bytes))

-- a piece came to a reader to which these bytes had come, and told these events
pub record IsToldMore (reader : ReaderState) (fed piece : List ℕ) (events : List FrameEvent) : Type 0 where
  pub fed_more : IsFed reader (fed ++ piece)
  pub live : is_spent reader ≡ false
  pub told : tokens_of (fed ++ piece) ≡ tokens_of fed ++ flat_map event_tokens events

-- more bytes were taken in: behind whatever bytes had come before
abbrev pub TakesIn : Bool → SinkSeen → SinkSeen → Intake → Intake → List ℕ → Type 0
TakesIn tells old new intake later more =
    (entry : Object) (paths : List Name) (first : SinkSeen) (bytes : List ℕ) → TookIn tells entry paths first old intake bytes → TookIn tells entry paths first new later (bytes ++ more)

-- a container ends whose bytes have all come: the files are those under its digest
abbrev pub EndsAs : Name → List ℕ → Object → Intake → Result Unit FetchError → Type 0
EndsAs name want entry intake result =
    (tells : Bool) (part : ContainerPart) (first now : SinkSeen) (bytes : List ℕ) → length bytes < 2 ^ 64
    → TookIn tells (less_containers entry) (part_paths entry part) first now intake bytes → Gave tells first now (files_under name want entry part bytes) result

-- these bytes were taken in for some entry and paths
pub record HasTakenIn (tells : Bool) (intake : Intake) (now : SinkSeen) (bytes : List ℕ) : Type 0 where
  pub entry : Object
  pub paths : List Name
  pub first : SinkSeen
  pub took : TookIn tells entry paths first now intake bytes

-- so many bytes were taken in: where the shelf tells, what the container holds
pub record TookAll (tells sink_tells : Bool) (held : List ℕ) (entry : Object) (paths : List Name) (first now : SinkSeen) (intake : Intake) (count : ℕ) : Type 0 where
  pub bytes : List ℕ
  pub counted : length bytes ≡ count
  pub same : Told tells (bytes ≡ held)
  pub took : TookIn sink_tells entry paths first now intake bytes

-- an error says nothing of what the devices did: it is no fault of one, and no container is missing
abbrev pub IsOfContents : FetchError → Type 0
IsOfContents (Absent name) = ⊥
IsOfContents ShelfFault = ⊥
IsOfContents SinkFault = ⊥
IsOfContents _ = Unit {0}

-- a container was taken in from its first byte on: where the shelf tells, all that it holds
abbrev pub TakesAll : Bool → Bool → List ℕ → SinkSeen → SinkSeen → Intake → Intake → ℕ → Type 0
TakesAll tells sink_tells held old new intake later count =
    (entry : Object) (paths : List Name) (first : SinkSeen) → TookIn sink_tells entry paths first old intake [] → TookAll tells sink_tells held entry paths first new later count

-- an error is that the containers have this format, or want of memory
abbrev pub IsOtherFormat : List ℕ → FetchError → Type 0
IsOtherFormat format error = IsNoFetch {X = Stated} (Err (ContainerFormat format)) error × IsOfContents error

-- an error is a fault of a device or want of memory
abbrev pub IsOfDevices : FetchError → Type 0
IsOfDevices ShelfFault = Unit {0}
IsOfDevices SinkFault = Unit {0}
IsOfDevices NoMemory = Unit {0}
IsOfDevices _ = ⊥
