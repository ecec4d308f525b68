-- A container that is being taken in, piece by piece.
use Rattle.std.proofs.Common.{◌≡◌, ◌≢◌, ◌<◌, ◌≤◌, ◌+◌, ◌^◌, ℕ, Bool, true, false, cond, List, [], ◌∷◌, ◌++◌, length, take, drop, replicate, Option, Some, None, Result, Ok, Err, refl, sym, ◌∙◌, ap, subst, arith, length-append, length-drop}
use Rattle.std.specs.Prelude.{◌==◌, nat_eq}
use Rattle.std.specs.Option.{option_map, unwrap_or}
use Rattle.std.proofs.lemmas.List.{length-take, take_all, length-replicate}
use Rattle.std.proofs.lemmas.Bool.{true≢false, eq-eqb, eqb-true, false_from_ne_true}
use Rattle.tl_fetch.specs.Containers.{container_name}
use Rattle.tl_fetch.specs.declared.container.ContainerPart.{ContainerPart}
use Rattle.tl_fetch.specs.declared.fetching.Stated.{Stated}
use Rattle.tl_fetch.specs.declared.fetch_error.FetchError.{FetchError}
use Rattle.tl_fetch.specs.declared.fetch_error.FetchError.TheVariants.{ContainerFormat, Relocated, NoContainer, TooLarge, Absent, SizeDiffers, DigestDiffers, BadFrame, FrameEntry, ShelfFault, SinkFault, NoMemory}
use Rattle.tl_model.specs.Devices.{ShelfSeen, SameShelf}
use Rattle.tl_model.specs.Seen.{Told}
use Rattle.tl_model.specs.Volume.{Name, Volume}
use Rattle.tl_entry.specs.declared.object.Object.{Object}
use Rattle.tl_fetch.specs.Fetching.{Fetched, Gave, HasTakenIn, IsNoFetch, IsOfDevices, TookIn, container_files, files_stated, files_under, following, of_size, stated_of}
use Rattle.tl_repo.specs.Files.{held_by}
use Rattle.tl_fetch.specs.Sinks.{SinkSeen}
use Rattle.tl_fetch.specs.declared.intake.Intake.{Intake}
use Rattle.tl_repo.proofs.ShelfLemmas.{HasRead, read_start, read_more}

-- some bytes of a container were read and taken in
pub record IsReading (tells sink_tells : Bool) (old new : ShelfSeen) (number : ℕ) (name : Name) (before now : SinkSeen) (empty intake : Intake) (done : ℕ) : Type 0 where
  pub bytes : List ℕ
  pub counted : length bytes ≡ done
  pub has_read : HasRead tells old new number name bytes
  pub later : before.faults ≤ now.faults
  pub took : (entry : Object) (paths : List Name) (first : SinkSeen) → TookIn sink_tells entry paths first before empty [] → TookIn sink_tells entry paths first now intake bytes

pub reading_start : (tells sink_tells : Bool) (shelf : ShelfSeen) (number : ℕ) (name : Name) (sink : SinkSeen) (intake : Intake) → IsReading tells sink_tells shelf shelf number name sink sink intake intake 0
reading_start tells sink_tells shelf number name sink intake = record {
  bytes = [];
  counted = refl;
  has_read = read_start tells shelf number name;
  later = omega arith;
  took = λ entry paths first took. took;
}

-- what was taken in before the next piece
pub reading_held : (tells sink_tells : Bool) (old new : ShelfSeen) (number : ℕ) (name : Name) (before now : SinkSeen) (empty intake : Intake) (done : ℕ) → IsReading tells sink_tells old new number name before now empty intake done
    → HasTakenIn sink_tells empty before [] → (bytes : List ℕ) × HasTakenIn sink_tells intake now bytes
reading_held tells sink_tells old new number name before now empty intake done r held =
    (r.bytes, record { entry = held.entry; paths = held.paths; first = held.first; took = r.took held.entry held.paths held.first held.took })

pub reading_more : (tells sink_tells : Bool) (old mid new : ShelfSeen) (number : ℕ) (name : Name) (before now next : SinkSeen) (empty intake later_intake : Intake) (done : ℕ) (piece : List ℕ) (n : ℕ)
    → IsReading tells sink_tells old mid number name before now empty intake done → SameShelf mid new → mid.faults ≤ new.faults → Told tells (piece ≡ take n (drop done (held_by mid number name)))
    → now.faults ≤ next.faults
    → ((entry : Object) (paths : List Name) (first : SinkSeen) (bytes : List ℕ) → TookIn sink_tells entry paths first now intake bytes → TookIn sink_tells entry paths first next later_intake (bytes ++ piece))
    → IsReading tells sink_tells old new number name before next empty later_intake (done + length piece)
reading_more tells sink_tells old mid new number name before now next empty intake later_intake done piece n r same later is sink_later took = record {
  bytes = r.bytes ++ piece;
  counted = length-append r.bytes piece ∙ ap (λ (k : ℕ). k + length piece) r.counted;
  has_read = read_more tells old mid new number name r.bytes piece n r.has_read same later (λ t. subst (λ (k : ℕ). piece ≡ take n (drop k (held_by mid number name))) (sym r.counted) (is t));
  later = omega (arith, r.later, sink_later);
  took = λ entry paths first begun. took entry paths first r.bytes (r.took entry paths first begun);
}

-- ---- a container has been read

pub end_read : (held bytes : List ℕ) → bytes ≡ take (length bytes) held → length held ≤ length bytes → bytes ≡ held
end_read held bytes front enough = front ∙ take_all (length bytes) held enough

pub all_read : (held bytes : List ℕ) (n count : ℕ) → bytes ≡ take (length bytes) held → 0 < n → count ≡ length (take n (drop (length bytes) held)) → count ≡ 0 → bytes ≡ held
all_read held bytes n count front some counted none =
    end_read held bytes front (omega (arith, counted, none, some, length-take n (drop (length bytes) held), length-drop (length bytes) held))

-- a file that is there, by its bytes
pub there_whole : (o : Option (List ℕ)) (size : ℕ) (bytes : List ℕ) → Some size ≡ option_map length o → bytes ≡ unwrap_or o [] → Some bytes ≡ o
there_whole None size bytes is same = absurd (cc)
there_whole (Some held) size bytes is same = ap (λ (l : List ℕ). Some l) same

-- ---- how a fetch ends

-- a fault of a device says nothing
pub device_error : {X : Type 0} (wanted : Result X FetchError) (error : FetchError) → IsOfDevices error → IsNoFetch wanted error
device_error wanted ShelfFault is = tt
device_error wanted SinkFault is = tt
device_error wanted NoMemory is = tt
device_error wanted (ContainerFormat format) is = absurd is
device_error wanted (Relocated name) is = absurd is
device_error wanted (NoContainer name) is = absurd is
device_error wanted (TooLarge what limit) is = absurd is
device_error wanted (Absent name) is = absurd is
device_error wanted (SizeDiffers name want got) is = absurd is
device_error wanted (DigestDiffers name want got) is = absurd is
device_error wanted (BadFrame place) is = absurd is
device_error wanted (FrameEntry name) is = absurd is

-- the error that came first
first_error : {X Y : Type 0} (r : Result X FetchError) (next : X → Result Y FetchError) (error : FetchError) → IsNoFetch r error → IsNoFetch (following r next) error
first_error r next ShelfFault is = tt
first_error r next SinkFault is = tt
first_error r next NoMemory is = tt
first_error {X} r next (ContainerFormat format) is = ap (λ (q : Result X FetchError). following q next) is
first_error {X} r next (Relocated name) is = ap (λ (q : Result X FetchError). following q next) is
first_error {X} r next (NoContainer name) is = ap (λ (q : Result X FetchError). following q next) is
first_error {X} r next (TooLarge what limit) is = ap (λ (q : Result X FetchError). following q next) is
first_error {X} r next (Absent name) is = ap (λ (q : Result X FetchError). following q next) is
first_error {X} r next (SizeDiffers name want got) is = ap (λ (q : Result X FetchError). following q next) is
first_error {X} r next (DigestDiffers name want got) is = ap (λ (q : Result X FetchError). following q next) is
first_error {X} r next (BadFrame place) is = ap (λ (q : Result X FetchError). following q next) is
first_error {X} r next (FrameEntry name) is = ap (λ (q : Result X FetchError). following q next) is

abbrev Files : Type 0
Files = Result (List (Name × List ℕ)) FetchError

module _ (tells sink_tells : Bool) (held : Option (List ℕ)) (db : List Object) (entry : Object) (part : ContainerPart) (first now : SinkSeen) where
  -- it can't be fetched
  pub fetched_unstated : (error : FetchError) → IsNoFetch (stated_of db entry part) error → Fetched tells sink_tells held db entry part first now (Err error)
  fetched_unstated error is = record {
    seen = held;
    same = λ _. refl;
    gave = first_error (stated_of db entry part) (λ (stated : Stated). files_stated (container_name db entry part) stated entry part held) error is;
  }

  -- a device failed, or memory was wanting
  pub fetched_broken : (error : FetchError) → IsOfDevices error → Fetched tells sink_tells held db entry part first now (Err error)
  fetched_broken error is = record {
    seen = held;
    same = λ _. refl;
    gave = device_error (container_files db entry part held) error is;
  }

  module _ (stated : Stated) (are : stated_of db entry part ≡ Ok stated) (name : Name) (named : name ≡ container_name db entry part) where
    files_read : (bytes : List ℕ) → container_files db entry part (Some bytes) ≡ following (of_size name stated.size bytes) (files_under name stated.digest entry part)
    files_read bytes =
        ap (λ (r : Result Stated FetchError). following r (λ (stated : Stated). files_stated (container_name db entry part) stated entry part (Some bytes))) are
        ∙ ap (λ (n : Name). following (of_size n stated.size bytes) (files_under n stated.digest entry part)) (sym named)

    -- another number of bytes came
    pub fetched_short : (bytes : List ℕ) (got : ℕ) → length bytes ≡ got → (got ≡ stated.size → ⊥) → Told tells (Some bytes ≡ held) → Fetched tells sink_tells held db entry part first now (Err (SizeDiffers name stated.size got))
    fetched_short bytes got counted other same =
        let differs : (length bytes == stated.size) ≡ false = false_from_ne_true _ (λ is. other (sym counted ∙ eqb-true (length bytes) stated.size is)) in
        record {
          seen = Some bytes;
          same = same;
          gave = files_read bytes
              ∙ ap (λ (b : Bool). following (cond b (Ok bytes) (Err (SizeDiffers name stated.size (length bytes)))) (files_under name stated.digest entry part)) differs
              ∙ ap (λ (n : ℕ). Err (SizeDiffers name stated.size n)) counted;
        }

    -- all came
    pub fetched_whole : (bytes : List ℕ) (result : Result Unit FetchError) → length bytes ≡ stated.size → Told tells (Some bytes ≡ held) → Gave sink_tells first now (files_under name stated.digest entry part bytes) result → Fetched tells sink_tells held db entry part first now result
    fetched_whole bytes result counted same gave =
        let is : container_files db entry part (Some bytes) ≡ files_under name stated.digest entry part bytes = files_read bytes
        ∙ ap (λ (b : Bool). following (cond b (Ok bytes) (Err (SizeDiffers name stated.size (length bytes)))) (files_under name stated.digest entry part)) (eq-eqb (length bytes) stated.size counted) in
        record {
          seen = Some bytes;
          same = same;
          gave = subst (λ (r : Files). Gave sink_tells first now r result) (sym is) gave;
        }

-- bytes of the size that a shelf says
pub some_bytes : (tells : Bool) (held : Option (List ℕ)) (size : ℕ) → Told tells (Some size ≡ option_map length held) → (bytes : List ℕ) × (length bytes ≡ size) × Told tells (Some bytes ≡ held)
some_bytes true None size is = let no = is refl in absurd (cc)
some_bytes true (Some bytes) size is = let same = is refl in (bytes, cc, λ _. refl)
some_bytes false held size is = (replicate size 0, length-replicate size 0, λ t. absurd (true≢false (sym t)))
