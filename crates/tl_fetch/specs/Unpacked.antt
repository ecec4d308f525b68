-- What has come of a container, token by token, as far as it is what it has to be.
use Rattle.std.specs.Prelude.{◌≡◌, ℕ, zero, suc, ◌-◌, ◌++◌, ◌==◌, ◌&&◌, not, Bool, true, false, if◌then◌else◌, List, [], ◌∷◌, drop, map, fold, Result, Ok, Err}
use Rattle.std.specs.FinSet as set
use Rattle.std.specs.List.{flat_map}
use Rattle.std.specs.Str.{bytes_eq}
use Rattle.tl_model.specs.Seen.{Told}
use Rattle.tl_model.specs.Volume.{Name, Names}
use Rattle.tl_entry.specs.Rising.{has_key, is_rising}
use Rattle.tl_entry.specs.declared.object.Object.{Object}
use Rattle.tl_object.specs.Reading.{entry_of}
use Rattle.tl_object.specs.Writing.{object_text}
use Rattle.tl_object.specs.declared.fault.LineKind.{LineKind}
use Rattle.tl_frame.specs.Scan.{Token, EntryText, FileHead, FileByte, FrameEnd}
use Rattle.tl_frame.specs.Events.{event_tokens}
use Rattle.tl_frame.specs.declared.event.FrameEvent.{FrameEvent}
use Rattle.tl_fetch.specs.Sinks.{SinkSeen, behind_last}
use Rattle.tl_fetch.specs.declared.unpacking.Unpacking.{Unpacking}

-- whether what was read is an entry: both have one text
abbrev pub is_read_as : Result Object (ℕ × LineKind) → Object → Bool
is_read_as (Ok read) entry = bytes_eq (object_text read) (object_text entry)
is_read_as (Err fault) entry = false

-- whether a text reads as an entry
abbrev pub reads_as : List ℕ → Object → Bool
reads_as text entry = is_read_as (entry_of text) entry

-- what has come: whether it isn't what it has to be, the paths that are still to come, how many bytes the last file lacks, and the files
-- that came before a fault, the last one as far as it has come
pub record Unpacked : Type 0 where
  pub wrong : Bool
  pub left : List Name
  pub lacks : ℕ
  pub files : List (Name × List ℕ)

-- nothing has come, and these paths have to
abbrev pub awaiting : List Name → Unpacked
awaiting paths = record { wrong = false; left = paths; lacks = 0; files = [] }

-- whether a path is the next of those that have to come
abbrev pub heads : Name → List Name → Bool
heads path [] = false
heads path (next ∷ left) = bytes_eq path next

-- what has come with a file of a path and so many bytes that begins: it is wrong where another one has to come
abbrev pub with_head : Name → ℕ → Unpacked → Unpacked
with_head path size s =
    if not s.wrong && heads path s.left then record { wrong = false; left = drop 1 s.left; lacks = size; files = s.files ++ (path, []) ∷ [] }
    else record s { wrong = true; lacks = size }

-- what has come with one token more, where this entry has to come
abbrev pub unpacked_by : Object → Unpacked → Token → Unpacked
unpacked_by entry s (EntryText text) = if reads_as text entry then s else record s { wrong = true }
unpacked_by entry s (FileHead path size) = with_head path size s
unpacked_by entry s (FileByte byte) = record s { lacks = s.lacks - 1; files = if s.wrong then s.files else behind_last (byte ∷ []) s.files }
unpacked_by entry s FrameEnd = s

-- what has come with more tokens
abbrev pub unpacked : Object → Unpacked → List Token → Unpacked
unpacked entry s tokens = fold (unpacked_by entry) s tokens

-- whether tokens can follow where so many bytes of a file are still to come: these come first, and no more of them
abbrev pub are_orderly : ℕ → List Token → Bool
are_orderly lacks [] = true
are_orderly lacks (EntryText text ∷ tokens) = lacks == 0 && are_orderly 0 tokens
are_orderly lacks (FileHead path size ∷ tokens) = lacks == 0 && are_orderly size tokens
are_orderly zero (FileByte byte ∷ tokens) = false
are_orderly (suc lacks) (FileByte byte ∷ tokens) = are_orderly lacks tokens
are_orderly lacks (FrameEnd ∷ tokens) = lacks == 0 && are_orderly 0 tokens

-- the paths of some files
abbrev pub paths_in : List (Name × List ℕ) → List Name
paths_in files = map (λ (file : Name × List ℕ). file.0) files

-- paths without those of some files
abbrev pub less_paths : Names → List (Name × List ℕ) → Names
less_paths takes files = fold set.remove takes (paths_in files)

-- what has come went to a sink, which was seen so before, as far as it is what it has to be
pub record Follows (tells : Bool) (entry : Object) (first now : SinkSeen) (u : Unpacking) (s : Unpacked) : Type 0 where
  pub text : u.text.items ≡ object_text entry
  pub wrong : u.is_wrong ≡ s.wrong
  pub left : drop u.place u.paths.items ≡ s.left
  pub lacks : s.wrong ≡ false → now.lacks ≡ s.lacks
  pub unbegun : s.wrong ≡ false → s.files ≡ [] → s.lacks ≡ 0
  pub takes : now.takes ≡ less_paths first.takes s.files
  pub given : Told tells (now.given ≡ first.given ++ s.files)
  pub awaited : (path : Name) → has_key (λ p. p) path s.left ≡ true → set.contains now.takes path ≡ true
  pub rising : is_rising (λ path. path) s.left ≡ true

-- nothing has come of a container that has to hold an entry and files with these paths
pub record IsFresh (entry : Object) (paths : List Name) (u : Unpacking) : Type 0 where
  pub text : u.text.items ≡ object_text entry
  pub wrong : u.is_wrong ≡ false
  pub place : u.place ≡ 0
  pub paths_are : u.paths.items ≡ paths
  pub rising : is_rising (λ path. path) paths ≡ true

-- events can be taken: what has come follows the sink, and they can come behind it
pub record CanTake (tells : Bool) (u : Unpacking) (now : SinkSeen) (events : List FrameEvent) : Type 0 where
  pub entry : Object
  pub first : SinkSeen
  pub state : Unpacked
  pub follows : Follows tells entry first now u state
  pub orderly : are_orderly state.lacks (flat_map event_tokens events) ≡ true

-- tokens went to a sink as far as they are what they have to be: whatever what had come followed before, it follows behind them
abbrev pub Unpacks : Bool → SinkSeen → SinkSeen → Unpacking → Unpacking → List Token → Type 0
Unpacks tells old new u v tokens =
    (entry : Object) (first : SinkSeen) (s : Unpacked) → Follows tells entry first old u s → Follows tells entry first new v (unpacked entry s tokens)
