-- What the events of a reader tell, and the entry's text and files that are gathered from them.
use Rattle.std.specs.Prelude.{◌≡◌, ℕ, List, [], ◌∷◌, ◌++◌, map, fold}
use Rattle.std.specs.List.{flat_map, AllByRecursion}
use Rattle.tl_file.specs.declared.file.FileBytes.{FileBytes}
use Rattle.tl_frame.specs.declared.event.FrameEvent.{FrameEvent}
use Rattle.tl_frame.specs.declared.event.FrameEvent.TheVariants.{Entry, File, Bytes, End}
use Rattle.tl_frame.specs.Scan.{Token, EntryText, FileHead, FileByte, FrameEnd}

-- what an event tells, each byte of a file by itself: so it doesn't matter how a file's bytes are cut
abbrev pub event_tokens : FrameEvent → List Token
event_tokens (Entry text) = EntryText text ∷ []
event_tokens (File path len) = FileHead path len ∷ []
event_tokens (Bytes bytes) = map FileByte bytes
event_tokens End = FrameEnd ∷ []

-- the next bytes of a file are at least one
abbrev pub HasBytes : FrameEvent → Type 0
HasBytes (Bytes []) = ⊥
HasBytes (Bytes (b ∷ bytes)) = Unit {0}
HasBytes (Entry text) = Unit {0}
HasBytes (File path len) = Unit {0}
HasBytes End = Unit {0}

-- events were added that tell these tokens; none of them has no bytes of a file
pub record AddsEvents (before after : List FrameEvent) (tokens : List Token) : Type 0 where
  pub given : List FrameEvent
  pub same : after ≡ before ++ given
  pub some : AllByRecursion HasBytes given
  pub told : flat_map event_tokens given ≡ tokens

-- bytes behind those of the last file
abbrev pub with_bytes : List FileBytes → List ℕ → List FileBytes
with_bytes [] bytes = []
with_bytes (f ∷ []) bytes = record { path = f.path; bytes = f.bytes ++ bytes } ∷ []
with_bytes (f ∷ g ∷ fs) bytes = f ∷ with_bytes (g ∷ fs) bytes

-- an entry's text and files with what a token tells
abbrev pub with_token : (List ℕ × List FileBytes) → Token → List ℕ × List FileBytes
with_token held (EntryText text) = (text, held.1)
with_token held (FileHead path len) = (held.0, held.1 ++ record { path = path; bytes = [] } ∷ [])
with_token held (FileByte byte) = (held.0, with_bytes held.1 (byte ∷ []))
with_token held FrameEnd = held

-- an entry's text and files with what tokens tell
abbrev pub with_tokens : (List ℕ × List FileBytes) → List Token → List ℕ × List FileBytes
with_tokens held tokens = fold with_token held tokens
