-- What a reader of a frame in pieces is seen as, and which bytes lead to it.
use Rattle.std.specs.Prelude.{◌≡◌, ◌<◌, ◌≤◌, ◌+◌, ◌-◌, ◌^◌, ℕ, zero, suc, min, Bool, true, false, List, [], ◌++◌, length, Option, Some, None}
use Rattle.tl_path.specs.Path.{IsPath}
use Rattle.tl_file.specs.declared.file.FileBytes.{FileBytes}
use Rattle.tl_frame.specs.declared.event.FrameEvent.{FrameEvent}
use Rattle.tl_frame.specs.declared.stage.Waiting.{Waiting}
use Rattle.tl_frame.specs.declared.stage.Stage.{Stage}
use Rattle.tl_frame.specs.declared.stage.Stage.TheVariants.{Magic, EntrySize, EntryText, Count, PathSize, PathText, Size, Content, Mark, Ended, Faulty, Spent}
use Rattle.tl_frame.specs.Frames.{IsFrame}
use Rattle.tl_frame.specs.Scan.{Token, Scan, ScanEnd, AtEnd, InField, AtFault, stop, telling, scan, tokens_of, frame_tokens, AreBytes, magic_from, entry_size_from, entry_from, count_from, files_from, path_from, size_from, content_from, mark_from, nothing_from}
use Rattle.tl_frame.specs.Events.{AddsEvents}

-- a reader: where it is, what it keeps of the field that has begun, and the path that came last
pub record ReaderState : Type 0 where
  pub waiting : Waiting
  pub kept : List ℕ
  pub last : List ℕ

-- a place as a number of 64 bits, at which it stands still
abbrev pub told_place : ℕ → ℕ
told_place place = min place (2 ^ 64 - 1)

-- where a reader is before so many files, or before the mark where there are none
abbrev pub before_files : ℕ → ℕ → Waiting
before_files place zero = record { stage = Mark; place = place; files = 0; size = 0 }
before_files place (suc files) = record { stage = PathSize; place = place; files = files; size = 0 }

-- how many bytes a stage keeps until they are whole
abbrev pub wanted_by : Stage → Option ℕ
wanted_by Magic = Some 8
wanted_by EntrySize = Some 4
wanted_by (EntryText size) = Some size
wanted_by Count = Some 4
wanted_by PathSize = Some 2
wanted_by (PathText size) = Some size
wanted_by Size = Some 8
wanted_by Mark = Some 8
wanted_by _ = None

-- what is made of the bytes from the field on that is waited for, whose place this is
abbrev pub rest_by : Stage → ℕ → ℕ → List ℕ → ℕ → List ℕ → Scan
rest_by Magic files size last from text = magic_from from text
rest_by EntrySize files size last from text = entry_size_from from text
rest_by (EntryText wanted) files size last from text = entry_from wanted from text
rest_by Count files size last from text = count_from from text
rest_by PathSize files size last from text = files_from (suc files) last from text
rest_by (PathText wanted) files size last from text = path_from wanted last from text (files_from files)
rest_by Size files size last from text = size_from last from text (files_from files)
rest_by (Content left) files size last from text = content_from left from text (files_from files last (from + size))
rest_by Mark files size last from text = mark_from from text
rest_by Ended files size last from text = nothing_from from text
rest_by Faulty files size last from text = stop (AtFault from)
rest_by Spent files size last from text = stop (AtFault from)

-- the same, for a reader's place
abbrev pub rest_from : Waiting → List ℕ → ℕ → List ℕ → Scan
rest_from w last from text = rest_by w.stage w.files w.size last from text

-- how bytes end that lead to a stage
abbrev pub ending_by : Stage → ℕ → ScanEnd
ending_by Ended here = AtEnd
ending_by Faulty here = AtFault here
ending_by Spent here = AtFault here
ending_by _ here = InField here

-- whether no memory was found
abbrev pub is_spent_stage : Stage → Bool
is_spent_stage Spent = true
is_spent_stage _ = false

-- whether a reader found no memory
abbrev pub is_spent : ReaderState → Bool
is_spent s = is_spent_stage s.waiting.stage

-- less than a whole field is kept
abbrev pub IsKept : Option ℕ → List ℕ → Type 0
IsKept (Some size) kept = length kept < size
IsKept None kept = kept ≡ []

-- what holds at a stage of the path that came last, and of what is still to come
abbrev pub IsAtStage : Stage → List ℕ → Type 0
IsAtStage Magic last = last ≡ []
IsAtStage EntrySize last = last ≡ []
IsAtStage (EntryText wanted) last = last ≡ []
IsAtStage Count last = last ≡ []
IsAtStage (PathText wanted) last = wanted ≤ 1024
IsAtStage Size last = IsPath last
IsAtStage (Content left) last = 0 < left
IsAtStage _ last = Unit {0}

-- what holds of each reader
pub record IsInForm (w : Waiting) (kept last : List ℕ) : Type 0 where
  pub kept_less : IsKept (wanted_by w.stage) kept
  pub at_stage : IsAtStage w.stage last

-- bytes lead to a reader, and tell these tokens
pub record Leads (s : ReaderState) (fed : List ℕ) (told : List Token) : Type 0 where
  pub here : ℕ
  pub are_bytes : AreBytes fed
  pub place : s.waiting.place ≡ told_place here
  pub rest : (more : List ℕ) → scan (fed ++ more) ≡ telling told (rest_from s.waiting s.last here (s.kept ++ more))

-- these bytes have come to a reader; nothing is said of one that found no memory
abbrev pub IsFed : ReaderState → List ℕ → Type 0
IsFed s fed = is_spent s ≡ false → Leads s fed (tokens_of fed)

-- a reader of these parts
abbrev pub reader_of : Waiting → List ℕ → List ℕ → ReaderState
reader_of w kept last = record { waiting = w; kept = kept; last = last }

-- a reader that has no byte of the field that is waited for
abbrev pub at_field : Waiting → List ℕ → ReaderState
at_field w last = reader_of w [] last

-- from a place on, what a front of a piece tells a reader, and where the reader is behind it
pub record GoesOn (here : ℕ) (old new : ReaderState) (front : List ℕ) (tokens : List Token) : Type 0 where
  pub next : ℕ
  pub place : new.waiting.place ≡ told_place next
  pub rest : (more : List ℕ) → rest_from old.waiting old.last here (old.kept ++ (front ++ more)) ≡ telling tokens (rest_from new.waiting new.last next (new.kept ++ more))

-- a front of a piece came to a reader, which is then another one, and events were added that tell what the front tells
pub record Moves (old new : ReaderState) (front : List ℕ) (before after : List FrameEvent) : Type 0 where
  pub tokens : List Token
  pub adds : AddsEvents before after tokens
  pub form : IsInForm new.waiting new.kept new.last
  pub live : is_spent new ≡ false
  pub goes : (here : ℕ) → old.waiting.place ≡ told_place here → GoesOn here old new front tokens

-- a piece came to a reader as far as this rest
pub record Takes (old new : ReaderState) (piece rest : List ℕ) (before after : List FrameEvent) : Type 0 where
  pub front : List ℕ
  pub split : piece ≡ front ++ rest
  pub moves : Moves old new front before after

-- what a piece tells behind the bytes that came before it: all of it, but where no memory was found a front of it
pub record Tells (fed piece : List ℕ) (before after : List FrameEvent) (spent : Bool) : Type 0 where
  pub front : List ℕ
  pub rest : List ℕ
  pub split : piece ≡ front ++ rest
  pub whole : spent ≡ false → rest ≡ []
  pub tokens : List Token
  pub adds : AddsEvents before after tokens
  pub told : tokens_of (fed ++ front) ≡ tokens_of fed ++ tokens

-- bytes are a frame and tell what it holds
pub record IsWhole (text : List ℕ) : Type 0 where
  pub entry : List ℕ
  pub files : List FileBytes
  pub is : IsFrame text entry files
  pub told : tokens_of text ≡ frame_tokens entry files
