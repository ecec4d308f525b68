-- What the bytes of a frame tell, as far as they have come, and where they fail to be a frame.
use Rattle.std.specs.Prelude.{◌<◌, ◌+◌, ℕ, zero, suc, Bool, ◌==◌, ◌&&◌, nat_lt, slice_index, bytes_eq, if◌then◌else◌, List, [], ◌∷◌, ◌++◌, length, take, drop, map, Option, Some, None}
use Rattle.std.specs.List.{flat_map}
use Rattle.std.specs.Option.{is_none}
use Rattle.std.specs.Int.{w16, w32, w64, from_be_bytes}
use Rattle.std.specs.Ordering.{nat_cmp, is_lt}
use Rattle.std.specs.Cmp.Lexicographic.{slice_cmp}
use Rattle.tl_path.specs.Path.{path_fault}
use Rattle.tl_file.specs.declared.file.FileBytes.{FileBytes}
use Rattle.tl_frame.specs.Frames.{frame_magic, frame_mark}

-- what bytes tell, one by one: the entry's text, a file's path and the number of its bytes, a byte of the last file, the end
pub data Token : Type 0 where
  EntryText : (text : List ℕ) → Token
  FileHead : (path : List ℕ) (len : ℕ) → Token
  FileByte : (byte : ℕ) → Token
  FrameEnd : Token

-- how bytes end: at a frame's end, in a field that is cut, or at the first field that is wrong, with that field's place
pub data ScanEnd : Type 0 where
  AtEnd : ScanEnd
  InField : (place : ℕ) → ScanEnd
  AtFault : (place : ℕ) → ScanEnd

-- what bytes tell, and how they end
pub record Scan : Type 0 where
  pub tokens : List Token
  pub ending : ScanEnd

-- nothing more is told
abbrev pub stop : ScanEnd → Scan
stop ending = record { tokens = []; ending = ending }

-- some tokens, and what comes behind them
abbrev pub telling : List Token → Scan → Scan
telling tokens rest = record { tokens = tokens ++ rest.tokens; ending = rest.ending }

-- a field of so many bytes at a place, and what is made of it and of the rest
unfoldable pub field_from : ℕ → ℕ → List ℕ → (List ℕ → List ℕ → Scan) → Scan
field_from size from text go = if nat_lt (length text) size then stop (InField from) else go (take size text) (drop size text)

-- behind the mark: nothing may stand there
unfoldable pub nothing_from : ℕ → List ℕ → Scan
nothing_from from text = stop (if length text == 0 then AtEnd else AtFault from)

-- from the mark on
unfoldable pub mark_from : ℕ → List ℕ → Scan
mark_from from text = field_from 8 from text (λ mark rest.
    if bytes_eq mark frame_mark then telling (FrameEnd ∷ []) (nothing_from (from + 8) rest) else stop (AtFault from))

-- from a file's bytes on, of which so many are still to come; a part of them is told too
unfoldable pub content_from : ℕ → ℕ → List ℕ → (List ℕ → Scan) → Scan
content_from left from text go =
    if nat_lt (length text) left then record { tokens = map FileByte text; ending = InField from }
    else telling (map FileByte (take left text)) (go (drop left text))

-- from the number of a file's bytes on
unfoldable pub size_from : List ℕ → ℕ → List ℕ → (List ℕ → ℕ → List ℕ → Scan) → Scan
size_from path from text go = field_from 8 from text (λ size rest.
    telling (FileHead path (from_be_bytes w64 size) ∷ [])
    (content_from (from_be_bytes w64 size) (from + 8) rest (go path (from + 8 + from_be_bytes w64 size))))

-- whether a name may come behind a path: it is a path, and greater by bytes
unfoldable pub is_later_path : List ℕ → List ℕ → Bool
is_later_path last name = is_none (path_fault name) && is_lt (slice_cmp nat_cmp last name)

-- from a path of so many bytes on, which comes behind another one
unfoldable pub path_from : ℕ → List ℕ → ℕ → List ℕ → (List ℕ → ℕ → List ℕ → Scan) → Scan
path_from size last from text go =
    if nat_lt 1024 size then stop (AtFault from)
    else field_from size from text (λ name rest. if is_later_path last name then size_from name (from + size) rest go else stop (AtFault from))

-- from so many files on, whose paths come behind another one, and none behind no bytes
unfoldable pub files_from : ℕ → List ℕ → ℕ → List ℕ → Scan
files_from zero last from text = mark_from from text
files_from (suc count) last from text = field_from 2 from text (λ size rest.
    path_from (from_be_bytes w16 size) last (from + 2) rest (λ path place more. files_from count path place more))

-- from the number of files on
unfoldable pub count_from : ℕ → List ℕ → Scan
count_from from text = field_from 4 from text (λ count rest. files_from (from_be_bytes w32 count) [] (from + 4) rest)

-- from an entry's text of so many bytes on
unfoldable pub entry_from : ℕ → ℕ → List ℕ → Scan
entry_from size from text = field_from size from text (λ entry rest. telling (EntryText entry ∷ []) (count_from (from + size) rest))

-- from the length of an entry's text on
unfoldable pub entry_size_from : ℕ → List ℕ → Scan
entry_size_from from text = field_from 4 from text (λ size rest. entry_from (from_be_bytes w32 size) (from + 4) rest)

-- from the magic on
unfoldable pub magic_from : ℕ → List ℕ → Scan
magic_from from text = field_from 8 from text (λ magic rest.
    if bytes_eq magic frame_magic then entry_size_from (from + 8) rest else stop (AtFault from))

-- what bytes tell from the beginning on
unfoldable pub scan : List ℕ → Scan
scan text = magic_from 0 text

-- what bytes tell
abbrev pub tokens_of : List ℕ → List Token
tokens_of text = (scan text).tokens

-- how bytes end
abbrev pub ending_of : List ℕ → ScanEnd
ending_of text = (scan text).ending

-- the place of a field that is cut or wrong, if there is one
abbrev pub place_in : ScanEnd → Option ℕ
place_in AtEnd = None
place_in (InField place) = Some place
place_in (AtFault place) = Some place

-- the place of the first byte of the first field that is cut or wrong; bytes behind the mark are a wrong field
abbrev pub frame_fault : List ℕ → Option ℕ
frame_fault text = place_in (ending_of text)

-- what a file tells
abbrev pub file_tokens : FileBytes → List Token
file_tokens f = FileHead f.path (length f.bytes) ∷ map FileByte f.bytes

-- what a frame tells
abbrev pub frame_tokens : List ℕ → List FileBytes → List Token
frame_tokens entry files = EntryText entry ∷ (flat_map file_tokens files ++ FrameEnd ∷ [])

-- each number is one of a byte
abbrev pub AreBytes : List ℕ → Type 0
AreBytes text = (i : ℕ) → slice_index text i < 256
