-- Frames: an entry's text and files as one list of bytes.
use Rattle.std.specs.Prelude.{◌≡◌, ◌<◌, ◌^◌, ℕ, Bool, true, ◌&&◌, List, [], ◌∷◌, ◌++◌, length, codes}
use Rattle.std.specs.List.{flat_map, AllByRecursion}
use Rattle.std.specs.Int.{w16, w32, w64, to_be_bytes}
use Rattle.std.specs.Ordering.{nat_cmp, is_lt}
use Rattle.std.specs.Cmp.Lexicographic.{slice_cmp}
use Rattle.tl_path.specs.Path.{IsPath}
use Rattle.tl_file.specs.declared.file.FileBytes.{FileBytes}

-- the first bytes of a frame
abbrev pub frame_magic : List ℕ
frame_magic = codes "TLFRAME1"

-- the last bytes of a frame
abbrev pub frame_mark : List ℕ
frame_mark = codes "TLFRAMEE"

-- a file in a frame: the length of its path, the path, the number of its bytes, the bytes
unfoldable pub framed_file : FileBytes → List ℕ
framed_file f = to_be_bytes w16 (length f.path) ++ (f.path ++ (to_be_bytes w64 (length f.bytes) ++ f.bytes))

-- the frame of an entry's text and of files: the magic, the text behind its length, the files behind their number, the mark
unfoldable pub frame : List ℕ → List FileBytes → List ℕ
frame entry files = frame_magic ++ (to_be_bytes w32 (length entry) ++ (entry
    ++ (to_be_bytes w32 (length files) ++ (flat_map framed_file files ++ frame_mark))))

-- whether each path is greater than the one before it, by bytes, and the first one greater than a path before them all
abbrev pub paths_rise_behind : List ℕ → List FileBytes → Bool
paths_rise_behind last [] = true
paths_rise_behind last (f ∷ fs) = is_lt (slice_cmp nat_cmp last f.path) && paths_rise_behind f.path fs

-- whether each path is greater than the one before it, by bytes
abbrev pub paths_rise : List FileBytes → Bool
paths_rise [] = true
paths_rise (f ∷ fs) = paths_rise_behind f.path fs

-- a file that a frame can hold
pub record FitsFrame (f : FileBytes) : Type 0 where
  pub path : IsPath f.path
  pub size : length f.bytes < 2 ^ 64

-- an entry's text and files that have a frame
pub record HaveFrame (entry : List ℕ) (files : List FileBytes) : Type 0 where
  pub entry_fits : length entry < 2 ^ 32
  pub count_fits : length files < 2 ^ 32
  pub each : AllByRecursion FitsFrame files
  pub rising : paths_rise files ≡ true

-- a text is the frame of an entry's text and of files
pub record IsFrame (text entry : List ℕ) (files : List FileBytes) : Type 0 where
  pub have : HaveFrame entry files
  pub same : text ≡ frame entry files
