-- The frame of an installed package.
use Rattle.std.specs.Prelude.{◌≡◌, ℕ, ◌+◌, nat_lt, not, if◌then◌else◌, List, [], ◌∷◌, length, filter, find, sum_by, Option, Some, None, Result, Ok, Err}
use Rattle.std.specs.Option.{is_none, unwrap_or}
use Rattle.std.specs.List.{list_any}
use Rattle.tl_model.specs.Volume.{Name, Volume, at}
use Rattle.tl_kind.specs.Quantities.{limit_of}
use Rattle.tl_kind.specs.declared.quantity.What.{What}
use Rattle.tl_kind.specs.declared.quantity.What.TheVariants.{File, Frame}
use Rattle.tl_path.specs.Reserved.{is_reserved}
use Rattle.tl_file.specs.declared.file.FileBytes.{FileBytes}
use Rattle.tl_frame.specs.Frames.{frame}
use Rattle.tl_entry.specs.FilePaths.{file_paths}
use Rattle.tl_entry.specs.declared.object.Object.{Object}
use Rattle.tl_object.specs.Writing.{object_text}
use Rattle.tl_db.specs.Entries.{entry_of}
use Rattle.tl_tree.specs.declared.change.Part.{Part}
use Rattle.tl_tree.specs.declared.change.Part.TheVariants.{Write}
use Rattle.tl_backup.specs.Files.{backup_path}
use Rattle.tl_backup.specs.declared.error.BackupError.{BackupError}
use Rattle.tl_backup.specs.declared.error.BackupError.TheVariants.{NotInstalled, FileMissing, TooLarge}

-- the paths of an entry's files that aren't reserved, in the order of their bytes
abbrev pub own_paths : Object → List Name
own_paths entry = filter (λ path. not (is_reserved path)) (file_paths entry)

-- the first of some paths at which a tree has no file
abbrev pub missing_path : Volume → List Name → Option Name
missing_path tree paths = find (λ path. is_none (at tree path)) paths

-- a file in front of others, where it is there and no longer than the limit
abbrev pub with_file : Name → Option (List ℕ) → Result (List FileBytes) BackupError → Result (List FileBytes) BackupError
with_file path None others = Err (FileMissing path)
with_file path (Some bytes) (Err fault) = if nat_lt (limit_of File) (length bytes) then Err (TooLarge File (limit_of File)) else Err fault
with_file path (Some bytes) (Ok files) = if nat_lt (limit_of File) (length bytes) then Err (TooLarge File (limit_of File))
    else Ok (record { path = path; bytes = bytes } ∷ files)

-- the files of a tree at some paths, or the fault of the first that is missing or longer than the limit
abbrev pub files_at : Volume → List Name → Result (List FileBytes) BackupError
files_at tree [] = Ok []
files_at tree (path ∷ paths) = with_file path (at tree path) (files_at tree paths)

-- the frame of an entry's text and of files, where it is no longer than the limit
abbrev pub frame_within : List ℕ → List FileBytes → Result (List ℕ) BackupError
frame_within text files = if nat_lt (limit_of Frame) (length (frame text files)) then Err (TooLarge Frame (limit_of Frame)) else Ok (frame text files)

-- the frame of an entry's text and of files that were read, or the fault of those
abbrev pub framed : List ℕ → Result (List FileBytes) BackupError → Result (List ℕ) BackupError
framed text (Err fault) = Err fault
framed text (Ok files) = frame_within text files

-- the frame of an entry's text and its files, where none of them is missing
abbrev pub framed_unless : Option Name → List ℕ → List Name → Volume → Result (List ℕ) BackupError
framed_unless (Some path) text paths tree = Err (FileMissing path)
framed_unless None text paths tree = framed text (files_at tree paths)

-- the bytes of a backup, by an entry's text and the paths of its files. Refused, in this order, at the first file that is missing, at the
-- first that is too long, and where the frame is too long
abbrev pub backup_bytes : List ℕ → List Name → Volume → Result (List ℕ) BackupError
backup_bytes text paths tree = framed_unless (missing_path tree paths) text paths tree

-- the part of a change that writes the backup of an entry
abbrev pub part_with : Object → Result (List ℕ) BackupError → Result Part BackupError
part_with entry (Err fault) = Err fault
part_with entry (Ok bytes) = Ok (Write (backup_path entry.name entry.revision) bytes)

-- the part that writes the backup of an installed entry: the frame of its text and its own files
abbrev pub entry_backup : Object → Volume → Result Part BackupError
entry_backup entry tree = part_with entry (backup_bytes (object_text entry) (own_paths entry) tree)

-- the backup of the package of a name, where an entry has it
abbrev pub backup_in : Name → Option Object → Volume → Result Part BackupError
backup_in name None tree = Err (NotInstalled name)
backup_in name (Some entry) tree = entry_backup entry tree

-- the backup of an installed package
abbrev pub package_backup : Name → List Object → Volume → Result Part BackupError
package_backup name db tree = backup_in name (entry_of name db) tree

-- a part writes a backup of the package's entry
pub record IsBackupPart (name : Name) (db : List Object) (part : Part) : Type 0 where
  pub entry : Object
  pub found : entry_of name db ≡ Some entry
  pub bytes : List ℕ
  pub is : part ≡ Write (backup_path entry.name entry.revision) bytes

-- how many bytes a tree has at a path
abbrev pub size_at : Volume → Name → ℕ
size_at tree path = length (unwrap_or (at tree path) [])

-- what a file adds to the length of a frame, beside 10 bytes: its path and its bytes
abbrev pub frame_share : Volume → Name → ℕ
frame_share tree path = 10 + length path + size_at tree path

-- what is too large of the backup of an entry whose files are there: a file, or the frame, which has 24 bytes more than its text and
-- its files' shares
abbrev pub large_in : List ℕ → Volume → List Name → Option What
large_in text tree paths =
    if list_any (λ path. nat_lt (limit_of File) (size_at tree path)) paths then Some File
    else (if nat_lt (limit_of Frame) (24 + length text + sum_by (frame_share tree) paths) then Some Frame else None)

-- what of an entry's backup is missing, or too large, where there is an entry
abbrev pub missing_of : Option Object → Volume → Option Name
missing_of None tree = None
missing_of (Some entry) tree = missing_path tree (own_paths entry)

abbrev pub large_of : Option Object → Volume → Option What
large_of None tree = None
large_of (Some entry) tree = large_in (object_text entry) tree (own_paths entry)
