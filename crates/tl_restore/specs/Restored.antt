-- What a backup brings back.
use Rattle.std.specs.Prelude.{◌≡◌, ℕ, ◌&&◌, ◌==◌, nat_lt, Bool, if◌then◌else◌, List, [], map, length, Option, Some, None, Result, Ok, Err}
use Rattle.std.specs.Cmp.Lexicographic.{pointwise}
use Rattle.std.specs.Str.{bytes_eq}
use Rattle.tl_model.specs.Causes.{Rose}
use Rattle.tl_model.specs.Volume.{Name, Volume, at}
use Rattle.tl_kind.specs.Quantities.{limit_of}
use Rattle.tl_kind.specs.declared.quantity.What.TheVariants.{Frame}
use Rattle.tl_file.specs.declared.file.FileBytes.{FileBytes}
use Rattle.tl_frame.specs.Events.{with_tokens}
use Rattle.tl_frame.specs.Scan.{frame_fault, tokens_of}
use Rattle.tl_entry.specs.declared.object.Object.{Object}
use Rattle.tl_object.specs.Reading as reading
use Rattle.tl_object.specs.declared.fault.LineKind.{LineKind}
use Rattle.tl_tree.specs.Planted.{Planted}
use Rattle.tl_backup.specs.Files.{backup_path}
use Rattle.tl_backup.specs.Frames.{own_paths}
use Rattle.tl_restore.specs.declared.reading.RestoreError.{RestoreError}
use Rattle.tl_restore.specs.declared.reading.RestoreError.TheVariants.{NoBackup, TooLarge, BadFrame, FrameEntry, HostFault, NoMemory}
use Rattle.tl_restore.specs.declared.reading.Restored.{Restored}

-- an answer is the one that is given; a fault of the host and want of memory have their causes elsewhere
abbrev pub Restores : {X Y : Type 0} → (X → Y) → Result X RestoreError → Result Y RestoreError → Type 0
Restores view (Ok x) given = given ≡ Ok (view x)
Restores view (Err HostFault) given = Unit {0}
Restores view (Err NoMemory) given = Unit {0}
Restores view (Err error) given = given ≡ Err error

-- a fault of the host is answered only where its count of faults rose
abbrev pub IsRestoreCause : Planted → Planted → RestoreError → Type 0
IsRestoreCause old new error = error ≡ HostFault → Rose old.seen.faults new.seen.faults

-- an entry with its files, as one value
abbrev pub entry_and_files : Restored → Object × List FileBytes
entry_and_files back = (back.entry, back.files)

-- the bytes of a backup, where they are there and no longer than a frame may be
abbrev pub bytes_in : Option (List ℕ) → Result (List ℕ) RestoreError
bytes_in None = Err NoBackup
bytes_in (Some bytes) = if nat_lt (limit_of Frame) (length bytes) then Err (TooLarge Frame (limit_of Frame)) else Ok bytes

-- the entry's text and the files of bytes, by the first field of a frame that is cut or wrong in them
abbrev pub unpacked_by : Option ℕ → List ℕ → Result (List ℕ × List FileBytes) RestoreError
unpacked_by None bytes = Ok (with_tokens ([], []) (tokens_of bytes))
unpacked_by (Some place) bytes = Err (BadFrame place)

-- whether an entry is a package's at a revision, and files are its own
abbrev pub is_of : Name → ℕ → List FileBytes → Object → Bool
is_of name revision files entry =
    bytes_eq entry.name name && ((entry.revision == revision) && pointwise bytes_eq (map (λ file. file.path) files) (own_paths entry))

-- the entry of a text that was read, with its files, where they are those of a package at a revision
abbrev pub restored_as : Name → ℕ → List FileBytes → Result Object (ℕ × LineKind) → Result (Object × List FileBytes) RestoreError
restored_as name revision files (Err fault) = Err FrameEntry
restored_as name revision files (Ok entry) = if is_of name revision files entry then Ok (entry, files) else Err FrameEntry

-- what the parts of a frame bring back, where there is one
abbrev pub restored_from : Name → ℕ → Result (List ℕ × List FileBytes) RestoreError → Result (Object × List FileBytes) RestoreError
restored_from name revision (Err fault) = Err fault
restored_from name revision (Ok parts) = restored_as name revision parts.1 (reading.entry_of parts.0)

-- what bytes bring back, where they are there
abbrev pub restored_in : Name → ℕ → Result (List ℕ) RestoreError → Result (Object × List FileBytes) RestoreError
restored_in name revision (Err fault) = Err fault
restored_in name revision (Ok bytes) = restored_from name revision (unpacked_by (frame_fault bytes) bytes)

-- the entry and the files that the backup of a package at a revision brings back
abbrev pub restored : Name → ℕ → Volume → Result (Object × List FileBytes) RestoreError
restored name revision tree = restored_in name revision (bytes_in (at tree (backup_path name revision)))
