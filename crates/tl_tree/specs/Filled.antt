-- A change with the files that were given for it.
use Rattle.std.specs.Prelude.{ℕ, List, [], ◌∷◌, Option, map, find}
use Rattle.std.specs.Option.{option_map, unwrap_or}
use Rattle.std.specs.List.{flat_map}
use Rattle.tl_model.specs.Volume.{Name, same_name}
use Rattle.tl_file.specs.declared.file.FileBytes.{FileBytes}
use Rattle.tl_tree.specs.Changes.{own}
use Rattle.tl_tree.specs.declared.change.Part.{Part}
use Rattle.tl_tree.specs.declared.change.Part.TheVariants.{Put, Remove, Entry, Write, Erase, Stream, Later}

-- what the first of some files with a name holds; None where none has it
abbrev pub bytes_under : Name → List (Name × List ℕ) → Option (List ℕ)
bytes_under name files = option_map (λ (file : Name × List ℕ). file.1) (find (λ (file : Name × List ℕ). same_name name file.0) files)

-- the file at a path that was given, with no bytes where none was
abbrev pub given_at : List (Name × List ℕ) → Name → FileBytes
given_at files path = record { path = path; bytes = unwrap_or (bytes_under path files) [] }

-- the part that writes a file
abbrev pub write_part : FileBytes → Part
write_part file = Write file.path file.bytes

-- a part of a change with its files: an entry whose files came later is put with them, and each other path that came later is written
abbrev pub filled_by : List (Name × List ℕ) → Part → List Part
filled_by files (Put entry own_files) = Put entry own_files ∷ []
filled_by files (Remove name) = Remove name ∷ []
filled_by files (Entry entry) = Entry entry ∷ []
filled_by files (Write path bytes) = Write path bytes ∷ []
filled_by files (Erase path) = Erase path ∷ []
filled_by files (Stream entry) = Put entry (map (given_at files) (own entry)) ∷ []
filled_by files (Later paths) = map (λ path. write_part (given_at files path)) paths

-- a change with the files that were given for it
abbrev pub filled : List (Name × List ℕ) → List Part → List Part
filled files parts = flat_map (filled_by files) parts
