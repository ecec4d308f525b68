-- The sections of files of an entry.
use Rattle.std.specs.Prelude.{ℕ, List, [], map}
use Rattle.tl_entry.specs.Parts.{FileEntry}
use Rattle.tl_entry.specs.declared.object.Files.{Files}
use Rattle.tl_entry.specs.declared.object.DocFiles.{DocFiles}

-- the paths of some files
abbrev pub paths_of : List FileEntry → List (List ℕ)
paths_of files = map (λ (f : FileEntry). f.path) files

-- the section of an entry that states none
abbrev pub no_files : Files
no_files = record { blocks = 0; paths = [] }

-- the section of documentation of an entry that states none
abbrev pub no_doc_files : DocFiles
no_doc_files = record { blocks = 0; files = [] }
