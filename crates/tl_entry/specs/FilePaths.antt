-- The paths of an entry's files.
use Rattle.std.specs.Prelude.{ℕ, if◌then◌else◌, List, [], ◌∷◌, ◌++◌}
use Rattle.std.specs.List.{flat_map}
use Rattle.tl_entry.specs.Rising.{insert_by, has_key}
use Rattle.tl_entry.specs.Sections.{paths_of}
use Rattle.tl_entry.specs.declared.object.BinFiles.{BinFiles}
use Rattle.tl_entry.specs.declared.object.Object.{Object}

-- the paths of an entry's sections, one section after the other
abbrev pub listed_paths : Object → List (List ℕ)
listed_paths o = o.run.paths ++ (paths_of o.doc.files ++ (o.src.paths ++ flat_map (λ (bin : BinFiles). bin.paths) o.bin))

-- texts in the order of their bytes, with one more, unless it is there
abbrev pub with_text : List ℕ → List (List ℕ) → List (List ℕ)
with_text text texts = if has_key (λ t. t) text texts then texts else insert_by (λ t. t) text texts

-- some texts in the order of their bytes, each once
abbrev pub rising_of : List (List ℕ) → List (List ℕ)
rising_of [] = []
rising_of (text ∷ texts) = with_text text (rising_of texts)

-- the paths of an entry's files in the order of their bytes, each once
abbrev pub file_paths : Object → List (List ℕ)
file_paths o = rising_of (listed_paths o)
