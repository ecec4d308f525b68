-- The entries that a source stands for.
use Rattle.std.specs.Prelude.{ℕ, ◌+◌, ◌/◌, false, if◌then◌else◌, List, [], ◌∷◌, ◌++◌, map, min, codes, bytes_eq, Some, None, Result, Ok}
use Rattle.std.specs.List.{list_any, sum_by}
use Rattle.tl_model.specs.Devices.{Verdicts}
use Rattle.tl_path.specs.Names.{is_name}
use Rattle.tl_entry.specs.Copies.{no_container}
use Rattle.tl_entry.specs.Parts.{FileEntry}
use Rattle.tl_entry.specs.Sections.{no_files, no_doc_files}
use Rattle.tl_entry.specs.declared.object.BinFiles.{BinFiles}
use Rattle.tl_entry.specs.declared.object.DocFiles.{DocFiles}
use Rattle.tl_entry.specs.declared.object.Files.{Files}
use Rattle.tl_entry.specs.declared.object.Object.{Object}
use Rattle.tl_index.specs.declared.hit.Hit.{Hit}
use Rattle.tl_index.specs.Entries.{path_of}
use Rattle.tl_srctext.specs.declared.fields.SourceFields.{SourceFields}
use Rattle.tl_auto.specs.declared.error.AutoError.{AutoError}
use Rattle.tl_expand.specs.declared.choice.Choice.{Choice}
use Rattle.tl_expand.specs.declared.choice.Stamp.{Stamp}
use Rattle.tl_expand.specs.Choices.{with_answer, choice_in, has_binaries, living, revision_of}

-- the blocks of 4,096 bytes of a file
abbrev pub file_blocks : Hit → ℕ
file_blocks hit = (hit.leaf.size + 4095) / 4096

-- those of some files, or the greatest number of blocks that can be kept, whichever is less
abbrev pub blocks_of : List Hit → ℕ
blocks_of hits = min (sum_by file_blocks hits) 18446744073709551615

-- the paths of the files that are there
abbrev pub living_paths : List Hit → List (List ℕ)
living_paths hits = map path_of (living hits)

-- a section with the files that are there
abbrev pub files_of : List Hit → Files
files_of hits = record { blocks = blocks_of (living hits); paths = living_paths hits }

-- a documentation file without details
abbrev pub plain_file : List ℕ → FileEntry
plain_file path = record { path = path; details = None; language = None }

-- the same section of documentation
abbrev pub doc_files_of : List Hit → DocFiles
doc_files_of hits = record { blocks = blocks_of (living hits); files = map plain_file (living_paths hits) }

-- a platform's binaries, if any is there
abbrev pub bin_files_of : List ℕ → List Hit → List BinFiles
bin_files_of platform hits = bins_with platform (blocks_of (living hits)) (living_paths hits)
  where
    bins_with : List ℕ → ℕ → List (List ℕ) → List BinFiles
    bins_with platform blocks [] = []
    bins_with platform blocks (path ∷ paths) = record { platform = platform; blocks = blocks; paths = path ∷ paths } ∷ []

-- the depend that stands for the parts of a package
abbrev pub arch_depend : List ℕ → List ℕ
arch_depend name = name ++ codes ".ARCH"

-- texts with one more at the end, unless it is among them
abbrev pub with_last : List ℕ → List (List ℕ) → List (List ℕ)
with_last text texts = if list_any (λ t. bytes_eq t text) texts then texts else texts ++ text ∷ []

-- the depends of a source's package
abbrev pub depends_of : SourceFields → List (List ℕ)
depends_of source = if has_binaries source then with_last (arch_depend source.name) source.depends else source.depends

-- the entry of the package itself
abbrev pub package_of : SourceFields → ℕ → Choice → Object
package_of source revision choice = record {
  name = source.name;
  category = source.category;
  revision = revision;
  catalogue = source.catalogue;
  shortdesc = source.shortdesc;
  relocated = false;
  longdesc = source.longdesc;
  depends = depends_of source;
  executes = source.executes;
  postactions = source.postactions;
  run_box = no_container;
  doc_box = no_container;
  src_box = no_container;
  doc = doc_files_of choice.doc;
  src = files_of choice.src;
  run = files_of choice.run;
  bin = [];
  catalogue_facts = [];
}

-- the name of a package's part for a platform
abbrev pub part_name : List ℕ → List ℕ → List ℕ
part_name name platform = name ++ 46 ∷ platform

-- the entry of a package's part for a platform
abbrev pub part_of : SourceFields → ℕ → List ℕ → List Hit → Object
part_of source revision platform hits = record {
  name = part_name source.name platform;
  category = source.category;
  revision = revision;
  catalogue = None;
  shortdesc = Some (platform ++ codes " files of " ++ source.name);
  relocated = false;
  longdesc = [];
  depends = [];
  executes = [];
  postactions = [];
  run_box = no_container;
  doc_box = no_container;
  src_box = no_container;
  doc = no_doc_files;
  src = no_files;
  run = no_files;
  bin = bin_files_of platform hits;
  catalogue_facts = [];
}

-- the part for a platform, if its name is one
abbrev pub part_if_named : SourceFields → ℕ → List ℕ → List Hit → List Object
part_if_named source revision platform hits =
    if is_name (part_name source.name platform) then part_of source revision platform hits ∷ [] else []

-- the parts for some platforms, with the files of each
abbrev pub parts_of : SourceFields → ℕ → List (List ℕ) → List (List Hit) → List Object
parts_of source revision [] bins = []
parts_of source revision (platform ∷ platforms) [] = []
parts_of source revision (platform ∷ platforms) (hits ∷ bins) =
    part_if_named source revision platform hits ++ parts_of source revision platforms bins

-- the entries of a source, by what its sections choose: the package's own and its parts in the order of the platforms
abbrev pub objects_by : SourceFields → Stamp → List (List ℕ) → Choice → List Object
objects_by source stamp platforms choice =
    package_of source (revision_of source stamp choice) choice ∷ parts_of source (revision_of source stamp choice) platforms choice.bins

-- the entries of a source over the files of an index, or the first fault of its patterns
unfoldable pub objects_of : Verdicts → SourceFields → Stamp → List Hit → List (List ℕ) → Result (List Object) AutoError
objects_of verdicts source stamp index platforms = with_answer (λ choice. Ok (objects_by source stamp platforms choice)) (choice_in verdicts source platforms index)
