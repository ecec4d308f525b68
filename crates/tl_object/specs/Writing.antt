-- The text of an entry.
use Rattle.std.specs.Prelude.{ℕ, ◌==◌, ◌&&◌, Bool, true, false, if◌then◌else◌, List, [], ◌∷◌, ◌++◌, codes, length, Option, Some, None}
use Rattle.std.specs.List.{flat_map}
use Rattle.tl_model.specs.Decimal.{decimal_text}
use Rattle.hex.specs.Hex.{encode_lower}
use Rattle.tl_path.specs.declared.kinds.Category.{Category}
use Rattle.tl_path.specs.declared.kinds.Category.TheVariants.{Package, TLCore, ConTeXt, Collection, Scheme}
use Rattle.tl_entry.specs.Parts.{FileEntry, FactEntry}
use Rattle.tl_entry.specs.declared.object.Container.{Container}
use Rattle.tl_entry.specs.declared.object.Files.{Files}
use Rattle.tl_entry.specs.declared.object.DocFiles.{DocFiles}
use Rattle.tl_entry.specs.declared.object.BinFiles.{BinFiles}
use Rattle.tl_entry.specs.declared.object.Object.{Object}

-- the line of a key and its value, with its end
unfoldable pub key_line : List ℕ → List ℕ → List ℕ
key_line key value = key ++ (32 ∷ value) ++ 10 ∷ []

-- the line of a key and a number
abbrev pub number_line : List ℕ → ℕ → List ℕ
number_line key n = key_line key (decimal_text n)

-- a value that is absent has no line
abbrev pub text_line : List ℕ → Option (List ℕ) → List ℕ
text_line key None = []
text_line key (Some text) = key_line key text

-- a line for each text
abbrev pub text_lines : List ℕ → List (List ℕ) → List ℕ
text_lines key texts = flat_map (key_line key) texts

-- the word of a category
abbrev pub category_word : Category → List ℕ
category_word Package = codes "Package"
category_word TLCore = codes "TLCore"
category_word ConTeXt = codes "ConTeXt"
category_word Collection = codes "Collection"
category_word Scheme = codes "Scheme"

-- the line of a size, which is left out where none is known
abbrev pub size_line : List ℕ → Option ℕ → List ℕ
size_line key None = []
size_line key (Some size) = number_line key size

-- a digest in lower case
abbrev pub digest_line : List ℕ → Option (List ℕ) → List ℕ
digest_line key None = []
digest_line key (Some digest) = key_line key (encode_lower digest)

-- the lines of a container: its size and its SHA-512
abbrev pub container_lines : List ℕ → List ℕ → Container → List ℕ
container_lines size_key digest_key container = size_line size_key container.size ++ digest_line digest_key container.digest

-- the line of a file without marks
unfoldable pub path_line : List ℕ → List ℕ
path_line path = (32 ∷ path) ++ 10 ∷ []

-- the text of a mark behind a file's path, as ` language="en"`
abbrev pub mark_text : List ℕ → Option (List ℕ) → List ℕ
mark_text word None = []
mark_text word (Some text) = (32 ∷ word) ++ text ++ 34 ∷ []

-- the line of a file with its marks: the details come before the language
unfoldable pub file_line : FileEntry → List ℕ
file_line file =
    (32 ∷ file.path) ++ mark_text (codes "details=\"") file.details ++ mark_text (codes "language=\"") file.language ++ 10 ∷ []

-- the line of a section, which states its size in blocks
unfoldable pub section_line : List ℕ → ℕ → List ℕ
section_line key blocks = key ++ codes " size=" ++ decimal_text blocks ++ 10 ∷ []

-- a section is written where it has files or blocks
abbrev pub files_lines : List ℕ → Files → List ℕ
files_lines key files =
    if files.blocks == 0 && length files.paths == 0 then [] else section_line key files.blocks ++ flat_map path_line files.paths

-- the lines of the documentation, which is written where it has files or blocks
abbrev pub doc_lines : DocFiles → List ℕ
doc_lines doc =
    if doc.blocks == 0 && length doc.files == 0 then [] else section_line (codes "docfiles") doc.blocks ++ flat_map file_line doc.files

-- the line of a section of binaries
unfoldable pub bin_line : List ℕ → ℕ → List ℕ
bin_line platform blocks = codes "binfiles arch=" ++ section_line platform blocks

-- the lines of a section of binaries
abbrev pub bin_lines : BinFiles → List ℕ
bin_lines bin = bin_line bin.platform bin.blocks ++ flat_map path_line bin.paths

-- the line of a fact
unfoldable pub fact_line : FactEntry → List ℕ
fact_line fact = codes "catalogue-" ++ fact.key ++ (32 ∷ fact.value) ++ 10 ∷ []

-- a relocated entry is told so, and another one has no line
unfoldable pub relocated_line : Bool → List ℕ
relocated_line false = []
relocated_line true = codes "relocated 1\n"

-- name, category, revision, catalogue, short description and whether the entry is relocated
unfoldable pub first_lines : Object → List ℕ
first_lines o =
    key_line (codes "name") o.name ++ key_line (codes "category") (category_word o.category) ++ number_line (codes "revision") o.revision
    ++ text_line (codes "catalogue") o.catalogue ++ text_line (codes "shortdesc") o.shortdesc ++ relocated_line o.relocated

-- the descriptions, depends, executes and postactions
unfoldable pub middle_lines : Object → List ℕ
middle_lines o =
    text_lines (codes "longdesc") o.longdesc ++ text_lines (codes "depend") o.depends ++ text_lines (codes "execute") o.executes
    ++ text_lines (codes "postaction") o.postactions

-- the containers and the files
unfoldable pub file_lines : Object → List ℕ
file_lines o =
    container_lines (codes "containersize") (codes "containerchecksum") o.run_box
    ++ container_lines (codes "doccontainersize") (codes "doccontainerchecksum") o.doc_box ++ doc_lines o.doc
    ++ container_lines (codes "srccontainersize") (codes "srccontainerchecksum") o.src_box ++ files_lines (codes "srcfiles") o.src
    ++ files_lines (codes "runfiles") o.run ++ flat_map bin_lines o.bin

-- the text of an entry
abbrev pub object_text : Object → List ℕ
object_text o = first_lines o ++ middle_lines o ++ file_lines o ++ flat_map fact_line o.catalogue_facts
