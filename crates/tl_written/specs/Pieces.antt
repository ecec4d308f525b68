-- The pieces of an entry's text.
use Rattle.std.specs.Prelude.{◌≡◌, ℕ, ◌==◌, ◌&&◌, ◌||◌, ◌⊎◌, Bool, true, false, nat_le, List, [], ◌∷◌, ◌++◌, codes, length, fold, Option, None, IfSome, All}
use Rattle.tl_path.specs.declared.kinds.Category.{Category}
use Rattle.tl_path.specs.declared.kinds.Category.TheVariants.{Package}
use Rattle.tl_path.specs.Path.{IsPath}
use Rattle.tl_entry.specs.Parts.{FileEntry}
use Rattle.tl_entry.specs.Sections.{no_files, no_doc_files}
use Rattle.tl_entry.specs.declared.object.Object.{Object}
use Rattle.tl_entry.specs.declared.object.BinFiles.{BinFiles}
use Rattle.tl_object.specs.Again.{ReadsAgain}
use Rattle.tl_object.specs.Formed.{IsMark, IsFormedFile, IsFormedBin, IsFormedFact, HasFormedFront, HasFormedTexts, HasFormedFiles}
use Rattle.tl_object.specs.Writing.{path_line, mark_text, file_line, bin_lines, fact_line, first_lines, middle_lines, file_lines, object_text, category_word}
use Rattle.tl_written.specs.Stands.{Stands, AllStand}
use Rattle.tl_written.specs.Rises.{RiseAtFront, OneStands}

-- an entry of which nothing is known
abbrev pub blank : Object
blank = record {
  name = [];
  category = Package;
  revision = 0;
  catalogue = None;
  shortdesc = None;
  relocated = false;
  longdesc = [];
  depends = [];
  executes = [];
  postactions = [];
  run_box = record { size = None; digest = None };
  doc_box = record { size = None; digest = None };
  src_box = record { size = None; digest = None };
  doc = no_doc_files;
  src = no_files;
  run = no_files;
  bin = [];
  catalogue_facts = [];
}

-- whether a byte is a digit of a number in base 16, in lower case
abbrev pub is_lower_digit : ℕ → Bool
is_lower_digit b = (nat_le 48 b && nat_le b 57) || (nat_le 97 b && nat_le b 102)

-- whether bytes are a SHA-512 in lower case
abbrev pub is_digest_text : List ℕ → Bool
is_digest_text bytes = (length bytes == 128) && fold (λ all byte. all && is_lower_digit byte) true bytes

-- the text of a mark that may be absent stands at the front of a line, and then a rest
pub record MarkStands (word line rest : List ℕ) : Type 0 where
  pub mark : Option (List ℕ)
  pub same : line ≡ mark_text word mark ++ rest
  pub is : IfSome mark IsMark

-- a category's word
abbrev pub IsCategory : List ℕ → Type 0
IsCategory word = (category : Category) × (category_word category ≡ word)

-- the lines of paths that rise stand at the front of a text
abbrev pub PathsStand : List ℕ → List ℕ → Type 0
PathsStand text rest = RiseAtFront (λ (path : List ℕ). path) path_line IsPath text rest

-- the lines of documentation files whose paths rise stand at the front of a text
abbrev pub DocFilesStand : List ℕ → List ℕ → Type 0
DocFilesStand text rest = RiseAtFront (λ (file : FileEntry). file.path) file_line IsFormedFile text rest

-- the line of a documentation file with this path stands at the front of a text
abbrev pub DocFileStands : List ℕ → List ℕ → List ℕ → Type 0
DocFileStands path text rest = OneStands (λ (file : FileEntry). file.path) file_line IsFormedFile path text rest

-- the lines of the binaries for this platform stand at the front of a text
abbrev pub BinStands : List ℕ → List ℕ → List ℕ → Type 0
BinStands platform text rest = OneStands (λ (bin : BinFiles). bin.platform) bin_lines IsFormedBin platform text rest

-- the lines of binaries whose platforms rise stand at the front of a text
abbrev pub BinsStand : List ℕ → List ℕ → Type 0
BinsStand text rest = RiseAtFront (λ (bin : BinFiles). bin.platform) bin_lines IsFormedBin text rest

-- the first lines of an entry with this name stand at the front of a text
abbrev pub FirstStand : List ℕ → List ℕ → List ℕ → Type 0
FirstStand name text rest = Stands first_lines (λ (o : Object). HasFormedFront o × (o.name ≡ name)) text rest

-- the middle lines of an entry stand at the front of a text
abbrev pub MiddleStand : List ℕ → List ℕ → Type 0
MiddleStand text rest = Stands middle_lines HasFormedTexts text rest

-- the lines of the containers and files of an entry stand at the front of a text
abbrev pub FilesStand : List ℕ → List ℕ → Type 0
FilesStand text rest = Stands file_lines HasFormedFiles text rest

-- the lines of facts stand at the front of a text
abbrev pub FactsStand : List ℕ → List ℕ → Type 0
FactsStand text rest = AllStand fact_line IsFormedFact text rest

-- the parts of an entry have their forms
pub record IsFormed (o : Object) : Type 0 where
  pub front : HasFormedFront o
  pub texts : HasFormedTexts o
  pub files : HasFormedFiles o
  pub facts : All IsFormedFact o.catalogue_facts

-- an entry whose parts have their forms, and which reads as itself again
pub record IsEntry (o : Object) : Type 0 where
  pub again : ReadsAgain o
  pub formed : IsFormed o

-- an entry with this name stands at the front of a text as it is written, and reads as itself again
abbrev pub EntryStands : List ℕ → List ℕ → List ℕ → Type 0
EntryStands name text rest = OneStands (λ (o : Object). o.name) object_text IsEntry name text rest

-- a text is empty or begins with a space
abbrev pub BeginsAtSpace : List ℕ → Type 0
BeginsAtSpace text = (text ≡ []) ⊎ ((more : List ℕ) × (text ≡ 32 ∷ more))

-- how the lines behind the first ones don't begin
abbrev pub first_words : List (List ℕ)
first_words = codes "catalogue " ∷ codes "shortdesc " ∷ codes "relocated 1\n" ∷ []

-- how the lines behind an entry's texts don't begin
abbrev pub middle_words : List (List ℕ)
middle_words = codes "longdesc " ∷ codes "depend " ∷ codes "execute " ∷ codes "postaction " ∷ []

-- how the lines behind an entry's containers and files don't begin
abbrev pub file_words : List (List ℕ)
file_words =
    codes " " ∷ codes "containersize " ∷ codes "containerchecksum " ∷ codes "doccontainersize " ∷ codes "doccontainerchecksum " ∷ codes "docfiles size="
    ∷ codes "srccontainersize " ∷ codes "srccontainerchecksum " ∷ codes "srcfiles size=" ∷ codes "runfiles size=" ∷ codes "binfiles arch=" ∷ []
