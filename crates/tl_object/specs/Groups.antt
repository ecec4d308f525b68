-- The lines of an entry in groups, and what they say together.
use Rattle.std.specs.Prelude.{ℕ, Bool, true, false, if◌then◌else◌, List, [], fold, Option, Some, None, is_some, unwrap_or}
use Rattle.std.specs.List.{filter_map}
use Rattle.tl_path.specs.declared.kinds.Category.{Category}
use Rattle.tl_path.specs.declared.kinds.Category.TheVariants.{Package}
use Rattle.tl_entry.specs.Parts.{FileEntry, FactEntry}
use Rattle.tl_entry.specs.Rising.{insert_by, has_key}
use Rattle.tl_entry.specs.Sections.{paths_of, no_files, no_doc_files}
use Rattle.tl_object.specs.declared.key.Part.{Part}
use Rattle.tl_object.specs.declared.key.Part.TheVariants.{Run, Doc, Src}
use Rattle.tl_object.specs.declared.head.Head.{Head}
use Rattle.tl_object.specs.declared.head.Head.TheVariants as heads
use Rattle.tl_entry.specs.declared.object.Container.{Container}
use Rattle.tl_entry.specs.declared.object.Files.{Files}
use Rattle.tl_entry.specs.declared.object.DocFiles.{DocFiles}
use Rattle.tl_entry.specs.declared.object.BinFiles.{BinFiles}
use Rattle.tl_entry.specs.declared.object.Object.{Object}

-- a line that is no file's, with the files of the lines of files that directly follow it, in rising order of their paths
pub record Group : Type 0 where
  pub head : Head
  pub files : List FileEntry

-- what a group says where it has a value, else what those before it said
abbrev pub latest : {A : Type 0} → Option A → Option A → Option A
latest None before = before
latest (Some x) before = Some x

-- the value of the only group that has one; of several groups that of the last
abbrev pub only : {A : Type 0} → (Group → Option A) → List Group → Option A
only value groups = fold (λ before group. latest (value group) before) None groups

-- the values of the groups that have one, in order
abbrev pub every : {A : Type 0} → (Group → Option A) → List Group → List A
every value groups = filter_map value groups

-- whether two parts of a package are one
abbrev pub same_part : Part → Part → Bool
same_part Run Run = true
same_part Doc Doc = true
same_part Src Src = true
same_part other another = false

-- the name that a line states; None where it states another thing
abbrev pub name_in : Head → Option (List ℕ)
name_in (heads.Name x) = Some x
name_in other = None

-- the name that a group states
abbrev pub name_of : Group → Option (List ℕ)
name_of group = name_in group.head

-- the category that a line states
abbrev pub category_in : Head → Option Category
category_in (heads.Category x) = Some x
category_in other = None

-- the category that a group states
abbrev pub category_of : Group → Option Category
category_of group = category_in group.head

-- the revision that a line states
abbrev pub revision_in : Head → Option ℕ
revision_in (heads.Revision x) = Some x
revision_in other = None

-- the revision that a group states
abbrev pub revision_of : Group → Option ℕ
revision_of group = revision_in group.head

-- the name in the catalogue that a line states
abbrev pub catalogue_in : Head → Option (List ℕ)
catalogue_in (heads.Catalogue x) = Some x
catalogue_in other = None

-- the name in the catalogue that a group states
abbrev pub catalogue_of : Group → Option (List ℕ)
catalogue_of group = catalogue_in group.head

-- the short description that a line states
abbrev pub shortdesc_in : Head → Option (List ℕ)
shortdesc_in (heads.Shortdesc x) = Some x
shortdesc_in other = None

-- the short description that a group states
abbrev pub shortdesc_of : Group → Option (List ℕ)
shortdesc_of group = shortdesc_in group.head

-- whether the entry is relocated, as a line states it
abbrev pub relocated_in : Head → Option Bool
relocated_in (heads.Relocated x) = Some x
relocated_in other = None

-- whether the entry is relocated, as a group states it
abbrev pub relocated_of : Group → Option Bool
relocated_of group = relocated_in group.head

-- the line of the long description that a line states
abbrev pub longdesc_in : Head → Option (List ℕ)
longdesc_in (heads.Longdesc x) = Some x
longdesc_in other = None

-- the line of the long description that a group states
abbrev pub longdesc_of : Group → Option (List ℕ)
longdesc_of group = longdesc_in group.head

-- the depend that a line states
abbrev pub depend_in : Head → Option (List ℕ)
depend_in (heads.Depend x) = Some x
depend_in other = None

-- the depend that a group states
abbrev pub depend_of : Group → Option (List ℕ)
depend_of group = depend_in group.head

-- the execute that a line states
abbrev pub execute_in : Head → Option (List ℕ)
execute_in (heads.Execute x) = Some x
execute_in other = None

-- the execute that a group states
abbrev pub execute_of : Group → Option (List ℕ)
execute_of group = execute_in group.head

-- the postaction that a line states
abbrev pub postaction_in : Head → Option (List ℕ)
postaction_in (heads.Postaction x) = Some x
postaction_in other = None

-- the postaction that a group states
abbrev pub postaction_of : Group → Option (List ℕ)
postaction_of group = postaction_in group.head

-- the fact of the catalogue that a line states
abbrev pub fact_in : Head → Option FactEntry
fact_in (heads.Fact x) = Some x
fact_in other = None

-- the fact of the catalogue that a group states
abbrev pub fact_of : Group → Option FactEntry
fact_of group = fact_in group.head

-- the size of a part's container that a line states
abbrev pub size_in : Part → Head → Option ℕ
size_in part (heads.Size own x) = if same_part own part then Some x else None
size_in part other = None

-- the size of a part's container that a group states
abbrev pub size_of : Part → Group → Option ℕ
size_of part group = size_in part group.head

-- the SHA-512 of a part's container that a line states
abbrev pub digest_in : Part → Head → Option (List ℕ)
digest_in part (heads.Digest own x) = if same_part own part then Some x else None
digest_in part other = None

-- the SHA-512 of a part's container that a group states
abbrev pub digest_of : Part → Group → Option (List ℕ)
digest_of part group = digest_in part group.head

-- what is known of a part's container
abbrev pub container : Part → List Group → Container
container part groups = record { size = only (size_of part) groups; digest = only (digest_of part) groups }

-- a part's section that a line begins, with the paths of these files
abbrev pub files_in : Part → Head → List FileEntry → Option Files
files_in part (heads.Files own blocks) files = if same_part own part then Some (record { blocks = blocks; paths = paths_of files }) else None
files_in part other files = None

-- a part's section that a group is
abbrev pub files_of : Part → Group → Option Files
files_of part group = files_in part group.head group.files

-- the section of documentation that a line begins, with these files
abbrev pub doc_in : Head → List FileEntry → Option DocFiles
doc_in (heads.Files Doc blocks) files = Some (record { blocks = blocks; files = files })
doc_in other files = None

-- the section of documentation that a group is
abbrev pub doc_of : Group → Option DocFiles
doc_of group = doc_in group.head group.files

-- the section of binaries that a line begins, with the paths of these files
abbrev pub bin_in : Head → List FileEntry → Option BinFiles
bin_in (heads.Binfiles platform blocks) files = Some (record { platform = platform; blocks = blocks; paths = paths_of files })
bin_in other files = None

-- some sections of binaries and one more, where there is one, in its place
abbrev pub with_bin : Option BinFiles → List BinFiles → List BinFiles
with_bin None bins = bins
with_bin (Some bin) bins = insert_by (λ (b : BinFiles). b.platform) bin bins

-- the sections of binaries, in rising order of their platforms
abbrev pub bins : List Group → List BinFiles
bins groups = fold (λ before group. with_bin (bin_in group.head group.files) before) [] groups

-- the entry that some groups say
abbrev pub object_of : List Group → Object
object_of groups = record {
  name = unwrap_or (only name_of groups) [];
  category = unwrap_or (only category_of groups) Package;
  revision = unwrap_or (only revision_of groups) 0;
  catalogue = only catalogue_of groups;
  shortdesc = only shortdesc_of groups;
  relocated = unwrap_or (only relocated_of groups) false;
  longdesc = every longdesc_of groups;
  depends = every depend_of groups;
  executes = every execute_of groups;
  postactions = every postaction_of groups;
  run_box = container Run groups;
  doc_box = container Doc groups;
  src_box = container Src groups;
  doc = unwrap_or (only doc_of groups) no_doc_files;
  src = unwrap_or (only (files_of Src) groups) no_files;
  run = unwrap_or (only (files_of Run) groups) no_files;
  bin = bins groups;
  catalogue_facts = every fact_of groups;
}

-- whether what a line says stands in these groups already, where it may stand once
abbrev pub is_repeated : List Group → Head → Bool
is_repeated groups (heads.Name x) = is_some (only name_of groups)
is_repeated groups (heads.Category x) = is_some (only category_of groups)
is_repeated groups (heads.Revision x) = is_some (only revision_of groups)
is_repeated groups (heads.Catalogue x) = is_some (only catalogue_of groups)
is_repeated groups (heads.Shortdesc x) = is_some (only shortdesc_of groups)
is_repeated groups (heads.Relocated x) = is_some (only relocated_of groups)
is_repeated groups (heads.Size part x) = is_some (only (size_of part) groups)
is_repeated groups (heads.Digest part x) = is_some (only (digest_of part) groups)
is_repeated groups (heads.Files Doc x) = is_some (only doc_of groups)
is_repeated groups (heads.Files Src x) = is_some (only (files_of Src) groups)
is_repeated groups (heads.Files Run x) = is_some (only (files_of Run) groups)
is_repeated groups (heads.Binfiles platform x) = has_key (λ (b : BinFiles). b.platform) platform (bins groups)
is_repeated groups other = false
