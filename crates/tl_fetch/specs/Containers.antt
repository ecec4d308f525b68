-- The containers of a repository: their format and their names, and what an entry says of that of a part.
use Rattle.std.specs.Prelude.{ℕ, ◌++◌, Bool, true, false, codes, List, [], Option, Some, None, unwrap_or}
use Rattle.std.specs.List.{flat_map, list_any}
use Rattle.std.specs.Str.{bytes_eq}
use Rattle.tl_model.specs.Decimal.{decimal_text}
use Rattle.tl_model.specs.Devices.{ShelfSeen, in_repository}
use Rattle.tl_entry.specs.FilePaths.{rising_of}
use Rattle.tl_entry.specs.Sections.{paths_of}
use Rattle.tl_entry.specs.declared.object.BinFiles.{BinFiles}
use Rattle.tl_entry.specs.declared.object.Container.{Container}
use Rattle.tl_entry.specs.declared.object.Object.{Object}
use Rattle.tl_db.specs.declared.repo.Repo.{Repo}
use Rattle.tl_db.specs.Entries.{entry_of}
use Rattle.tl_db.specs.Options.{first_after}
use Rattle.tl_fetch.specs.declared.container.ContainerPart.{ContainerPart}
use Rattle.tl_fetch.specs.declared.container.ContainerPart.TheVariants.{Run, Doc, Src}

-- what an entry depends on; nothing where there is none
abbrev pub depends_in : Option Object → List (List ℕ)
depends_in None = []
depends_in (Some entry) = entry.depends

-- the depends of the entry that configures a repository
abbrev pub config_depends : List Object → List (List ℕ)
config_depends db = depends_in (entry_of (codes "00texlive.config") db)

-- the format of a repository's containers; an empty one where it names none
abbrev pub container_format : List Object → List ℕ
container_format db = unwrap_or (first_after (codes "container_format/") (config_depends db)) []

-- whether the names of a repository's containers say the revision
abbrev pub is_by_revision : List Object → Bool
is_by_revision db = list_any (bytes_eq (codes "container_names/revision")) (config_depends db)

-- how the name of a container of a part ends
abbrev pub part_suffix : ContainerPart → List ℕ
part_suffix Run = codes ".tlc"
part_suffix Doc = codes ".doc.tlc"
part_suffix Src = codes ".source.tlc"

-- what a container's name says of the revision
abbrev pub revision_mark : Bool → ℕ → List ℕ
revision_mark true revision = codes ".r" ++ decimal_text revision
revision_mark false revision = []

-- the name of the container of a part of a package
abbrev pub container_name : List Object → Object → ContainerPart → List ℕ
container_name db entry part = codes "archive/" ++ (entry.name ++ (revision_mark (is_by_revision db) entry.revision ++ part_suffix part))

-- what an entry says of the container of a part
abbrev pub box_of : Object → ContainerPart → Container
box_of entry Run = entry.run_box
box_of entry Doc = entry.doc_box
box_of entry Src = entry.src_box

-- the paths of an entry that a part has, one section after the other
abbrev pub part_listed : Object → ContainerPart → List (List ℕ)
part_listed entry Run = entry.run.paths ++ flat_map (λ (bin : BinFiles). bin.paths) entry.bin
part_listed entry Doc = paths_of entry.doc.files
part_listed entry Src = entry.src.paths

-- the paths that the container of a part has to hold, in the order of their bytes
abbrev pub part_paths : Object → ContainerPart → List (List ℕ)
part_paths entry part = rising_of (part_listed entry part)

-- what a shelf holds as the container of a part of a package of a repository; None where it is absent
abbrev pub container_in : ShelfSeen → Repo → Object → ContainerPart → Option (List ℕ)
container_in shelf repo entry part = in_repository shelf repo.number (container_name repo.db entry part)
