-- The containers that a database names.
use Rattle.std.specs.Prelude.{ℕ, ◌==◌, ◌&&◌, ◌||◌, ◌++◌, not, nat_lt, Bool, if◌then◌else◌, codes, List, [], ◌∷◌, length, Option, Some, None, is_some, Result, Ok, Err, nat_eq}
use Rattle.std.specs.List.{starts_with}
use Rattle.std.specs.Str.{bytes_eq}
use Rattle.tl_model.specs.Volume.{Name}
use Rattle.tl_kind.specs.Quantities.{limit_of}
use Rattle.tl_kind.specs.declared.quantity.What.TheVariants.{Database, Frame, Packages}
use Rattle.tl_entry.specs.Rising.{has_key, insert_by}
use Rattle.tl_entry.specs.declared.object.Container.{Container}
use Rattle.tl_entry.specs.declared.object.Object.{Object}
use Rattle.tl_db.specs.Reading.{Fault, db_of}
use Rattle.tl_fetch.specs.Containers.{box_of, container_format, container_name}
use Rattle.tl_fetch.specs.declared.container.ContainerPart.{ContainerPart}
use Rattle.tl_fetch.specs.declared.container.ContainerPart.TheVariants.{Run, Doc, Src}
use Rattle.tl_copying.specs.declared.demand.Demand.{Demand}
use Rattle.tl_copying.specs.declared.error.CopyError.{CopyError}
use Rattle.tl_copying.specs.declared.error.CopyError.TheVariants.{RepoDatabase, ContainerFormat, NoContainer, TooLarge}

-- whether a container of this size and digest is what is stated
abbrev pub is_met : ℕ → List ℕ → Demand → Bool
is_met size digest demand = demand.size == size && bytes_eq demand.digest digest

-- whether a container has what is stated, where it is the one that is named
abbrev pub suits : Name → ℕ → List ℕ → Demand → Bool
suits name size digest demand = not (bytes_eq demand.name name) || is_met size digest demand

-- what comes behind a value, or the error that came before it
abbrev pub onward : {X Y : Type 0} → Result X CopyError → (X → Result Y CopyError) → Result Y CopyError
onward (Ok x) next = next x
onward (Err error) next = Err error

-- the containers that were named: each once, by the first that named it, in the order of their names; and those that named one of them again
pub record Named : Type 0 where
  pub first : List Demand
  pub again : List Demand

-- none was named
abbrev pub unnamed : Named
unnamed = record { first = []; again = [] }

-- the containers that were named, with one more
abbrev pub with_demand : Demand → Named → Named
with_demand demand named =
    if has_key (λ (d : Demand). d.name) demand.name named.first then record { first = named.first; again = named.again ++ demand ∷ [] }
    else record { first = insert_by (λ (d : Demand). d.name) demand named.first; again = named.again }

-- whether an entry says something of a container
abbrev pub is_stated : Container → Bool
is_stated box = is_some box.size || is_some box.digest

-- the container of a name, of which a package states this; or why it can't be copied
abbrev pub demand_both : Name → List ℕ → Option ℕ → Option (List ℕ) → Result Demand CopyError
demand_both name owner (Some size) (Some digest) =
    if nat_lt (limit_of Frame) size then Err (TooLarge Frame (limit_of Frame)) else Ok (record { name = name; size = size; digest = digest })
demand_both name owner (Some size) None = Err (NoContainer owner)
demand_both name owner None digest = Err (NoContainer owner)

-- the container of a part of a package of a repository; or why it can't be copied
abbrev pub demand_of : List Object → Object → ContainerPart → Result Demand CopyError
demand_of db entry part =
    if bytes_eq (container_format db) (codes "frame") then demand_both (container_name db entry part) entry.name (box_of entry part).size (box_of entry part).digest
    else Err (ContainerFormat (container_format db))

-- the containers that were named, with that of a part of a package, of which its entry says something
abbrev pub with_container : List Object → Object → ContainerPart → Named → Result Named CopyError
with_container db entry part named =
    if is_stated (box_of entry part) then onward (demand_of db entry part) (λ demand. Ok (with_demand demand named)) else Ok named

-- whether the entry of a name is none of a package, and names no container
abbrev pub names_none : List ℕ → Bool
names_none name = starts_with nat_eq name (codes "00texlive")

-- the containers that were named, with those of a package
abbrev pub with_package : List Object → Object → Named → Result Named CopyError
with_package db entry named =
    if names_none entry.name then Ok named
    else onward (with_container db entry Run named) (λ run. onward (with_container db entry Doc run) (λ doc. with_container db entry Src doc))

-- the containers that were named, with those of packages one after the other
abbrev pub with_packages : List Object → List Object → Named → Result Named CopyError
with_packages db [] named = Ok named
with_packages db (entry ∷ entries) named = onward (with_package db entry named) (λ more. with_packages db entries more)

-- the containers that a database names; or the first that can't be copied
abbrev pub containers_of : List Object → Result Named CopyError
containers_of db = with_packages db db unnamed

-- entries that are no more than a database may have
abbrev pub entries_allowed : Result (List Object) Fault → Result (List Object) CopyError
entries_allowed (Ok entries) = if nat_lt (limit_of Packages) (length entries) then Err (TooLarge Packages (limit_of Packages)) else Ok entries
entries_allowed (Err fault) = Err (RepoDatabase fault.0 fault.1)

-- the entries of a database's text; or why it doesn't read
abbrev pub entries_in : List ℕ → Result (List Object) CopyError
entries_in text = if nat_lt (limit_of Database) (length text) then Err (TooLarge Database (limit_of Database)) else entries_allowed (db_of text)

-- the containers that a database's text names; or why it can't be copied
abbrev pub containers_in : List ℕ → Result Named CopyError
containers_in text = onward (entries_in text) containers_of
