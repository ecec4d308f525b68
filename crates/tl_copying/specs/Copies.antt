-- The copying of a repository: what is wanted, and what comes of what is seen.
use Rattle.std.specs.Prelude.{ℕ, ◌+◌, ◌-◌, ◌==◌, ◌&&◌, Bool, false, if◌then◌else◌, List, Option, Some, None, Result, Ok, slice_get}
use Rattle.std.specs.List.{list_all}
use Rattle.std.specs.Str.{bytes_eq}
use Rattle.sha2.specs.Sha512.{sha512}
use Rattle.tl_model.specs.Volume.{Name}
use Rattle.tl_repo.specs.Files.{database_name, digest_in, digest_name}
use Rattle.tl_copying.specs.Demands.{Named, onward, suits, is_met, containers_in}
use Rattle.tl_copying.specs.declared.copying.Copying.{Copying}
use Rattle.tl_copying.specs.declared.copying.Seen.{Seen}
use Rattle.tl_copying.specs.declared.copying.Seen.TheVariants as saw
use Rattle.tl_copying.specs.declared.copying.Want.{Want}
use Rattle.tl_copying.specs.declared.copying.Want.TheVariants as wants
use Rattle.tl_copying.specs.declared.demand.Demand.{Demand}
use Rattle.tl_copying.specs.declared.error.CopyError.{CopyError}
use Rattle.tl_copying.specs.declared.stage.Manifest.{Manifest}
use Rattle.tl_copying.specs.declared.stage.Stage.{Stage}
use Rattle.tl_copying.specs.declared.stage.Stage.TheVariants.{Database, Digest, Containers, Spent}
use Rattle.tl_copying.specs.declared.stage.Turn.{Turn}
use Rattle.tl_copying.specs.declared.stage.Turn.TheVariants.{On, Ended}

-- nothing was read, and seven rounds may begin behind the first one
abbrev pub new_copy : Copying
new_copy = record { more = 7; stage = Database }

-- what is wanted of containers, the next of which is this one
abbrev pub container_want : Option Demand → Want
container_want (Some demand) = wants.Container demand.name demand.size
container_want None = wants.Whole

-- what is wanted by a round that has come so far
abbrev pub want_at : Stage → Want
want_at Database = wants.Database
want_at (Digest database) = wants.Digest
want_at (Containers manifest place) = container_want (slice_get manifest.containers place)
want_at (Spent name) = wants.Spent name

-- what a copy wants to be read next
abbrev pub want_of : Copying → Want
want_of copying = want_at copying.stage

-- what is to be copied, once it is known
abbrev pub manifest_in : Stage → Option Manifest
manifest_in Database = None
manifest_in (Digest database) = None
manifest_in (Containers manifest place) = Some manifest
manifest_in (Spent name) = None

-- what is to be copied of a repository with this database and digest file, where the database names these containers
abbrev pub manifest_of : List ℕ → List ℕ → Named → Manifest
manifest_of database digest named = record { database = database; digest = digest; containers = named.first; again = named.again }

-- what comes of what was seen where the database is wanted
abbrev pub turned_database : Seen → Turn
turned_database (saw.Text database) = On (Digest database)
turned_database (saw.Container size digest) = Ended database_name
turned_database saw.Gone = Ended database_name

-- what comes of a database and a digest file that agree
abbrev pub turned_agreed : List ℕ → List ℕ → Result Turn CopyError
turned_agreed database digest = onward (containers_in database) (λ named. Ok (On (Containers (manifest_of database digest named) 0)))

-- what comes of a database and a digest file that states this
abbrev pub turned_stated : Option (List ℕ) → List ℕ → List ℕ → Result Turn CopyError
turned_stated None database digest = Ok (Ended digest_name)
turned_stated (Some want) database digest = if bytes_eq (sha512 database) want then turned_agreed database digest else Ok (Ended database_name)

-- what comes of a database and a digest file
abbrev pub turned_files : List ℕ → List ℕ → Result Turn CopyError
turned_files database digest = turned_stated (digest_in digest) database digest

-- what comes of what was seen where the digest file is wanted
abbrev pub turned_digest : List ℕ → Seen → Result Turn CopyError
turned_digest database (saw.Text digest) = turned_files database digest
turned_digest database (saw.Container size digest) = Ok (Ended digest_name)
turned_digest database saw.Gone = Ok (Ended digest_name)

-- whether what was seen has the size and digest that a container is to have, by each entry that names it
abbrev pub meets : Manifest → Demand → Seen → Bool
meets manifest demand (saw.Text text) = false
meets manifest demand (saw.Container size digest) = is_met size digest demand && list_all (suits demand.name size digest) manifest.again
meets manifest demand saw.Gone = false

-- what comes of what was seen where this container is wanted, or none
abbrev pub turned_demand : Manifest → ℕ → Option Demand → Seen → Turn
turned_demand manifest place (Some demand) seen = if meets manifest demand seen then On (Containers manifest (place + 1)) else Ended demand.name
turned_demand manifest place None seen = On (Containers manifest place)

-- what comes of what was seen where the container of a place is wanted
abbrev pub turned_container : Manifest → ℕ → Seen → Turn
turned_container manifest place seen = turned_demand manifest place (slice_get manifest.containers place) seen

-- what comes of what was seen, however far the round has come
abbrev pub turned : Stage → Seen → Result Turn CopyError
turned Database seen = Ok (turned_database seen)
turned (Digest database) seen = turned_digest database seen
turned (Containers manifest place) seen = Ok (turned_container manifest place seen)
turned (Spent name) seen = Ok (On (Spent name))

-- a copy whose round has ended at a name, so many rounds before the last one
abbrev pub ended_at : Name → ℕ → Copying
ended_at name more = if more == 0 then record { more = more; stage = Spent name } else record { more = more - 1; stage = Database }

-- a copy behind what comes of what was seen
abbrev pub after_turn : ℕ → Turn → Copying
after_turn more (On stage) = record { more = more; stage = stage }
after_turn more (Ended name) = ended_at name more

-- a copy that took what was seen; or why the database isn't copied
abbrev pub having_taken : Copying → Seen → Result Copying CopyError
having_taken copying seen = onward (turned copying.stage seen) (λ turn. Ok (after_turn copying.more turn))
