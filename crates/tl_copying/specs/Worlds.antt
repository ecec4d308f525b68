-- A repository that changes while it is copied.
use Rattle.std.specs.Prelude.{◌≡◌, ◌≢◌, ◌≤◌, ◌+◌, ◌-◌, ◌||◌, ℕ, not, Bool, true, codes, List, [], ◌∷◌, ◌++◌, length, map, filter, fold, Option, Some, None, unwrap_or, Result, Ok, Err}
use Rattle.std.specs.List.{AllByRecursion}
use Rattle.std.specs.FinMap as finite
use Rattle.hex.specs.Hex.{encode_lower}
use Rattle.sha2.specs.Sha512.{sha512}
use Rattle.tl_model.specs.Volume.{Name, Volume, at, same_name}
use Rattle.tl_repo.specs.Files.{database_name, digest_in, digest_name}
use Rattle.tl_copying.specs.Copies.{manifest_of, new_copy, having_taken, want_of}
use Rattle.tl_copying.specs.Demands.{Named, is_met, containers_in}
use Rattle.tl_copying.specs.declared.copying.Copying.{Copying}
use Rattle.tl_copying.specs.declared.copying.Seen.{Seen}
use Rattle.tl_copying.specs.declared.copying.Seen.TheVariants as saw
use Rattle.tl_copying.specs.declared.copying.Want.{Want}
use Rattle.tl_copying.specs.declared.copying.Want.TheVariants as wants
use Rattle.tl_copying.specs.declared.demand.Demand.{Demand}
use Rattle.tl_copying.specs.declared.error.CopyError.{CopyError}
use Rattle.tl_copying.specs.declared.stage.Manifest.{Manifest}
use Rattle.tl_copying.specs.declared.stage.Stage.TheVariants.{Database, Containers}

-- ---- publications

-- a name is neither the database's nor that of its digest file
abbrev pub IsBox : Name → Type 0
IsBox name = (name ≢ database_name) × (name ≢ digest_name)

-- whether a name is neither the database's nor that of its digest file
abbrev pub is_box : Name → Bool
is_box name = not (same_name name database_name || same_name name digest_name)

-- the file with the digest of a database
abbrev pub digest_file_of : List ℕ → List ℕ
digest_file_of database = encode_lower (sha512 database) ++ codes "  texlive.tlpdb\n"

-- a container is there, with the size and digest that are stated of it
pub record HoldsDemand (volume : Volume) (demand : Demand) : Type 0 where
  pub box : IsBox demand.name
  pub bytes : List ℕ
  pub held : at volume demand.name ≡ Some bytes
  pub met : is_met (length bytes) (sha512 bytes) demand ≡ true

-- all containers that a database names are there, as each entry that names one states it
pub record HoldsNamed (volume : Volume) (named : Named) : Type 0 where
  pub first : AllByRecursion (HoldsDemand volume) named.first
  pub again : AllByRecursion (HoldsDemand volume) named.again

-- a publication: a database, the digest file that is made of it and states its digest, and the containers that it names
pub record IsPublication (volume : Volume) : Type 0 where
  pub database : List ℕ
  pub has_database : at volume database_name ≡ Some database
  pub has_digest : at volume digest_name ≡ Some (digest_file_of database)
  pub stated : digest_in (digest_file_of database) ≡ Some (sha512 database)
  pub boxes : (named : Named) → containers_in database ≡ Ok named → HoldsNamed volume named

-- two publications agree on each container that both have
abbrev pub IsFitting : Volume → Volume → Type 0
IsFitting p q = (name : Name) (a b : List ℕ) → IsBox name → at p name ≡ Some a → at q name ≡ Some b → a ≡ b

-- publications of which any two agree on each container that both have
abbrev pub AreFitting : List Volume → Type 0
AreFitting [] = Unit {0}
AreFitting (p ∷ others) = IsPublication p × AllByRecursion (IsFitting p) others × AreFitting others

-- ---- the world

-- a change of a repository: a name is erased, or holds a whole file
pub data Alteration : Type 0 where
  Erase : Name → Alteration
  Hold : Name → List ℕ → Alteration

-- the publications that were begun, the newest first; what the repository holds; the changes that are still to be made of the newest; and a copy
pub record World : Type 0 where
  pub begun : List Volume
  pub shelf : Volume
  pub pending : List Alteration
  pub copying : Copying

-- a publication begins; the next change is made; the file that the copy wants is read
pub data Happening : Type 0 where
  Begin : Volume → Happening
  Change : Happening
  Read : Happening

-- nothing was published, and nothing was read
abbrev pub first_world : World
first_world = record { begun = []; shelf = finite.empty; pending = []; copying = new_copy }

-- the newest of some publications; an empty one where there is none
abbrev pub newest : List Volume → Volume
newest [] = finite.empty
newest (p ∷ others) = p

-- whether neither of two publications has a name
abbrev pub is_outdated : Volume → Volume → Name → Bool
is_outdated p before name = not (finite.contains_key p name || finite.contains_key before name)

-- the change that brings a file of a publication
abbrev pub holding : Volume → Name → Alteration
holding p name = Hold name (unwrap_or (at p name) [])

-- the changes in front of a publication's database: what neither it nor the one before it has is erased, and its containers come
abbrev pub early_changes : Volume → Volume → Volume → List Alteration
early_changes p before shelf = map Erase (filter (is_outdated p before) (finite.keys shelf)) ++ map (holding p) (filter is_box (finite.keys p))

-- all changes of a publication: its database comes behind its containers, and then its digest file
abbrev pub changes_of : Volume → Volume → Volume → List Alteration
changes_of p before shelf = early_changes p before shelf ++ holding p database_name ∷ holding p digest_name ∷ []

-- a repository after a change
abbrev pub altered : Alteration → Volume → Volume
altered (Erase name) shelf = finite.remove shelf name
altered (Hold name bytes) shelf = finite.insert shelf name bytes

-- a text that is read
abbrev pub text_seen : Option (List ℕ) → Seen
text_seen (Some bytes) = saw.Text bytes
text_seen None = saw.Gone

-- a container that is read
abbrev pub container_seen : Option (List ℕ) → Seen
container_seen (Some bytes) = saw.Container (length bytes) (sha512 bytes)
container_seen None = saw.Gone

-- what is seen of a repository where this is wanted
abbrev pub seen_there : Volume → Want → Seen
seen_there shelf wants.Database = text_seen (at shelf database_name)
seen_there shelf wants.Digest = text_seen (at shelf digest_name)
seen_there shelf (wants.Container name size) = container_seen (at shelf name)
seen_there shelf wants.Whole = saw.Gone
seen_there shelf (wants.Spent name) = saw.Gone

-- a copy after an answer; it is as before where that is an error
abbrev pub or_before : Copying → Result Copying CopyError → Copying
or_before copying (Ok next) = next
or_before copying (Err error) = copying

-- a copy that has read what it wants
abbrev pub having_read : Volume → Copying → Copying
having_read shelf copying = or_before copying (having_taken copying (seen_there shelf (want_of copying)))

-- a world in which a publication begins, unless changes are pending
abbrev pub beginning : Volume → List Alteration → World → World
beginning p [] w = record { begun = p ∷ w.begun; shelf = w.shelf; pending = changes_of p (newest w.begun) w.shelf; copying = w.copying }
beginning p (change ∷ changes) w = w

-- a world in which the next change is made, where one is pending
abbrev pub altering : List Alteration → World → World
altering [] w = w
altering (change ∷ changes) w = record { begun = w.begun; shelf = altered change w.shelf; pending = changes; copying = w.copying }

-- a world after something happened
abbrev pub world_by : World → Happening → World
world_by w (Begin p) = beginning p w.pending w
world_by w Change = altering w.pending w
world_by w Read = record { begun = w.begun; shelf = w.shelf; pending = w.pending; copying = having_read w.shelf w.copying }

-- a world after some things happened, one after the other
abbrev pub world_after : World → List Happening → World
world_after w happenings = fold world_by w happenings

-- how many publications were made whole
abbrev pub ended_count : List Alteration → List Volume → ℕ
ended_count [] begun = length begun
ended_count (change ∷ changes) begun = length begun - 1

-- ---- what is promised

-- a database was read of a publication in a round behind which so many more may begin, as something happened; of those that had been made
-- whole by then none is newer
pub record WasRead (happenings : List Happening) (begun : List Volume) (more : ℕ) (database : List ℕ) : Type 0 where
  pub earlier : List Happening
  pub later : List Happening
  pub split : happenings ≡ earlier ++ Read ∷ later
  pub wanted : (world_after first_world earlier).copying ≡ record { more = more; stage = Database }
  pub found : at (world_after first_world earlier).shelf database_name ≡ Some database
  pub publication : Volume
  pub newer : List Volume
  pub older : List Volume
  pub begins : begun ≡ newer ++ publication ∷ older
  pub has_database : at publication database_name ≡ Some database
  pub none_newer : ended_count (world_after first_world earlier).pending (world_after first_world earlier).begun ≤ length older + 1

-- a copy is of one publication: of that from which its database was read in this round, the digest file and the containers are too
pub record IsOfOne (happenings : List Happening) (w : World) : Type 0 where
  pub manifest : Manifest
  pub place : ℕ
  pub is : w.copying.stage ≡ Containers manifest place
  pub read : WasRead happenings w.begun w.copying.more manifest.database
  pub has_digest : at read.publication digest_name ≡ Some manifest.digest
  pub has_boxes : HoldsNamed read.publication (record { first = manifest.containers; again = manifest.again })

-- one publication: whatever happens to a repository of fitting publications, a whole copy is of one of them
abbrev pub OnePublication : Type 0
OnePublication = (happenings : List Happening) → AreFitting (world_after first_world happenings).begun
    → want_of (world_after first_world happenings).copying ≡ wants.Whole → IsOfOne happenings (world_after first_world happenings)

-- database and digest file of one publication are read in one round, with other things happening meanwhile; later its containers are wanted
pub record ReadsOne (start middle : World) (between : List Happening) (p : Volume) (newer older : List Volume) (database digest : List ℕ) (named : Named) : Type 0 where
  pub begun : start.begun ≡ newer ++ p ∷ older
  pub wanted : start.copying.stage ≡ Database
  pub database_read : at start.shelf database_name ≡ Some database
  pub has_database : at p database_name ≡ Some database
  pub follows : middle ≡ world_after (world_by start Read) between
  pub unread : middle.copying ≡ (world_by start Read).copying
  pub digest_read : at middle.shelf digest_name ≡ Some digest
  pub has_digest : at p digest_name ≡ Some digest
  pub names : containers_in database ≡ Ok named

-- progress: a round that has read database and digest file of one publication goes on to its last container, as long as one publication at
-- most has begun after that one
abbrev pub Progress : Type 0
Progress = (earlier between later : List Happening) (middle : World) (p : Volume) (newer older : List Volume) (database digest : List ℕ) (named : Named)
    → ReadsOne (world_after first_world earlier) middle between p newer older database digest named
    → AreFitting (world_after (world_by middle Read) later).begun → length (world_after (world_by middle Read) later).begun ≤ length older + 2
    → (place : ℕ) × ((world_after (world_by middle Read) later).copying
    ≡ record { more = (world_after first_world earlier).copying.more; stage = Containers (manifest_of database digest named) place })
