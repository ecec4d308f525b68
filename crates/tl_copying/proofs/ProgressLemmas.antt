-- A round that has read database and digest file of one publication goes on.
use Rattle.std.proofs.Common.{◌≡◌, ◌⊎◌, ◌≤◌, ◌+◌, ℕ, zero, suc, Bool, true, false, cond, ◌&&◌, ◌||◌, List, [], ◌∷◌, ◌++◌, length, Option, Some, None, Result, Ok, slice_get, refl, sym, ◌∙◌, ap, subst, inl, inr, arith, length-append}
use Rattle.std.specs.Prelude.{not}
use Rattle.std.specs.List.{AllByRecursion, list_all}
use Rattle.std.specs.Cmp.Lexicographic.{same_text, slice_cmp}
use Rattle.std.specs.Ordering.{nat_cmp}
use Rattle.std.specs.FinMap as finite
use Rattle.std.specs.Str.{bytes_eq}
use Rattle.std.proofs.lemmas.Bool.{cases_Bool}
use Rattle.std.proofs.lemmas.Slice.Eq.{bytes_eq-Decides}
use Rattle.sha2.specs.Sha512.{sha512}
use Rattle.tl_model.specs.Volume.{Name, Volume, at}
use Rattle.tl_repo.specs.Files.{database_name, digest_in, digest_name}
use Rattle.tl_copying.specs.Copies.{after_turn, container_want, manifest_of, meets, turned, turned_agreed, turned_database, turned_demand, turned_stated}
use Rattle.tl_copying.specs.Demands.{Named, onward, suits, is_met, containers_in}
use Rattle.tl_copying.specs.Worlds.{Alteration, AreFitting, HoldsDemand, HoldsNamed, IsPublication, Progress, ReadsOne, World, Happening, Begin, Change, Read, beginning, altering, container_seen, digest_file_of, first_world, having_read, holding, newest, or_before, seen_there, text_seen, world_after, world_by}
use Rattle.tl_copying.specs.declared.copying.Copying.{Copying}
use Rattle.tl_copying.specs.declared.demand.Demand.{Demand}
use Rattle.tl_copying.specs.declared.error.CopyError.{CopyError}
use Rattle.tl_copying.specs.declared.stage.Manifest.{Manifest}
use Rattle.tl_copying.specs.declared.stage.Stage.{Stage}
use Rattle.tl_copying.specs.declared.stage.Stage.TheVariants.{Database, Digest, Containers}
use Rattle.tl_copying.specs.declared.stage.Turn.{Turn}
use Rattle.tl_copying.specs.declared.stage.Turn.TheVariants.{On, Ended}
use Rattle.tl_copying.proofs.WorldLemmas.{HoldsBoxes, IsBegun, Stands, fitting_after, fitting_by, stands_after, stands_by, stands_first}
use Rattle.tl_copying.proofs.OneLemmas.{fitting_at}

some_is : (a b : List ℕ) → Some a ≡ Some b → a ≡ b
some_is a b is = cc

-- ---- a container that is there meets what is stated

and_true : (a b : Bool) → a ≡ true → b ≡ true → (a && b) ≡ true
and_true a b p q = ap (λ (x : Bool). x && b) p ∙ q

fits_there : (shelf : Volume) (name : Name) (bytes : List ℕ) → at shelf name ≡ Some bytes → (other : Demand) → HoldsDemand shelf other → suits name (length bytes) (sha512 bytes) other ≡ true
fits_there shelf name bytes held other holds = by (cases_Bool (bytes_eq other.name name))
  where
    by : (bytes_eq other.name name ≡ true) ⊎ (bytes_eq other.name name ≡ false) → suits name (length bytes) (sha512 bytes) other ≡ true
    by (inr apart) = ap (λ (b : Bool). not b || is_met (length bytes) (sha512 bytes) other) apart
    by (inl same) =
        let one : holds.bytes ≡ bytes = some_is _ _ (sym holds.held ∙ ap (λ (n : Name). at shelf n) (same_text other.name name (sym same)) ∙ held) in
        ap (λ (b : Bool). not b || is_met (length bytes) (sha512 bytes) other) same ∙ subst (λ (l : List ℕ). is_met (length l) (sha512 l) other ≡ true) one holds.met

all_fit : (shelf : Volume) (name : Name) (bytes : List ℕ) → at shelf name ≡ Some bytes → (others : List Demand) → AllByRecursion (HoldsDemand shelf) others → list_all (suits name (length bytes) (sha512 bytes)) others ≡ true
all_fit shelf name bytes held [] all = refl
all_fit shelf name bytes held (other ∷ others) all = and_true _ _ (fits_there shelf name bytes held other all.0) (all_fit shelf name bytes held others all.1)

at_place : (shelf : Volume) (demands : List Demand) (place : ℕ) (demand : Demand) → AllByRecursion (HoldsDemand shelf) demands → slice_get demands place ≡ Some demand → HoldsDemand shelf demand
at_place shelf [] place demand all is = absurd (cc (is))
at_place shelf (d ∷ demands) zero demand all is = let same : d ≡ demand = cc (is) in subst (HoldsDemand shelf) same all.0
at_place shelf (d ∷ demands) (suc place) demand all is = at_place shelf demands place demand all.1 is

meets_there : (shelf : Volume) (manifest : Manifest) (demand : Demand) → HoldsNamed shelf (record { first = manifest.containers; again = manifest.again }) → HoldsDemand shelf demand
    → meets manifest demand (container_seen (at shelf demand.name)) ≡ true
meets_there shelf manifest demand named holds =
    ap (λ (o : Option (List ℕ)). meets manifest demand (container_seen o)) holds.held
    ∙ and_true _ _ holds.met (all_fit shelf demand.name holds.bytes holds.held manifest.again named.again)

-- ---- a copy that reads containers of which each is there

abbrev copying_at : ℕ → Manifest → ℕ → Copying
copying_at more manifest place = record { more = more; stage = Containers manifest place }

demand_on : (shelf : Volume) (more : ℕ) (manifest : Manifest) (place : ℕ) (o : Option Demand) → slice_get manifest.containers place ≡ o → HoldsNamed shelf (record { first = manifest.containers; again = manifest.again })
    → (next : ℕ) × (turned_demand manifest place o (seen_there shelf (container_want o)) ≡ On (Containers manifest next))
demand_on shelf more manifest place None is named = (place, refl)
demand_on shelf more manifest place (Some demand) is named =
    (place + 1, ap (λ (b : Bool). cond b (On (Containers manifest (place + 1))) (Ended demand.name)) (meets_there shelf manifest demand named (at_place shelf manifest.containers place demand named.first is)))

read_on : (shelf : Volume) (more : ℕ) (manifest : Manifest) (place : ℕ) → HoldsNamed shelf (record { first = manifest.containers; again = manifest.again }) → (next : ℕ) × (having_read shelf (copying_at more manifest place) ≡ copying_at more manifest next)
read_on shelf more manifest place named =
    let on = demand_on shelf more manifest place (slice_get manifest.containers place) refl named in
    (on.0, ap (λ (turn : Turn). after_turn more turn) on.1)

-- ---- the containers of a publication stay, as long as one publication at most has begun behind it

-- a publication was begun, so many before the newest; where it is the newest and none of its changes of texts was made, the database of the
-- one before it is the same
record Keeps (w : World) (p : Volume) (older : List Volume) (database : List ℕ) : Type 0 where
  newer : List Volume
  begun : w.begun ≡ newer ++ p ∷ older
  early : newer ≡ [] → IsBegun p (newest older) w.shelf w.pending → at (newest older) database_name ≡ Some database

module _ (p : Volume) (older : List Volume) (database : List ℕ) where
  not_both : (changes : List Alteration) (a b c : Alteration) (rest : List Alteration) → rest ≡ changes ++ a ∷ b ∷ [] → c ∷ rest ≡ c ∷ [] → ⊥
  not_both [] a b c rest is one = cc
  not_both (d ∷ changes) a b c rest is one = cc

  keeps_changing : (w : World) (pending : List Alteration) → w.pending ≡ pending → Stands w.begun w.shelf w.pending → Keeps w p older database → Keeps (altering pending w) p older database
  keeps_changing w [] is stands keeps = keeps
  keeps_changing w (change ∷ rest) is stands keeps = record {
    newer = keeps.newer;
    begun = keeps.begun;
    early = λ none later.
        let here : w.begun ≡ p ∷ older = keeps.begun ∙ ap (λ (l : List Volume). l ++ p ∷ older) none in
        let now = subst (λ (l : List Volume). Stands l w.shelf w.pending) here stands in
        elim now.1 [
          | inl early ↦ keeps.early none early
          | inr (inl late) ↦ absurd (one_left late.left later.changes later.left)
          | inr (inr idle) ↦ absurd (none_left idle.left)
        ];
  }
    where
      one_left : w.pending ≡ holding p digest_name ∷ [] → (changes : List Alteration) → rest ≡ changes ++ holding p database_name ∷ holding p digest_name ∷ [] → ⊥
      one_left left [] more = cc
      one_left left (d ∷ changes) more = cc

      none_left : w.pending ≡ [] → ⊥
      none_left left = cc

  keeps_beginning : (q : Volume) (w : World) (pending : List Alteration) → Keeps w p older database → Keeps (beginning q pending w) p older database
  keeps_beginning q w [] keeps = record { newer = q ∷ keeps.newer; begun = ap (λ (l : List Volume). q ∷ l) keeps.begun; early = λ none. absurd (cc (none)) }
  keeps_beginning q w (change ∷ rest) keeps = keeps

  keeps_by : (w : World) (h : Happening) → Stands w.begun w.shelf w.pending → Keeps w p older database → Keeps (world_by w h) p older database
  keeps_by w (Begin q) stands keeps = keeps_beginning q w w.pending keeps
  keeps_by w Change stands keeps = keeps_changing w w.pending refl stands keeps
  keeps_by w Read stands keeps = record { newer = keeps.newer; begun = keeps.begun; early = keeps.early }

  keeps_after : (w : World) (happenings : List Happening) → AreFitting (world_after w happenings).begun → Stands w.begun w.shelf w.pending → Keeps w p older database → Keeps (world_after w happenings) p older database
  keeps_after w [] fitting stands keeps = keeps
  keeps_after w (h ∷ happenings) fitting stands keeps =
      keeps_after (world_by w h) happenings fitting (stands_by w h (fitting_after (world_by w h) happenings fitting) stands) (keeps_by w h stands keeps)

  -- ---- so each of its containers is there

  holds_demand : (shelf r : Volume) → HoldsBoxes shelf r → (demand : Demand) → HoldsDemand r demand → HoldsDemand shelf demand
  holds_demand shelf r boxes demand holds = record { box = holds.box; bytes = holds.bytes; held = boxes demand.name holds.bytes holds.box holds.held; met = holds.met }

  holds_all : (shelf r : Volume) → HoldsBoxes shelf r → (demands : List Demand) → AllByRecursion (HoldsDemand r) demands → AllByRecursion (HoldsDemand shelf) demands
  holds_all shelf r boxes [] all = tt
  holds_all shelf r boxes (d ∷ demands) all = (holds_demand shelf r boxes d all.0, holds_all shelf r boxes demands all.1)

  holds_named : (shelf r : Volume) (named : Named) → IsPublication r → at r database_name ≡ Some database → containers_in database ≡ Ok named → HoldsBoxes shelf r → HoldsNamed shelf named
  holds_named shelf r named is held names boxes =
      let all = is.boxes named (ap containers_in (some_is _ _ (sym is.has_database ∙ held)) ∙ names) in
      record { first = holds_all shelf r boxes named.first all.first; again = holds_all shelf r boxes named.again all.again }

  newest_is : (begun : List Volume) → AreFitting begun → at (newest begun) database_name ≡ Some database → IsPublication (newest begun)
  newest_is [] fitting held = let none : Some database ≡ None = sym held ∙ finite.get-empty (slice_cmp nat_cmp) database_name in absurd (cc)
  newest_is (q ∷ begun) fitting held = fitting.0

  first_fitting : (newer : List Volume) → AreFitting (newer ++ p ∷ older) → AreFitting (p ∷ older)
  first_fitting [] fitting = fitting
  first_fitting (q ∷ newer) fitting = first_fitting newer fitting.2

  kept_named : (w : World) (named : Named) (newer : List Volume) → w.begun ≡ newer ++ p ∷ older → (newer ≡ [] → IsBegun p (newest older) w.shelf w.pending → at (newest older) database_name ≡ Some database)
      → length newer ≤ 1 → AreFitting w.begun → Stands w.begun w.shelf w.pending → at p database_name ≡ Some database → containers_in database ≡ Ok named → HoldsNamed w.shelf named
  kept_named w named [] begun early few fitting stands held names =
      let all = subst AreFitting begun fitting in
      let now = subst (λ (l : List Volume). Stands l w.shelf w.pending) begun stands in
      elim now.1 [
        | inl is ↦ holds_named w.shelf (newest older) named (newest_is older all.2 (early refl is)) (early refl is) names now.0
        | inr (inl late) ↦ holds_named w.shelf p named all.0 held names late.boxes
        | inr (inr idle) ↦ holds_named w.shelf p named all.0 held names idle.boxes
      ]
  kept_named w named (q ∷ []) begun early few fitting stands held names =
      let all = subst AreFitting begun fitting in
      let now = subst (λ (l : List Volume). Stands l w.shelf w.pending) begun stands in
      holds_named w.shelf p named all.2.0 held names now.0
  kept_named w named (q ∷ r ∷ newer) begun early few fitting stands held names = absurd (omega arith)

-- ---- how many have begun

grows_beginning : (q : Volume) (w : World) (pending : List Alteration) → length w.begun ≤ length (beginning q pending w).begun
grows_beginning q w [] = omega arith
grows_beginning q w (change ∷ rest) = omega arith

grows_changing : (w : World) (pending : List Alteration) → length w.begun ≤ length (altering pending w).begun
grows_changing w [] = omega arith
grows_changing w (change ∷ rest) = omega arith

grows_by : (w : World) (h : Happening) → length w.begun ≤ length (world_by w h).begun
grows_by w (Begin q) = grows_beginning q w w.pending
grows_by w Change = grows_changing w w.pending
grows_by w Read = omega arith

grows_after : (w : World) (happenings : List Happening) → length w.begun ≤ length (world_after w happenings).begun
grows_after w [] = omega arith
grows_after w (h ∷ happenings) = omega (arith, grows_by w h, grows_after (world_by w h) happenings)

-- ---- the round goes on

same_changing : (w : World) (pending : List Alteration) → (altering pending w).copying ≡ w.copying
same_changing w [] = refl
same_changing w (change ∷ rest) = refl

same_beginning : (q : Volume) (w : World) (pending : List Alteration) → (beginning q pending w).copying ≡ w.copying
same_beginning q w [] = refl
same_beginning q w (change ∷ rest) = refl

module _ (p : Volume) (older : List Volume) (database : List ℕ) (named : Named) (held : at p database_name ≡ Some database) (names : containers_in database ≡ Ok named) (more : ℕ) (digest : List ℕ) where
  abbrev manifest : Manifest
  manifest = manifest_of database digest named

  abbrev GoesOn : Copying → Type 0
  GoesOn copying = (place : ℕ) × (copying ≡ copying_at more manifest place)

  few_newer : (newer : List Volume) (begun : List Volume) → begun ≡ newer ++ p ∷ older → length begun ≤ length older + 2 → length newer ≤ 1
  few_newer newer begun is few = omega (arith, few, ap length is, length-append newer (p ∷ older))

  on_by : (w : World) (h : Happening) → AreFitting w.begun → Stands w.begun w.shelf w.pending → Keeps w p older database → length w.begun ≤ length older + 2 → GoesOn w.copying → GoesOn (world_by w h).copying
  on_by w (Begin q) fitting stands keeps few goes = (goes.0, same_beginning q w w.pending ∙ goes.1)
  on_by w Change fitting stands keeps few goes = (goes.0, same_changing w w.pending ∙ goes.1)
  on_by w Read fitting stands keeps few goes =
      let on = read_on w.shelf more manifest goes.0 (kept_named p older database w named keeps.newer keeps.begun keeps.early (few_newer keeps.newer w.begun keeps.begun few) fitting stands held names) in
      (on.0, ap (λ (c : Copying). having_read w.shelf c) goes.1 ∙ on.1)

  on_after : (w : World) (happenings : List Happening) → AreFitting (world_after w happenings).begun → Stands w.begun w.shelf w.pending → Keeps w p older database
      → length (world_after w happenings).begun ≤ length older + 2 → GoesOn w.copying → GoesOn (world_after w happenings).copying
  on_after w [] fitting stands keeps few goes = goes
  on_after w (h ∷ happenings) fitting stands keeps few goes =
      let next = fitting_after (world_by w h) happenings fitting in
      let now : length w.begun ≤ length older + 2 = omega (arith, few, grows_after w (h ∷ happenings)) in
      on_after (world_by w h) happenings fitting (stands_by w h next stands) (keeps_by p older database w h stands keeps) few (on_by w h (fitting_by w h next) stands keeps now goes)

-- ---- progress

read_database : (shelf : Volume) (copying : Copying) (database : List ℕ) → copying.stage ≡ Database → at shelf database_name ≡ Some database
    → having_read shelf copying ≡ record { more = copying.more; stage = Digest database }
read_database shelf copying database wanted held =
    subst (λ (s : Stage). having_read shelf (record { more = copying.more; stage = s }) ≡ record { more = copying.more; stage = Digest database }) (sym wanted)
    (ap (λ (o : Option (List ℕ)). after_turn copying.more (turned_database (text_seen o))) held)

-- a copy that wanted a digest file, behind what comes of it
abbrev turned_copy : ℕ → List ℕ → Result Turn CopyError → Copying
turned_copy more database r = or_before (record { more = more; stage = Digest database }) (onward r (λ turn. Ok (after_turn more turn)))

read_digest : (shelf : Volume) (more : ℕ) (database digest : List ℕ) (named : Named) → at shelf digest_name ≡ Some digest → digest_in digest ≡ Some (sha512 database) → containers_in database ≡ Ok named
    → having_read shelf (record { more = more; stage = Digest database }) ≡ copying_at more (manifest_of database digest named) 0
read_digest shelf more database digest named held stated names =
    ap (λ (o : Option (List ℕ)). turned_copy more database (turned (Digest database) (text_seen o))) held
    ∙ ap (λ (o : Option (List ℕ)). turned_copy more database (turned_stated o database digest)) stated
    ∙ ap (λ (b : Bool). turned_copy more database (cond b (turned_agreed database digest) (Ok (Ended database_name)))) ((bytes_eq-Decides (sha512 database) (sha512 database)).1 refl)
    ∙ ap (λ (r : Result Named CopyError). turned_copy more database (onward r (λ n. Ok (On (Containers (manifest_of database digest n) 0))))) names

states_its : (p : Volume) (database digest : List ℕ) → IsPublication p → at p database_name ≡ Some database → at p digest_name ≡ Some digest → digest_in digest ≡ Some (sha512 database)
states_its p database digest is held line =
    let same : is.database ≡ database = some_is _ _ (sym is.has_database ∙ held) in
    let written : digest ≡ digest_file_of is.database = some_is _ _ (sym line ∙ is.has_digest) in
    ap digest_in written ∙ is.stated ∙ ap (λ (l : List ℕ). Some (sha512 l)) same

module _ (start middle : World) (between : List Happening) (p : Volume) (newer older : List Volume) (database digest : List ℕ) (named : Named)
    (reads : ReadsOne start middle between p newer older database digest named) (fitting : AreFitting middle.begun) (stands : Stands start.begun start.shelf start.pending) where
  fitting_between : AreFitting (world_after (world_by start Read) between).begun
  fitting_between = subst (λ (v : World). AreFitting v.begun) reads.follows fitting

  fitting_start : AreFitting start.begun
  fitting_start = fitting_after (world_by start Read) between fitting_between

  stands_middle : Stands middle.begun middle.shelf middle.pending
  stands_middle = subst (λ (v : World). Stands v.begun v.shelf v.pending) (sym reads.follows) (stands_after (world_by start Read) between fitting_between (stands_by start Read fitting_start stands))

  keeps_start : Keeps start p older database
  keeps_start = record { newer = newer; begun = reads.begun; early = λ none early. sym early.database ∙ reads.database_read }

  keeps_middle : Keeps middle p older database
  keeps_middle = subst (λ (v : World). Keeps v p older database) (sym reads.follows)
      (keeps_after p older database (world_by start Read) between fitting_between (stands_by start Read fitting_start stands) (keeps_by p older database start Read stands keeps_start))

  publication : IsPublication p
  publication = fitting_at newer p older (subst AreFitting reads.begun fitting_start)

  begun_round : (world_by middle Read).copying ≡ copying_at start.copying.more (manifest_of database digest named) 0
  begun_round =
      ap (λ (c : Copying). having_read middle.shelf c) (reads.unread ∙ read_database start.shelf start.copying database reads.wanted reads.database_read)
      ∙ read_digest middle.shelf start.copying.more database digest named reads.digest_read (states_its p database digest publication reads.has_database reads.has_digest) reads.names

-- the publications at the start of the round
fitting_first : (start middle : World) (between : List Happening) (p : Volume) (newer older : List Volume) (database digest : List ℕ) (named : Named)
    → ReadsOne start middle between p newer older database digest named → AreFitting middle.begun → AreFitting start.begun
fitting_first start middle between p newer older database digest named reads fitting =
    fitting_after (world_by start Read) between (subst (λ (v : World). AreFitting v.begun) reads.follows fitting)

pub progress : Progress
progress earlier between later middle p newer older database digest named reads fitting few =
    let start : World = world_after first_world earlier in
    let round : AreFitting middle.begun = fitting_after (world_by middle Read) later fitting in
    let stood = stands_after first_world earlier (fitting_first start middle between p newer older database digest named reads round) stands_first in
    let stands = stands_middle start middle between p newer older database digest named reads round stood in
    let keeps = keeps_middle start middle between p newer older database digest named reads round stood in
    on_after p older database named reads.has_database reads.names start.copying.more digest (world_by middle Read) later fitting
    (stands_by middle Read round stands) (keeps_by p older database middle Read stands keeps) few
    (0, begun_round start middle between p newer older database digest named reads round stood)
