-- A copy that is whole is of one publication.
use Rattle.std.proofs.Common.{◌≡◌, ◌⊎◌, ◌≤◌, ◌+◌, ◌-◌, ℕ, Bool, true, false, cond, ◌==◌, List, [], ◌∷◌, ◌++◌, length, Option, Some, None, Result, Ok, Err, slice_get, refl, sym, ◌∙◌, ap, subst, inl, inr, arith, append_assoc}
use Rattle.std.specs.Cmp.Lexicographic.{same_text, slice_cmp}
use Rattle.std.specs.Ordering.{nat_cmp}
use Rattle.std.specs.FinMap as finite
use Rattle.std.specs.Str.{bytes_eq}
use Rattle.std.specs.Prelude.{codes}
use Rattle.std.proofs.lemmas.List.{append-nil}
use Rattle.hex.specs.Hex.{encode_lower}
use Rattle.std.proofs.lemmas.List.Sums.{fold-append}
use Rattle.sha2.specs.Sha512.{sha512}
use Rattle.tl_model.specs.Volume.{Name, Volume, at}
use Rattle.tl_repo.specs.Files.{database_name, digest_in, digest_name}
use Rattle.tl_copying.specs.Copies.{after_turn, container_want, manifest_of, meets, turned, turned_agreed, turned_demand, turned_stated, want_at, want_of}
use Rattle.tl_copying.specs.Demands.{Named, onward, containers_in}
use Rattle.tl_copying.specs.Rounds.{Agrees}
use Rattle.tl_copying.specs.Worlds.{Alteration, AreFitting, HoldsNamed, IsOfOne, IsPublication, OnePublication, WasRead, World, Happening, Begin, Change, Read, beginning, altering, digest_file_of, ended_count, first_world, having_read, or_before, seen_there, text_seen, world_after, world_by}
use Rattle.tl_copying.specs.declared.copying.Copying.{Copying}
use Rattle.tl_copying.specs.declared.copying.Seen.{Seen}
use Rattle.tl_copying.specs.declared.copying.Want.TheVariants as wants
use Rattle.tl_copying.specs.declared.demand.Demand.{Demand}
use Rattle.tl_copying.specs.declared.error.CopyError.{CopyError}
use Rattle.tl_copying.specs.declared.stage.Manifest.{Manifest}
use Rattle.tl_copying.specs.declared.stage.Stage.{Stage}
use Rattle.tl_copying.specs.declared.stage.Stage.TheVariants.{Database, Digest, Containers, Spent}
use Rattle.tl_copying.specs.declared.stage.Turn.{Turn}
use Rattle.tl_copying.specs.declared.stage.Turn.TheVariants.{On, Ended}
use Rattle.tl_copying.proofs.WorldLemmas.{Stands, fitting_after, fitting_by, stands_by, stands_first}

-- ---- the publication whose database is there

none_there : (name : Name) (o : Option (List ℕ)) (bytes : List ℕ) → o ≡ at finite.empty name → o ≡ Some bytes → ⊥
none_there name o bytes empty some = let same : Some bytes ≡ None = sym some ∙ empty ∙ finite.get-empty (slice_cmp nat_cmp) name in cc

-- a publication is among those that were begun, and none that was made whole is newer
record IsCurrent (begun : List Volume) (database : List ℕ) (count : ℕ) : Type 0 where
  publication : Volume
  newer : List Volume
  older : List Volume
  begins : begun ≡ newer ++ publication ∷ older
  has_database : at publication database_name ≡ Some database
  none_newer : count ≤ length older + 1

ended_pending : (changes : List Alteration) (a b : Alteration) (begun : List Volume) (pending : List Alteration) → pending ≡ changes ++ a ∷ b ∷ [] → ended_count pending begun ≡ length begun - 1
ended_pending [] a b begun pending is = ap (λ (cs : List Alteration). ended_count cs begun) is
ended_pending (c ∷ changes) a b begun pending is = ap (λ (cs : List Alteration). ended_count cs begun) is

current : (begun : List Volume) (shelf : Volume) (pending : List Alteration) (database : List ℕ) → Stands begun shelf pending → at shelf database_name ≡ Some database → IsCurrent begun database (ended_count pending begun)
current [] shelf pending database stands held = let same : Some database ≡ None = sym held ∙ stands.1 database_name in absurd (cc)
current (p ∷ []) shelf pending database stands held = elim stands.1 [
  | inl early ↦ absurd (none_there database_name (at shelf database_name) database early.database held)
  | inr (inl late) ↦ record {
    publication = p;
    newer = [];
    older = [];
    begins = refl;
    has_database = sym late.database ∙ held;
    none_newer = (let count : ended_count pending (p ∷ []) ≡ 0 = ap (λ (cs : List Alteration). ended_count cs (p ∷ [])) late.left in omega (arith, count));
  }
  | inr (inr idle) ↦ record {
    publication = p;
    newer = [];
    older = [];
    begins = refl;
    has_database = sym idle.database ∙ held;
    none_newer = (let count : ended_count pending (p ∷ []) ≡ 1 = ap (λ (cs : List Alteration). ended_count cs (p ∷ [])) idle.left in omega (arith, count));
  }
]
current (p ∷ q ∷ others) shelf pending database stands held = elim stands.1 [
  | inl early ↦ record {
    publication = q;
    newer = p ∷ [];
    older = others;
    begins = refl;
    has_database = sym early.database ∙ held;
    none_newer = (let count : ended_count pending (p ∷ q ∷ others) ≡ length (p ∷ q ∷ others) - 1 = ended_pending early.changes _ _ (p ∷ q ∷ others) pending early.left in omega (arith, count));
  }
  | inr (inl late) ↦ record {
    publication = p;
    newer = [];
    older = q ∷ others;
    begins = refl;
    has_database = sym late.database ∙ held;
    none_newer = (let count : ended_count pending (p ∷ q ∷ others) ≡ length (p ∷ q ∷ others) - 1 = ap (λ (cs : List Alteration). ended_count cs (p ∷ q ∷ others)) late.left in omega (arith, count));
  }
  | inr (inr idle) ↦ record {
    publication = p;
    newer = [];
    older = q ∷ others;
    begins = refl;
    has_database = sym idle.database ∙ held;
    none_newer = (let count : ended_count pending (p ∷ q ∷ others) ≡ length (p ∷ q ∷ others) = ap (λ (cs : List Alteration). ended_count cs (p ∷ q ∷ others)) idle.left in omega (arith, count));
  }
]

-- a text is the digest file of a database
record IsDigestLine (text : List ℕ) : Type 0 where
  database : List ℕ
  line : text ≡ digest_file_of database
  stated : digest_in text ≡ Some (sha512 database)

line_of : (p : Volume) (digest : List ℕ) → IsPublication p → at p digest_name ≡ Some digest → IsDigestLine digest
line_of p digest is held =
    let same : Some digest ≡ Some (digest_file_of is.database) = sym held ∙ is.has_digest in
    let line : digest ≡ digest_file_of is.database = cc in
    record { database = is.database; line = line; stated = ap digest_in line ∙ is.stated }

line_there : (begun : List Volume) (shelf : Volume) (pending : List Alteration) (digest : List ℕ) → AreFitting begun → Stands begun shelf pending → at shelf digest_name ≡ Some digest → IsDigestLine digest
line_there [] shelf pending digest fitting stands held = let same : Some digest ≡ None = sym held ∙ stands.1 digest_name in absurd (cc)
line_there (p ∷ []) shelf pending digest fitting stands held = elim stands.1 [
  | inl early ↦ absurd (none_there digest_name (at shelf digest_name) digest early.digest held)
  | inr (inl late) ↦ absurd (none_there digest_name (at shelf digest_name) digest late.digest held)
  | inr (inr idle) ↦ line_of p digest fitting.0 (sym idle.digest ∙ held)
]
line_there (p ∷ q ∷ others) shelf pending digest fitting stands held = elim stands.1 [
  | inl early ↦ line_of q digest fitting.2.0 (sym early.digest ∙ held)
  | inr (inl late) ↦ line_of q digest fitting.2.0 (sym late.digest ∙ held)
  | inr (inr idle) ↦ line_of p digest fitting.0 (sym idle.digest ∙ held)
]

-- ---- what a copy has read

-- database and digest file agree and were read, the one of a publication, the other as the digest file of some database
record HasBoth (happenings : List Happening) (begun : List Volume) (more : ℕ) (manifest : Manifest) : Type 0 where
  read : WasRead happenings begun more manifest.database
  agrees : Agrees manifest
  line : IsDigestLine manifest.digest

abbrev IsReadAt : List Happening → List Volume → ℕ → Stage → Type 0
IsReadAt happenings begun more Database = Unit {0}
IsReadAt happenings begun more (Digest database) = WasRead happenings begun more database
IsReadAt happenings begun more (Containers manifest place) = HasBoth happenings begun more manifest
IsReadAt happenings begun more (Spent name) = Unit {0}

abbrev IsRead : List Happening → List Volume → Copying → Type 0
IsRead happenings begun copying = IsReadAt happenings begun copying.more copying.stage

-- more happened
read_later : (happenings : List Happening) (h : Happening) (begun added : List Volume) (more : ℕ) (database : List ℕ) → WasRead happenings begun more database → WasRead (happenings ++ h ∷ []) (added ++ begun) more database
read_later happenings h begun added more database read = record {
  earlier = read.earlier;
  later = read.later ++ h ∷ [];
  split = ap (λ (l : List Happening). l ++ h ∷ []) read.split ∙ append_assoc read.earlier (Read ∷ read.later) (h ∷ []);
  wanted = read.wanted;
  found = read.found;
  publication = read.publication;
  newer = added ++ read.newer;
  older = read.older;
  begins = ap (λ (l : List Volume). added ++ l) read.begins ∙ sym (append_assoc added read.newer (read.publication ∷ read.older));
  has_database = read.has_database;
  none_newer = read.none_newer;
}

is_read_later : (happenings : List Happening) (h : Happening) (begun added : List Volume) (more : ℕ) (stage : Stage) → IsReadAt happenings begun more stage → IsReadAt (happenings ++ h ∷ []) (added ++ begun) more stage
is_read_later happenings h begun added more Database is = tt
is_read_later happenings h begun added more (Digest database) is = read_later happenings h begun added more database is
is_read_later happenings h begun added more (Containers manifest place) is = record { read = read_later happenings h begun added more manifest.database is.read; agrees = is.agrees; line = is.line }
is_read_later happenings h begun added more (Spent name) is = tt

-- what comes of a digest file that was read
pub record IsAgreed (database digest : List ℕ) (turn : Turn) : Type 0 where
  pub named : Named
  pub is : turn ≡ On (Containers (manifest_of database digest named) 0)
  pub names : containers_in database ≡ Ok named
  pub stated : digest_in digest ≡ Some (sha512 database)

abbrev HasEnded : Turn → Type 0
HasEnded turn = (name : Name) × (turn ≡ Ended name)

abbrev turn_of : Turn → Result Turn CopyError
turn_of turn = Ok turn

turn_same : (a b : Turn) → turn_of a ≡ turn_of b → a ≡ b
turn_same a b is = cc

agreed_turn : (database digest : List ℕ) (r : Result Named CopyError) (turn : Turn) → containers_in database ≡ r → digest_in digest ≡ Some (sha512 database)
    → onward r (λ named. turn_of (On (Containers (manifest_of database digest named) 0))) ≡ Ok turn → IsAgreed database digest turn
agreed_turn database digest (Err error) turn names stated is = absurd (cc)
agreed_turn database digest (Ok named) turn names stated is = record { named = named; is = sym (turn_same _ _ is); names = names; stated = stated }

judged_turn : (database digest want : List ℕ) (b : Bool) (turn : Turn) → bytes_eq (sha512 database) want ≡ b → digest_in digest ≡ Some want
    → cond b (turned_agreed database digest) (turn_of (Ended database_name)) ≡ Ok turn → IsAgreed database digest turn ⊎ HasEnded turn
judged_turn database digest want true turn same stated is =
    inl (agreed_turn database digest (containers_in database) turn refl (stated ∙ ap (λ (l : List ℕ). Some l) (sym (same_text (sha512 database) want (sym same)))) is)
judged_turn database digest want false turn same stated is = inr (database_name, sym (turn_same _ _ is))

files_turn : (database digest : List ℕ) (o : Option (List ℕ)) (turn : Turn) → digest_in digest ≡ o → turned_stated o database digest ≡ Ok turn → IsAgreed database digest turn ⊎ HasEnded turn
files_turn database digest None turn stated is = inr (digest_name, sym (turn_same _ _ is))
files_turn database digest (Some want) turn stated is = judged_turn database digest want (bytes_eq (sha512 database) want) turn refl stated is

-- ---- the copy reads

module _ (happenings : List Happening) (w : World) (reached : w ≡ world_after first_world happenings) (fitting : AreFitting w.begun) (stands : Stands w.begun w.shelf w.pending) where
  abbrev Goes : Stage → Type 0
  Goes stage = IsReadAt (happenings ++ Read ∷ []) w.begun w.copying.more stage

  abbrev GoesBy : Turn → Type 0
  GoesBy (On stage) = Goes stage
  GoesBy (Ended name) = Unit {0}

  database_goes : (o : Option (List ℕ)) (turn : Turn) → at w.shelf database_name ≡ o → w.copying.stage ≡ Database → turned Database (text_seen o) ≡ Ok turn → GoesBy turn
  database_goes None turn held wanted is = subst (λ (t : Turn). GoesBy t) (turn_same _ _ is) tt
  database_goes (Some database) turn held wanted is =
      let at_once = current w.begun w.shelf w.pending database stands held in
      subst (λ (t : Turn). GoesBy t) (turn_same _ _ is) (record {
        earlier = happenings;
        later = [];
        split = refl;
        wanted = ap (λ (v : World). v.copying) (sym reached) ∙ ap (λ (s : Stage). record { more = w.copying.more; stage = s }) wanted;
        found = ap (λ (v : World). at v.shelf database_name) (sym reached) ∙ held;
        publication = at_once.publication;
        newer = at_once.newer;
        older = at_once.older;
        begins = at_once.begins;
        has_database = at_once.has_database;
        none_newer = subst (λ (v : World). ended_count v.pending v.begun ≤ length at_once.older + 1) reached at_once.none_newer;
      })

  digest_goes : (database : List ℕ) (o : Option (List ℕ)) (turn : Turn) → at w.shelf digest_name ≡ o → WasRead happenings w.begun w.copying.more database → turned (Digest database) (text_seen o) ≡ Ok turn → GoesBy turn
  digest_goes database None turn held read is = subst (λ (t : Turn). GoesBy t) (turn_same _ _ is) tt
  digest_goes database (Some digest) turn held read is = elim (files_turn database digest (digest_in digest) turn refl is) [
    | inr ends ↦ subst (λ (t : Turn). GoesBy t) (sym ends.1) tt
    | inl agreed ↦ subst (λ (t : Turn). GoesBy t) (sym agreed.is) (record {
      read = read_later happenings Read w.begun [] w.copying.more database read;
      agrees = record { stated = agreed.stated; named = agreed.names };
      line = line_there w.begun w.shelf w.pending digest fitting stands held;
    })
  ]

  demand_goes : (manifest : Manifest) (place : ℕ) (o : Option Demand) (seen : Seen) (turn : Turn) → HasBoth happenings w.begun w.copying.more manifest → turned_demand manifest place o seen ≡ turn → GoesBy turn
  demand_goes manifest place None seen turn both is = subst (λ (t : Turn). GoesBy t) is (is_read_later happenings Read w.begun [] w.copying.more (Containers manifest place) both)
  demand_goes manifest place (Some demand) seen turn both is = by (meets manifest demand seen) is
    where
      by : (b : Bool) → cond b (On (Containers manifest (place + 1))) (Ended demand.name) ≡ turn → GoesBy turn
      by true goes = subst (λ (t : Turn). GoesBy t) goes (is_read_later happenings Read w.begun [] w.copying.more (Containers manifest (place + 1)) both)
      by false goes = subst (λ (t : Turn). GoesBy t) goes tt

  turn_goes : (stage : Stage) (turn : Turn) → w.copying.stage ≡ stage → IsReadAt happenings w.begun w.copying.more stage → turned stage (seen_there w.shelf (want_at stage)) ≡ Ok turn → GoesBy turn
  turn_goes Database turn wanted is goes = database_goes (at w.shelf database_name) turn refl wanted goes
  turn_goes (Digest database) turn wanted is goes = digest_goes database (at w.shelf digest_name) turn refl is goes
  turn_goes (Containers manifest place) turn wanted is goes =
      demand_goes manifest place (slice_get manifest.containers place) (seen_there w.shelf (want_at (Containers manifest place))) turn is (turn_same _ _ goes)
  turn_goes (Spent name) turn wanted is goes = subst (λ (t : Turn). GoesBy t) (turn_same _ _ goes) tt

  abbrev ended_if : Bool → ℕ → Name → Copying
  ended_if b more name = cond b (record { more = more; stage = Spent name }) (record { more = more - 1; stage = Database })

  abbrev GoesTo : Copying → Type 0
  GoesTo copying = IsRead (happenings ++ Read ∷ []) w.begun copying

  ended_goes : (b : Bool) (more : ℕ) (name : Name) → GoesTo (ended_if b more name)
  ended_goes true more name = tt
  ended_goes false more name = tt

  after_goes : (turn : Turn) → GoesBy turn → GoesTo (after_turn w.copying.more turn)
  after_goes (On stage) goes = goes
  after_goes (Ended name) goes = ended_goes (w.copying.more == 0) w.copying.more name

  read_goes : IsRead happenings w.begun w.copying → GoesTo (having_read w.shelf w.copying)
  read_goes is = by (turned w.copying.stage (seen_there w.shelf (want_of w.copying))) refl
    where
      by : (r : Result Turn CopyError) → turned w.copying.stage (seen_there w.shelf (want_of w.copying)) ≡ r
          → GoesTo (or_before w.copying (onward r (λ turn. Ok (after_turn w.copying.more turn))))
      by (Err error) was = is_read_later happenings Read w.begun [] w.copying.more w.copying.stage is
      by (Ok turn) was = after_goes turn (turn_goes w.copying.stage turn refl is was)

-- ---- whatever happens

changing_read : (happenings : List Happening) (w : World) (pending : List Alteration) → IsRead happenings w.begun w.copying → IsRead (happenings ++ Change ∷ []) (altering pending w).begun (altering pending w).copying
changing_read happenings w [] is = is_read_later happenings Change w.begun [] w.copying.more w.copying.stage is
changing_read happenings w (change ∷ rest) is = is_read_later happenings Change w.begun [] w.copying.more w.copying.stage is

beginning_read : (happenings : List Happening) (p : Volume) (w : World) (pending : List Alteration) → IsRead happenings w.begun w.copying → IsRead (happenings ++ Begin p ∷ []) (beginning p pending w).begun (beginning p pending w).copying
beginning_read happenings p w [] is = is_read_later happenings (Begin p) w.begun (p ∷ []) w.copying.more w.copying.stage is
beginning_read happenings p w (change ∷ rest) is = is_read_later happenings (Begin p) w.begun [] w.copying.more w.copying.stage is

read_by : (happenings : List Happening) (w : World) (h : Happening) → w ≡ world_after first_world happenings → AreFitting w.begun → Stands w.begun w.shelf w.pending → IsRead happenings w.begun w.copying
    → IsRead (happenings ++ h ∷ []) (world_by w h).begun (world_by w h).copying
read_by happenings w (Begin p) reached fitting stands is = beginning_read happenings p w w.pending is
read_by happenings w Change reached fitting stands is = changing_read happenings w w.pending is
read_by happenings w Read reached fitting stands is = read_goes happenings w reached fitting stands is

reached_by : (happenings : List Happening) (w : World) (h : Happening) → w ≡ world_after first_world happenings → world_by w h ≡ world_after first_world (happenings ++ h ∷ [])
reached_by happenings w h reached = ap (λ (v : World). world_by v h) reached ∙ sym (fold-append world_by first_world happenings (h ∷ []))

read_all : (rest happenings : List Happening) (w : World) → w ≡ world_after first_world happenings → AreFitting (world_after w rest).begun → Stands w.begun w.shelf w.pending → IsRead happenings w.begun w.copying
    → IsRead (happenings ++ rest) (world_after w rest).begun (world_after w rest).copying
read_all [] happenings w reached fitting stands is = subst (λ (l : List Happening). IsRead l w.begun w.copying) (sym (append-nil happenings)) is
read_all (h ∷ rest) happenings w reached fitting stands is =
    let next = fitting_after (world_by w h) rest fitting in
    subst (λ (l : List Happening). IsRead l (world_after (world_by w h) rest).begun (world_after (world_by w h) rest).copying) (append_assoc happenings (h ∷ []) rest)
    (read_all rest (happenings ++ h ∷ []) (world_by w h) (reached_by happenings w h reached) fitting (stands_by w h next stands)
    (read_by happenings w h reached (fitting_by w h next) stands is))

-- ---- one publication

pub fitting_at : (newer : List Volume) (p : Volume) (older : List Volume) → AreFitting (newer ++ p ∷ older) → IsPublication p
fitting_at [] p older fitting = fitting.0
fitting_at (q ∷ newer) p older fitting = fitting_at newer p older fitting.2

nothing_wanted : (o : Option Demand) → container_want o ≡ wants.Whole → o ≡ None
nothing_wanted None is = refl
nothing_wanted (Some demand) is = absurd (cc)

text_same : (a b : List ℕ) → Some a ≡ Some b → a ≡ b
text_same a b is = cc

-- the digest file is that of the database's publication
same_line : (p : Volume) (is : IsPublication p) (manifest : Manifest) → at p database_name ≡ Some manifest.database → Agrees manifest → IsDigestLine manifest.digest → at p digest_name ≡ Some manifest.digest
same_line p is manifest held agrees line =
    let one : sha512 line.database ≡ sha512 manifest.database = text_same _ _ (sym line.stated ∙ agrees.stated) in
    let same : is.database ≡ manifest.database = text_same _ _ (sym is.has_database ∙ held) in
    is.has_digest ∙ ap (λ (l : List ℕ). Some (digest_file_of l)) same ∙ ap (λ (l : List ℕ). Some (encode_lower l ++ codes "  texlive.tlpdb\n")) (sym one) ∙ ap (λ (l : List ℕ). Some l) (sym line.line)

same_boxes : (p : Volume) (is : IsPublication p) (manifest : Manifest) → at p database_name ≡ Some manifest.database → Agrees manifest → HoldsNamed p (record { first = manifest.containers; again = manifest.again })
same_boxes p is manifest held agrees =
    let same : is.database ≡ manifest.database = text_same _ _ (sym is.has_database ∙ held) in
    is.boxes (record { first = manifest.containers; again = manifest.again }) (ap containers_in same ∙ agrees.named)

of_one : (happenings : List Happening) (w : World) (stage : Stage) → w.copying.stage ≡ stage → AreFitting w.begun → IsReadAt happenings w.begun w.copying.more stage → want_at stage ≡ wants.Whole → IsOfOne happenings w
of_one happenings w Database is fitting both whole = absurd (cc (whole))
of_one happenings w (Digest database) is fitting both whole = absurd (cc (whole))
of_one happenings w (Spent name) is fitting both whole = absurd (cc (whole))
of_one happenings w (Containers manifest place) is fitting both whole =
    let publication = fitting_at both.read.newer both.read.publication both.read.older (subst AreFitting both.read.begins fitting) in
    record {
      manifest = manifest;
      place = place;
      is = is;
      read = both.read;
      has_digest = same_line both.read.publication publication manifest both.read.has_database both.agrees both.line;
      has_boxes = same_boxes both.read.publication publication manifest both.read.has_database both.agrees;
    }

pub one_publication : OnePublication
one_publication happenings fitting whole =
    let w : World = world_after first_world happenings in
    of_one happenings w w.copying.stage refl fitting (read_all happenings [] first_world refl fitting stands_first tt) whole
