-- What a host is seen as, and what a stop may leave of it.
use Rattle.std.specs.Prelude.{◌≡◌, ◌⊎◌, ℕ, Bool, true, false, IsTrue, List, [], ◌∷◌, ◌++◌, length, take, drop, refl}
use Rattle.std.specs.List.{AllByRecursion, Contains}
use Rattle.std.specs.FinMap as map
use Rattle.std.specs.FinSet as set
use Rattle.std.specs.Coded.{Coded, code_by, coded×, coded_ℕ, coded_list}
use Rattle.tl_model.specs.Causes.{one_more}
use Rattle.tl_model.specs.Volume.{Name, Volume, Names, at, SameBut, volume_code, names_code}

-- what stands at a moment: what is held, the names touched since the last sync that succeeded, and the bytes said
pub record Moment : Type 0 where
  pub held : Volume
  pub touched : Names
  pub said : List ℕ

-- from one moment to the next: the bytes that are being said come one by one
pub record Stretch : Type 0 where
  pub held : Volume
  pub touched : Names
  pub said : List ℕ
  pub saying : List ℕ

-- a host: what stands at present, and each stretch before, with its counts of syncs and of faults
pub record Seen : Type 0 where
  pub present : Moment
  pub past : List Stretch
  pub syncs : ℕ
  pub faults : ℕ

-- what holds where the host tells what it holds
abbrev pub Told : Bool → Type 0 → Type 0
Told tells P = IsTrue tells → P

-- a stop leaves this image, with these bytes said: every touched name is absent or holds any bytes, every other name
-- holds what a read gives
pub record IsPicture (at_stop : Stretch) (image : Volume) (said : List ℕ) : Type 0 where
  pub others : (name : Name) → set.contains at_stop.touched name ≡ false → at image name ≡ at at_stop.held name
  pub count : ℕ
  pub words : said ≡ at_stop.said ++ take count at_stop.saying

-- between two calls
abbrev pub at_rest : Moment → Stretch
at_rest m = record { held = m.held; touched = m.touched; said = m.said; saying = [] }

-- within a call that changes one name
abbrev pub changing : Name → Moment → Stretch
changing name m = record { held = m.held; touched = set.insert m.touched name; said = m.said; saying = [] }

-- while bytes are being said
abbrev pub saying : List ℕ → Moment → Stretch
saying bytes m = record { held = m.held; touched = m.touched; said = m.said; saying = bytes }

-- the number of the moment
abbrev pub moment : Seen → ℕ
moment seen = length seen.past

-- a stop at some moment since t, within a call or between two, may leave this picture
abbrev pub Could : Seen → ℕ → Volume → List ℕ → Type 0
Could seen t image said = (at_stop : Stretch) × Contains (drop t (seen.past ++ at_rest seen.present ∷ [])) at_stop × IsPicture at_stop image said

-- each picture of a stretch has P
abbrev pub Leaves : (Volume → List ℕ → Type 0) → Stretch → Type 0
Leaves P at_stop = (image : Volume) (said : List ℕ) → IsPicture at_stop image said → P image said

-- each picture since old, a host that is new by now, has P
pub record Since (old new : Seen) (P : Volume → List ℕ → Type 0) : Type 0 where
  pub more : List Stretch
  pub past : new.past ≡ old.past ++ more
  pub each : AllByRecursion (Leaves P) more
  pub present : Leaves P (at_rest new.present)

-- nothing has changed but the count of faults, and no entry was made
pub record Unchanged (old new : Seen) : Type 0 where
  pub present : new.present ≡ old.present
  pub past : new.past ≡ old.past
  pub syncs : new.syncs ≡ old.syncs

-- calls that change nothing: each entry is at rest
pub record Quiet (old new : Seen) : Type 0 where
  pub present : new.present ≡ old.present
  pub syncs : new.syncs ≡ old.syncs
  pub more : List Stretch
  pub past : new.past ≡ old.past ++ more
  pub each : AllByRecursion (λ m. m ≡ at_rest old.present) more

-- one entry is made, and the name is touched
pub record Touches (name : Name) (old new : Seen) : Type 0 where
  pub touched : new.present.touched ≡ set.insert old.present.touched name
  pub past : new.past ≡ old.past ++ changing name old.present ∷ []

-- a call that changes one name: it touches the name, or it failed and nothing has changed at all
pub record Changes (ok : Bool) (name : Name) (old new : Seen) : Type 0 where
  pub others : SameBut name old.present.held new.present.held
  pub said : new.present.said ≡ old.present.said
  pub syncs : new.syncs ≡ old.syncs
  pub entry : Touches name old new ⊎ ((ok ≡ false) × Unchanged old new)

-- a sync: where it succeeds no name is touched after it; where it failed it may have made no entry
pub record Syncs (ok : Bool) (old new : Seen) : Type 0 where
  pub held : new.present.held ≡ old.present.held
  pub said : new.present.said ≡ old.present.said
  pub settled : ok ≡ true → new.present.touched ≡ set.empty
  pub unsettled : ok ≡ false → new.present.touched ≡ old.present.touched
  pub syncs : new.syncs ≡ one_more old.syncs
  pub entry : (new.past ≡ old.past ++ at_rest old.present ∷ []) ⊎ ((ok ≡ false) × (new.past ≡ old.past))

-- of the bytes, this many are said; where the call failed nothing may have changed at all
pub record Says (ok : Bool) (bytes : List ℕ) (old new : Seen) : Type 0 where
  pub held : new.present.held ≡ old.present.held
  pub touched : new.present.touched ≡ old.present.touched
  pub count : ℕ
  pub said : new.present.said ≡ old.present.said ++ take count bytes
  pub whole : ok ≡ true → new.present.said ≡ old.present.said ++ bytes
  pub syncs : new.syncs ≡ old.syncs
  pub entry : (new.past ≡ old.past ++ saying bytes old.present ∷ []) ⊎ ((ok ≡ false) × Unchanged old new)

-- how a moment is coded
abbrev pub moment_code : Coded Moment
moment_code = code_by (Volume × (Names × List ℕ)) (coded× volume_code (coded× names_code (coded_list coded_ℕ))) (λ m. (m.held, (m.touched, m.said))) (λ p. record { held = p.0; touched = p.1.0; said = p.1.1 }) (λ _. refl)

-- how a stretch is coded
abbrev pub stretch_code : Coded Stretch
stretch_code = code_by (Moment × List ℕ) (coded× moment_code (coded_list coded_ℕ)) (λ m. (record { held = m.held; touched = m.touched; said = m.said }, m.saying)) (λ p. record { held = p.0.held; touched = p.0.touched; said = p.0.said; saying = p.1 }) (λ _. refl)

-- by which a host can be the value of a type
abbrev pub seen_code : Coded Seen
seen_code = code_by (Moment × (List Stretch × (ℕ × ℕ))) (coded× moment_code (coded× (coded_list stretch_code) (coded× coded_ℕ coded_ℕ))) (λ s. (s.present, (s.past, (s.syncs, s.faults)))) (λ p. record { present = p.0; past = p.1.0; syncs = p.1.1.0; faults = p.1.1.1 }) (λ _. refl)

-- a host that tells nothing but its count of faults
abbrev pub untold : ℕ → Seen
untold faults = record { present = record { held = map.empty; touched = set.empty; said = [] }; past = []; syncs = 0; faults = faults }
