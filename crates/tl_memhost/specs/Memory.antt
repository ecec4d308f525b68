-- What a host in memory is seen as: what stands at present, and what stood before each call that was recorded.
use Rattle.std.specs.Prelude.{◌≡◌, ◌⊎◌, not, ℕ, zero, suc, ◌+◌, ◌-◌, ◌^◌, ◌<◌, ◌≤◌, Bool, true, false, nat_le, nat_eq, if◌then◌else◌, List, [], ◌∷◌, ◌++◌, refl}
use Rattle.std.specs.List.{list_any}
use Rattle.std.specs.FinSet as set
use Rattle.std.specs.Coded.{Coded, code_by, coded×, coded_ℕ, coded_list}
use Rattle.tl_model.specs.Causes.{one_more}
use Rattle.tl_model.specs.Volume.{Name, Volume, Names, volume_code}
use Rattle.tl_model.specs.Seen.{Moment, Stretch, Seen, at_rest, changing, saying, moment_code, stretch_code}

-- what stands: what is held, the names touched since the last sync that succeeded, the bytes said, and what was held
-- at that sync, or as the host was made
pub record Standing : Type 0 where
  pub held : Volume
  pub touched : Names
  pub said : List ℕ
  pub settled : Volume

-- a call that was recorded: its number, the calls since the one before that only looked, what stood before it, and
-- what stands within it
pub record Step : Type 0 where
  pub call : ℕ
  pub rest : ℕ
  pub before : Standing
  pub during : Stretch

-- a host in memory: its recorded calls, the newest first; the calls since that only looked; what stands at present;
-- the numbers of its calls and of those that found no memory; the numbers of the calls that are to fail; its counts of
-- syncs and of faults
pub record Memory : Type 0 where
  pub steps : List Step
  pub rest : ℕ
  pub present : Standing
  pub calls : ℕ
  pub short : ℕ
  pub failing : List ℕ
  pub syncs : ℕ
  pub faults : ℕ

-- what of it a stop may leave
abbrev pub moment_of : Standing → Moment
moment_of s = record { held = s.held; touched = s.touched; said = s.said }

-- so many stretches, each of them this one
abbrev pub many : ℕ → Stretch → List Stretch
many zero s = []
many (suc n) s = many n s ++ s ∷ []

-- the stretches of recorded calls, the oldest first; a call that only looked is one at rest
abbrev pub stretches : List Step → List Stretch
stretches [] = []
stretches (s ∷ ss) = stretches ss ++ many s.rest (at_rest (moment_of s.before)) ++ s.during ∷ []

-- what a memory host is seen as
abbrev pub seen : Memory → Seen
seen m = record { present = moment_of m.present; past = stretches m.steps ++ many m.rest (at_rest (moment_of m.present)); syncs = m.syncs; faults = m.faults }

-- what stood before the call of a number, by the recorded calls, the newest first, and what stands after them
abbrev pub before : ℕ → List Step → Standing → Standing
before call [] now = now
before call (s ∷ ss) now = if nat_le call s.call then before call ss s.before else now

-- what stood before the call of a number
abbrev pub before_call : Memory → ℕ → Standing
before_call m call = before call m.steps m.present

-- a host as it is made of some files
abbrev pub fresh : Volume → Memory
fresh volume = record { steps = []; rest = 0; present = record { held = volume; touched = set.empty; said = []; settled = volume }; calls = 0; short = 0; failing = []; syncs = 0; faults = 0 }

-- the next call is to fail
abbrev pub is_named : Memory → Bool
is_named m = list_any (λ n. nat_eq n m.calls) m.failing

-- each kind of call

-- a call that was recorded, and what stands after it
abbrev pub recorded : Memory → Stretch → Standing → Memory
recorded m during after = record m { steps = record { call = m.calls; rest = m.rest; before = m.present; during = during } ∷ m.steps; rest = 0; present = after; calls = one_more m.calls }

-- a call that only looked
abbrev pub looked : Memory → Memory
looked m = record m { rest = one_more m.rest; calls = one_more m.calls }

-- one fault more
abbrev pub failed : Memory → Memory
failed m = record m { faults = one_more m.faults }

-- a call that found no memory
abbrev pub lost : Memory → Memory
lost m = record m { calls = one_more m.calls; short = one_more m.short; faults = one_more m.faults }

-- a name is touched, and the volume is this one
abbrev pub changed : Name → Volume → Memory → Memory
changed name volume m = recorded m (changing name (moment_of m.present)) (record m.present { held = volume; touched = set.insert m.present.touched name })

-- one sync more
abbrev pub synced : Memory → Memory
synced m = record m { syncs = one_more m.syncs }

-- no name is touched
abbrev pub settled : Memory → Memory
settled m = synced (recorded m (at_rest (moment_of m.present)) (record m.present { touched = set.empty; settled = m.present.held }))

-- of the bytes that were being said, these are said
abbrev pub told : List ℕ → List ℕ → Memory → Memory
told bytes front m = recorded m (saying bytes (moment_of m.present)) (record m.present { said = m.present.said ++ front })

-- how the numbers of calls and of moments meet

-- the moments of recorded calls and of those before them that only looked
abbrev pub moments : List Step → ℕ
moments [] = 0
moments (s ∷ ss) = moments ss + s.rest + 1

-- a recorded call has as many moments before it as calls that found memory, or more
abbrev pub AreCounted : ℕ → List Step → Type 0
AreCounted short [] = Unit {0}
AreCounted short (s ∷ ss) = (s.call ≤ moments ss + s.rest + short) × AreCounted short ss

-- each call but those that found no memory is one moment; at the end of its type the number of calls stands still
pub record IsCounted (m : Memory) : Type 0 where
  pub least : m.calls ≤ moments m.steps + m.rest + m.short
  pub most : m.calls < 2 ^ 64 - 1 → moments m.steps + m.rest + m.short ≤ m.calls
  pub each : AreCounted m.short m.steps

-- codes, by which a memory host can be the value of a type

-- how what stands is coded
abbrev pub standing_code : Coded Standing
standing_code = code_by (Moment × Volume) (coded× moment_code volume_code) (λ s. (moment_of s, s.settled)) (λ p. record { held = p.0.held; touched = p.0.touched; said = p.0.said; settled = p.1 }) (λ _. refl)

-- how a recorded call is coded
abbrev pub step_code : Coded Step
step_code = code_by (ℕ × (ℕ × (Standing × Stretch))) (coded× coded_ℕ (coded× coded_ℕ (coded× standing_code stretch_code))) (λ s. (s.call, (s.rest, (s.before, s.during)))) (λ p. record { call = p.0; rest = p.1.0; before = p.1.1.0; during = p.1.1.1 }) (λ _. refl)

-- how a host in memory is coded
abbrev pub memory_code : Coded Memory
memory_code = code_by (List Step × (ℕ × (Standing × (ℕ × (ℕ × (List ℕ × (ℕ × ℕ)))))))
    (coded× (coded_list step_code) (coded× coded_ℕ (coded× standing_code (coded× coded_ℕ (coded× coded_ℕ (coded× (coded_list coded_ℕ) (coded× coded_ℕ coded_ℕ)))))))
    (λ m. (m.steps, (m.rest, (m.present, (m.calls, (m.short, (m.failing, (m.syncs, m.faults))))))))
    (λ p. record { steps = p.0; rest = p.1.0; present = p.1.1.0; calls = p.1.1.1.0; short = p.1.1.1.1.0; failing = p.1.1.1.1.1.0; syncs = p.1.1.1.1.1.1.0; faults = p.1.1.1.1.1.1.1 })
    (λ _. refl)

-- what a call of the host does: what it is to do, where it isn't named; it fails as a named call does; or it found no
-- memory
abbrev pub Outcome : Bool → Memory → Memory → Memory → Memory → Memory → Type 0
Outcome ok old new done refused short = ((is_named old ≡ false) × (ok ≡ true) × (new ≡ done)) ⊎ (((is_named old ≡ true) × (ok ≡ false) × (new ≡ refused)) ⊎ ((ok ≡ false) × (new ≡ short)))

-- a call that only looks fails exactly where it is named
abbrev pub Looks : Bool → Memory → Memory → Type 0
Looks ok old new = (ok ≡ not (is_named old)) × (new ≡ (if is_named old then failed (looked old) else looked old))
