-- A step that takes files, as a sink does.
use Rattle.std.proofs.Common.{◌≡◌, ◌≤◌, ◌-◌, ◌==◌, ◌&&◌, ◌⊎◌, ℕ, Bool, true, false, cond, List, [], ◌∷◌, ◌++◌, length, Option, Some, None, refl, sym, ◌∙◌, ap, subst, inl, inr, arith, eq-eqb}
use Rattle.std.specs.Prelude.{not, nat_le}
use Rattle.std.specs.FinSet as set
use Rattle.std.proofs.lemmas.Bool.{cases_Bool, true≢false}
use Rattle.std.proofs.lemmas.Bool.Decides.{nat_tests}
use Rattle.std.proofs.lemmas.List.{append-nil}
use Rattle.tl_model.specs.Volume.{Name, Names}
use Rattle.tl_model.specs.Seen.{Seen, Told}
use Rattle.tl_journal.specs.Spent.{Stages}
use Rattle.tl_journal.proofs.Stagings.{stages_join}
use Rattle.tl_tree.specs.Opened.{Opened, over, may_begin, with_file, may_come, with_piece, with_bytes, given, given_file, given_piece}
use Rattle.tl_fetch.specs.Sinks.{SinkSeen, IsAwaited, HasBegun, HasBrought, behind_last}
use Rattle.tl_fill.specs.StepSinks.{sink_seen, StepGoesOn, StepFailed, StepSince}
use Rattle.tl_fill.specs.declared.sink.Held.{Held}
use Rattle.tl_fill.specs.declared.sink.Held.TheVariants.{Open, Lost}

-- bytes behind the last file, in the words of a step and of a sink
same_behind : (bytes : List ℕ) (files : List (Name × List ℕ)) → with_bytes bytes files ≡ behind_last bytes files
same_behind bytes [] = refl
same_behind bytes (file ∷ []) = refl
same_behind bytes (file ∷ more ∷ files) = ap (λ (l : List (Name × List ℕ)). file ∷ l) (same_behind bytes (more ∷ files))

-- no bytes behind the last file
nothing_behind : (files : List (Name × List ℕ)) → files ≡ behind_last [] files
nothing_behind [] = refl
nothing_behind (file ∷ []) = ap (λ (l : List ℕ). (file.0, l) ∷ []) (sym (append-nil file.1))
nothing_behind (file ∷ more ∷ files) = ap (λ (l : List (Name × List ℕ)). file ∷ l) (nothing_behind (more ∷ files))

-- a file that a sink awaits may begin
in_place : (path : Name) (lacks : ℕ) (awaits : Names) (astray : Bool) → cond astray 0 lacks ≡ 0 → set.contains (cond astray set.empty awaits) path ≡ true
    → (astray ≡ false) × ((not astray && ((lacks == 0) && set.contains awaits path)) ≡ true)
in_place path lacks awaits true none taken = absurd (true≢false (sym taken ∙ set.contains-empty _ path))
in_place path lacks awaits false none taken = (refl, ap (λ (b : Bool). b && set.contains awaits path) (eq-eqb lacks 0 none) ∙ taken)

-- bytes that a sink lacks may come; where the step is astray there are none
come_in_place : (count lacks : ℕ) (astray : Bool) → count ≤ cond astray 0 lacks
    → ((astray ≡ false) × ((not astray && nat_le count lacks) ≡ true)) ⊎ ((astray ≡ true) × ((count ≡ 0) × ((not astray && nat_le count lacks) ≡ false)))
come_in_place count lacks true le = inr (refl, (omega (arith, le), refl))
come_in_place count lacks false le = inl (refl, grind (arith, nat_tests, le))

module _ {H : Type 0} (seen : H → Seen) (before after : ℕ) (old new : Opened) where
  abbrev first : SinkSeen
  first = sink_seen seen (Some (Open old)) before

  abbrev next : SinkSeen
  next = sink_seen seen (Some (Open new)) after

  module _ (path : Name) (awaited : IsAwaited path first) where
    straight : old.astray ≡ false
    straight = (in_place path old.lacks old.awaits old.astray awaited.whole awaited.taken).0

    may : may_begin path old ≡ true
    may = (in_place path old.lacks old.awaits old.astray awaited.whole awaited.taken).1

    pub given_begun : given new ≡ given_file path old → next.given ≡ first.given ++ (path, []) ∷ []
    given_begun is = is ∙ ap (λ (b : Bool). cond b (given old ++ (path, []) ∷ []) (given old)) may

    module _ (size : ℕ) (is : new ≡ with_file path size (over new.seen old)) where
      is_begun : new ≡ record old { seen = new.seen; awaits = set.remove old.awaits path; lacks = size }
      is_begun = is ∙ ap (λ (b : Bool). cond b (record (over new.seen old) { awaits = set.remove old.awaits path; lacks = size }) (record (over new.seen old) { astray = true })) may

      pub has_begun : HasBegun path size first next
      has_begun = record {
        takes = ap (λ (s : Opened). cond s.astray set.empty s.awaits) is_begun ∙ ap (λ (b : Bool). cond b set.empty (set.remove old.awaits path)) straight
            ∙ sym (ap (λ (b : Bool). set.remove (cond b set.empty old.awaits) path) straight);
        lacks = ap (λ (s : Opened). cond s.astray 0 s.lacks) is_begun ∙ ap (λ (b : Bool). cond b 0 size) straight;
      }

      pub goes_begun : (tells : Bool) → Told tells (Stages old.seen new.seen) → old.seen.faults ≤ new.seen.faults → StepGoesOn tells old new
      goes_begun tells stages later = record {
        db = ap (λ (s : Opened). s.db) is_begun;
        parts = ap (λ (s : Opened). s.parts) is_begun;
        label = ap (λ (s : Opened). s.label) is_begun;
        astray = ap (λ (s : Opened). s.astray) is_begun;
        stages = stages;
        later = later;
      }

  module _ (bytes : List ℕ) (le : length bytes ≤ first.lacks) where
    pub given_brought : given new ≡ given_piece bytes old → next.given ≡ behind_last bytes first.given
    given_brought is = elim (come_in_place (length bytes) old.lacks old.astray le) [
      | inl come ↦ is ∙ ap (λ (b : Bool). cond b (with_bytes bytes (given old)) (given old)) come.1 ∙ same_behind bytes (given old)
      | inr none ↦ is ∙ ap (λ (b : Bool). cond b (with_bytes bytes (given old)) (given old)) none.1.1 ∙ nothing_behind (given old)
          ∙ ap (λ (l : List ℕ). behind_last l (given old)) (sym (no_bytes bytes none.1.0))
    ]
      where
        no_bytes : (l : List ℕ) → length l ≡ 0 → l ≡ []
        no_bytes [] is = refl
        no_bytes (x ∷ xs) is = absurd (omega arith)

    module _ (is : new ≡ with_piece (length bytes) (over new.seen old)) where
      by_test : (b : Bool) → may_come (length bytes) old ≡ b → new ≡ cond b (record old { seen = new.seen; lacks = old.lacks - length bytes }) (record old { seen = new.seen; astray = true })
      by_test b may = is ∙ ap (λ (b : Bool). cond b (record old { seen = new.seen; lacks = old.lacks - length bytes }) (record old { seen = new.seen; astray = true })) may

      pub has_brought : HasBrought (length bytes) first next
      has_brought = elim (come_in_place (length bytes) old.lacks old.astray le) [
        | inl come ↦ record {
          takes = ap (λ (s : Opened). cond s.astray set.empty s.awaits) (by_test true come.1);
          lacks = ap (λ (s : Opened). cond s.astray 0 s.lacks) (by_test true come.1) ∙ ap (λ (b : Bool). cond b 0 (old.lacks - length bytes)) come.0
              ∙ sym (ap (λ (b : Bool). cond b 0 old.lacks - length bytes) come.0);
        }
        | inr none ↦ record {
          takes = ap (λ (s : Opened). cond s.astray set.empty s.awaits) (by_test false none.1.1) ∙ sym (ap (λ (b : Bool). cond b set.empty old.awaits) none.0);
          lacks = ap (λ (s : Opened). cond s.astray 0 s.lacks) (by_test false none.1.1)
              ∙ sym (ap (λ (b : Bool). cond b 0 old.lacks - length bytes) none.0 ∙ ap (λ (n : ℕ). 0 - n) none.1.0);
        }
      ]

      same_astray : new.astray ≡ old.astray
      same_astray = elim (come_in_place (length bytes) old.lacks old.astray le) [
        | inl come ↦ ap (λ (s : Opened). s.astray) (by_test true come.1)
        | inr none ↦ ap (λ (s : Opened). s.astray) (by_test false none.1.1) ∙ sym none.0
      ]

      same_of : {X : Type 0} (field : Opened → X) → ((s : Opened) (n : ℕ) → field (record s { lacks = n }) ≡ field s) → ((s : Opened) → field (record s { astray = true }) ≡ field s)
          → ((s : Opened) (h : Seen) → field (record s { seen = h }) ≡ field s) → field new ≡ field old
      same_of field lacking straying over_host = elim (cases_Bool (may_come (length bytes) old)) [
        | inl may ↦ ap field (by_test true may) ∙ lacking (record old { seen = new.seen }) (old.lacks - length bytes) ∙ over_host old new.seen
        | inr may ↦ ap field (by_test false may) ∙ straying (record old { seen = new.seen }) ∙ over_host old new.seen
      ]

      pub goes_brought : (tells : Bool) → Told tells (Stages old.seen new.seen) → old.seen.faults ≤ new.seen.faults → StepGoesOn tells old new
      goes_brought tells stages later = record {
        db = same_of (λ s. s.db) (λ s n. refl) (λ s. refl) (λ s h. refl);
        parts = same_of (λ s. s.parts) (λ s n. refl) (λ s. refl) (λ s h. refl);
        label = same_of (λ s. s.label) (λ s n. refl) (λ s. refl) (λ s h. refl);
        astray = same_astray;
        stages = stages;
        later = later;
      }

-- a step that went on goes on
goes_join : (tells : Bool) (old mid new : Opened) → StepGoesOn tells old mid → StepGoesOn tells mid new → StepGoesOn tells old new
goes_join tells old mid new far near = record {
  db = near.db ∙ far.db;
  parts = near.parts ∙ far.parts;
  label = near.label ∙ far.label;
  astray = near.astray ∙ far.astray;
  stages = λ t. stages_join old.seen mid.seen new.seen (far.stages t) (near.stages t);
  later = omega (arith, far.later, near.later);
}

fails_join : (tells : Bool) (old mid : Opened) (host : Seen) → StepGoesOn tells old mid → StepFailed tells mid host → StepFailed tells old host
fails_join tells old mid host far near = record {
  stages = λ t. stages_join old.seen mid.seen host (far.stages t) (near.stages t);
  later = omega (arith, far.later, near.later);
  rose = omega (arith, far.later, near.rose);
}

module _ {H : Type 0} (tells : Bool) (seen : H → Seen) where
  pub since_on : (first : Option (Held H)) (before count : ℕ) (mid new : Opened) → StepSince tells seen first before (Some (Open mid)) count → StepGoesOn tells mid new → StepSince tells seen first before (Some (Open new)) count
  since_on (Some (Open old)) before count mid new far near = (goes_join tells old mid new far.0 near, far.1)
  since_on (Some (Lost host)) before count mid new far near = tt
  since_on None before count mid new far near = tt

  pub since_lost : (first : Option (Held H)) (before count : ℕ) (mid : Opened) (host : H) → StepSince tells seen first before (Some (Open mid)) count → StepFailed tells mid (seen host) → StepSince tells seen first before (Some (Lost host)) count
  since_lost (Some (Open old)) before count mid host far near = fails_join tells old mid (seen host) far.0 near
  since_lost (Some (Lost other)) before count mid host far near = tt
  since_lost None before count mid host far near = tt

  -- a sink whose step went on
  pub since_step : (first held now : Option (Held H)) (before later count : ℕ) (mid new : Opened) → held ≡ Some (Open mid) → now ≡ Some (Open new) → count ≡ later → StepSince tells seen first before held later → StepGoesOn tells mid new
      → StepSince tells seen first before now count
  since_step first held now before later count mid new was is same far near =
      subst (λ (h : Option (Held H)). StepSince tells seen first before h count) (sym is)
      (subst (λ (n : ℕ). StepSince tells seen first before (Some (Open new)) n) (sym same)
      (since_on first before later mid new (subst (λ (h : Option (Held H)). StepSince tells seen first before h later) was far) near))

  -- a sink whose step failed
  pub since_failed : (first held now : Option (Held H)) (before later count : ℕ) (mid : Opened) (host : H) → held ≡ Some (Open mid) → now ≡ Some (Lost host) → StepSince tells seen first before held later → StepFailed tells mid (seen host)
      → StepSince tells seen first before now count
  since_failed first held now before later count mid host was is far near =
      subst (λ (h : Option (Held H)). StepSince tells seen first before h count) (sym is)
      (lost_any first count (since_lost first before later mid host (subst (λ (h : Option (Held H)). StepSince tells seen first before h later) was far) near))
    where
      lost_any : (first : Option (Held H)) (count : ℕ) → StepSince tells seen first before (Some (Lost host)) later → StepSince tells seen first before (Some (Lost host)) count
      lost_any (Some (Open old)) count failed = failed
      lost_any (Some (Lost other)) count failed = tt
      lost_any None count failed = tt
