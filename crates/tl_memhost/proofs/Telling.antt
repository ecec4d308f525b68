-- Each kind of call, as a host tells it.
use Rattle.std.proofs.Common.{◌≡◌, ◌⊎◌, inl, inr, ℕ, suc, ◌-◌, ◌^◌, true, false, List, [], ◌∷◌, ◌++◌, length, refl, sym, ◌∙◌, ap, subst, arith, append_assoc}
use Rattle.std.proofs.lemmas.Bool.{true≢false, cases_lt}
use Rattle.std.proofs.lemmas.List.{append-nil}
use Rattle.std.proofs.Math.Seq.{take-length}
use Rattle.tl_model.specs.Causes.{one_more}
use Rattle.tl_model.specs.Volume.{Name, Volume, SameBut}
use Rattle.tl_model.specs.Seen.{Stretch, at_rest, Quiet, Changes, Syncs, Says}
use Rattle.tl_memhost.specs.Memory.{Memory, many, stretches, moment_of, seen, looked, failed, synced, changed, told}

-- a count goes on by one, or stands still
one_more_cases : (n : ℕ) → (one_more n ≡ suc n) ⊎ (one_more n ≡ n)
one_more_cases n = elim (cases_lt n (2 ^ 64 - 1)) [
  | inl small ↦ inl (omega arith)
  | inr big ↦ inr (omega arith)
]

-- one look more is one stretch at rest more, or none
rest_cases : (before : List Stretch) (n : ℕ) (s : Stretch) → (before ++ many (one_more n) s ≡ before ++ many n s ++ s ∷ []) ⊎ (before ++ many (one_more n) s ≡ before ++ many n s)
rest_cases before n s = elim (one_more_cases n) [
  | inl e ↦ inl (ap (λ (k : ℕ). before ++ many k s) e ∙ sym (append_assoc before (many n s) (s ∷ [])))
  | inr e ↦ inr (ap (λ (k : ℕ). before ++ many k s) e)
]

quiet : (m : Memory) → Quiet (seen m) (seen (looked m))
quiet m = elim (rest_cases (stretches m.steps) m.rest (at_rest (moment_of m.present))) [
  | inl e ↦ record { present = refl; syncs = refl; more = at_rest (moment_of m.present) ∷ []; past = e; each = (refl, tt) }
  | inr e ↦ record { present = refl; syncs = refl; more = []; past = e ∙ sym (append-nil (seen m).past); each = tt }
]

pub quiet_looked : (m m' : Memory) → m' ≡ looked m → Quiet (seen m) (seen m')
quiet_looked m m' is = subst (λ (x : Memory). Quiet (seen m) (seen x)) (sym is) (quiet m)

pub quiet_failed : (m m' : Memory) → m' ≡ failed (looked m) → Quiet (seen m) (seen m')
quiet_failed m m' is = subst (λ (x : Memory). Quiet (seen m) (seen x)) (sym is) (let q = quiet m in record { present = q.present; syncs = q.syncs; more = q.more; past = q.past; each = q.each })

pub changes : (m m' : Memory) (name : Name) (volume : Volume) → m' ≡ changed name volume m → SameBut name m.present.held volume → Changes true name (seen m) (seen m')
changes m m' name volume is same = subst (λ (x : Memory). Changes true name (seen m) (seen x)) (sym is) (record {
  others = same;
  said = refl;
  syncs = refl;
  entry = inl (record { touched = refl; past = append-nil _ });
})

pub says : (m m' : Memory) (bytes : List ℕ) → m' ≡ told bytes bytes m → Says true bytes (seen m) (seen m')
says m m' bytes is = subst (λ (x : Memory). Says true bytes (seen m) (seen x)) (sym is) (record {
  held = refl;
  touched = refl;
  count = length bytes;
  said = ap (λ (l : List ℕ). m.present.said ++ l) (sym (take-length bytes));
  whole = λ _. refl;
  syncs = refl;
  entry = inl (append-nil _);
})

pub syncs_failed : (m m' : Memory) → m' ≡ failed (synced (looked m)) → Syncs false (seen m) (seen m')
syncs_failed m m' is = subst (λ (x : Memory). Syncs false (seen m) (seen x)) (sym is) (record {
  held = refl;
  said = refl;
  settled = λ no_way. absurd (true≢false (sym no_way));
  unsettled = λ _. refl;
  syncs = refl;
  entry = elim (rest_cases (stretches m.steps) m.rest (at_rest (moment_of m.present))) [ inl e ↦ inl e | inr e ↦ inr (refl, e) ];
})
