-- What a run of calls touches.
use Rattle.std.specs.Prelude.{◌≡◌, ◌≢◌, Bool, true, false, List, [], ◌∷◌, ◌++◌, refl}
use Rattle.std.specs.List.{AllByRecursion}
use Rattle.std.specs.FinSet as set
use Rattle.std.proofs.Common.{sym, ◌∙◌, ap, subst, inl, inr, append_assoc}
use Rattle.std.proofs.lemmas.List.{append-nil}
use Rattle.tl_model.specs.Volume.{Name, Volume, at, contains-insert_apart}
use Rattle.tl_model.specs.Seen.{Moment, Stretch, Seen, Quiet, Changes, Syncs, at_rest, changing}
use Rattle.tl_model.specs.Pictures.{changes_touched}

-- each name that isn't one of a set holds what it held, and is touched only if it was
abbrev pub Spares : (Name → Type 0) → Moment → Stretch → Type 0
Spares may old now = (name : Name) → (may name → ⊥) → (at now.held name ≡ at old.held name) × (set.contains old.touched name ≡ false → set.contains now.touched name ≡ false)

-- since old no name but those of a set has been changed or touched: not at present, and at no entry that was made
pub record TouchesOnly (may : Name → Type 0) (old new : Seen) : Type 0 where
  pub more : List Stretch
  pub past : new.past ≡ old.past ++ more
  pub each : AllByRecursion (Spares may old.present) more
  pub present : Spares may old.present (at_rest new.present)

-- both lists have P, so their join has it
all_append : {X : Type 0} (P : X → Type 0) (xs ys : List X) → AllByRecursion P xs → AllByRecursion P ys → AllByRecursion P (xs ++ ys)
all_append P [] ys a b = b
all_append P (x ∷ xs) ys a b = (a.0, all_append P xs ys a.1 b)

-- what follows from P holds of each element too
all_weaker : {X : Type 0} (P Q : X → Type 0) → ((x : X) → P x → Q x) → (xs : List X) → AllByRecursion P xs → AllByRecursion Q xs
all_weaker P Q w [] a = tt
all_weaker P Q w (x ∷ xs) a = (w x a.0, all_weaker P Q w xs a.1)

-- before the first call
pub only_start : (may : Name → Type 0) (s : Seen) → TouchesOnly may s s
only_start may s = record { more = []; past = sym (append-nil s.past); each = tt; present = λ name out. (refl, λ none. none) }

-- one entry more
only_step : (may : Name → Type 0) (old mid new : Seen) (during : Stretch) → TouchesOnly may old mid → new.past ≡ mid.past ++ during ∷ [] → Spares may old.present during → Spares may old.present (at_rest new.present) → TouchesOnly may old new
only_step may old mid new during far past here present = record {
  more = far.more ++ during ∷ [];
  past = past ∙ ap (λ (l : List Stretch). l ++ during ∷ []) far.past ∙ append_assoc old.past far.more (during ∷ []);
  each = all_append _ far.more (during ∷ []) far.each (here, tt);
  present = present;
}

-- a call that made no entry
only_still : (may : Name → Type 0) (old mid new : Seen) → TouchesOnly may old mid → new.past ≡ mid.past → Spares may old.present (at_rest new.present) → TouchesOnly may old new
only_still may old mid new far past present = record { more = far.more; past = past ∙ far.past; each = far.each; present = present }

-- a call that changes a name of the set
pub only_change : (may : Name → Type 0) (old mid new : Seen) (ok : Bool) (name : Name) → may name → TouchesOnly may old mid → Changes ok name mid new → TouchesOnly may old new
only_change may old mid new ok name here far change = elim change.entry [
  | inl entry ↦ only_step may old mid new (changing name mid.present) far entry.past during after
  | inr none ↦ only_still may old mid new far none.1.past after
]
  where
    apart : (q : Name) → (may q → ⊥) → q ≢ name
    apart q out is = out (subst may (sym is) here)

    during : Spares may old.present (changing name mid.present)
    during q out = ((far.present q out).0, λ none. contains-insert_apart mid.present.touched name q (apart q out) ∙ (far.present q out).1 none)

    after : Spares may old.present (at_rest new.present)
    after q out = (change.others q (apart q out) ∙ (far.present q out).0, λ none. changes_touched ok name mid new change q (apart q out) ∙ (far.present q out).1 none)

-- what a sync leaves touched was touched
pub sync_less : (ok : Bool) (mid new : Seen) → Syncs ok mid new → (name : Name) → set.contains mid.present.touched name ≡ false → set.contains new.present.touched name ≡ false
sync_less true mid new sync name none = ap (λ (s : _). set.contains s name) (sync.settled refl) ∙ set.contains-empty _ name
sync_less false mid new sync name none = ap (λ (s : _). set.contains s name) (sync.unsettled refl) ∙ none

-- a sync, also one that failed
pub only_sync : (may : Name → Type 0) (old mid new : Seen) (ok : Bool) → TouchesOnly may old mid → Syncs ok mid new → TouchesOnly may old new
only_sync may old mid new ok far sync = elim sync.entry [
  | inl entry ↦ only_step may old mid new (at_rest mid.present) far entry far.present after
  | inr none ↦ only_still may old mid new far none.1 after
]
  where
    after : Spares may old.present (at_rest new.present)
    after q out = (ap (λ (v : Volume). at v q) sync.held ∙ (far.present q out).0, λ none. sync_less ok mid new sync q ((far.present q out).1 none))

-- calls that change nothing
pub only_quiet : (may : Name → Type 0) (old mid new : Seen) → TouchesOnly may old mid → Quiet mid new → TouchesOnly may old new
only_quiet may old mid new far quiet = record {
  more = far.more ++ quiet.more;
  past = quiet.past ∙ ap (λ (l : List Stretch). l ++ quiet.more) far.past ∙ append_assoc old.past far.more quiet.more;
  each = all_append _ far.more quiet.more far.each (all_weaker _ (Spares may old.present) (λ m is. subst (Spares may old.present) (sym is) far.present) quiet.more quiet.each);
  present = subst (λ (m : Moment). Spares may old.present (at_rest m)) (sym quiet.present) far.present;
}

-- one run after another
pub only_join : (may : Name → Type 0) (old mid new : Seen) → TouchesOnly may old mid → TouchesOnly may mid new → TouchesOnly may old new
only_join may old mid new far near = record {
  more = far.more ++ near.more;
  past = near.past ∙ ap (λ (l : List Stretch). l ++ near.more) far.past ∙ append_assoc old.past far.more near.more;
  each = all_append _ far.more near.more far.each (all_weaker (Spares may mid.present) (Spares may old.present) (λ m here. since m here) near.more near.each);
  present = since (at_rest new.present) near.present;
}
  where
    since : (m : Stretch) → Spares may mid.present m → Spares may old.present m
    since m here q out = ((here q out).0 ∙ (far.present q out).0, λ none. (here q out).1 ((far.present q out).1 none))

-- a larger set
pub only_weaker : (may can : Name → Type 0) (old new : Seen) → ((name : Name) → may name → can name) → TouchesOnly may old new → TouchesOnly can old new
only_weaker may can old new w far = record {
  more = far.more;
  past = far.past;
  each = all_weaker (Spares may old.present) (Spares can old.present) (λ m here q out. here q (λ is. out (w q is))) far.more far.each;
  present = λ q out. far.present q (λ is. out (w q is));
}
