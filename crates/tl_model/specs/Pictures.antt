-- How the pictures since a host go on, call by call.
use Rattle.std.specs.Prelude.{◌≡◌, ℕ, zero, suc, ◌<◌, Bool, true, false, List, [], ◌∷◌, ◌++◌, length, take, drop, slice_index_or, refl}
use Rattle.std.specs.List.{AllByRecursion, Contains}
use Rattle.std.specs.FinSet as set
use Rattle.std.proofs.Common.{sym, ◌∙◌, ap, subst, inl, inr, arith, append_assoc}
use Rattle.std.proofs.lemmas.List.{append-nil, drop_at}
use Rattle.tl_model.specs.Volume.{Name, Volume, at, contains-insert_none, contains-insert_apart}
use Rattle.tl_model.specs.Seen.{Moment, Stretch, Seen, IsPicture, Could, Leaves, Since, at_rest, changing, saying, moment, Quiet, Touches, Changes, Syncs, Says}

all_append : {X : Type 0} (P : X → Type 0) (xs ys : List X) → AllByRecursion P xs → AllByRecursion P ys → AllByRecursion P (xs ++ ys)
all_append P [] ys a b = b
all_append P (x ∷ xs) ys a b = (a.0, all_append P xs ys a.1 b)

all_weaker : {X : Type 0} (P Q : X → Type 0) → ((x : X) → P x → Q x) → (xs : List X) → AllByRecursion P xs → AllByRecursion Q xs
all_weaker P Q w [] a = tt
all_weaker P Q w (x ∷ xs) a = (w x a.0, all_weaker P Q w xs a.1)

all_at : {X : Type 0} (P : X → Type 0) (xs : List X) → AllByRecursion P xs → (x d : X) (k : ℕ) → k < length xs → slice_index_or xs k d ≡ x → P x
all_at P [] a x d k lt is = absurd (omega arith)
all_at P (y ∷ ys) a x d zero lt is = subst P is a.0
all_at P (y ∷ ys) a x d (suc k) lt is = all_at P ys a.1 x d k (omega arith) is

-- before the first call
pub since_start : (s : Seen) (P : Volume → List ℕ → Type 0) → Leaves P (at_rest s.present) → Since s s P
since_start s P here = record { more = []; past = sym (append-nil s.past); each = tt; present = here }

-- one call more
pub since_step : (old mid new : Seen) (P : Volume → List ℕ → Type 0) (during : Stretch) → Since old mid P → new.past ≡ mid.past ++ during ∷ [] → Leaves P during → Leaves P (at_rest new.present) → Since old new P
since_step old mid new P during far past here present = record {
  more = far.more ++ during ∷ [];
  past = past ∙ ap (λ (l : List Stretch). l ++ during ∷ []) far.past ∙ append_assoc old.past far.more (during ∷ []);
  each = all_append (Leaves P) far.more (during ∷ []) far.each (here, tt);
  present = present;
}

-- a call that made no entry
pub since_still : (old mid new : Seen) (P : Volume → List ℕ → Type 0) → Since old mid P → new.past ≡ mid.past → Leaves P (at_rest new.present) → Since old new P
since_still old mid new P far past present = record {
  more = far.more;
  past = past ∙ far.past;
  each = far.each;
  present = present;
}

-- one call more, of which each stretch has P
pub since_more : (old mid new : Seen) (P : Volume → List ℕ → Type 0) (during : Stretch) (more : List Stretch) → Since old mid P → new.past ≡ mid.past ++ more → AllByRecursion (λ m. m ≡ during) more → Leaves P during → Leaves P (at_rest new.present) → Since old new P
since_more old mid new P during more far past each here present = record {
  more = far.more ++ more;
  past = past ∙ ap (λ (l : List Stretch). l ++ more) far.past ∙ append_assoc old.past far.more more;
  each = all_append (Leaves P) far.more more far.each (all_weaker _ (Leaves P) (λ m is. subst (Leaves P) (sym is) here) more each);
  present = present;
}

-- one run after another
pub since_join : (old mid new : Seen) (P : Volume → List ℕ → Type 0) → Since old mid P → Since mid new P → Since old new P
since_join old mid new P far near = record {
  more = far.more ++ near.more;
  past = near.past ∙ ap (λ (l : List Stretch). l ++ near.more) far.past ∙ append_assoc old.past far.more near.more;
  each = all_append (Leaves P) far.more near.more far.each near.each;
  present = near.present;
}

-- what follows from P holds of each picture too
pub since_weaker : (old new : Seen) (P Q : Volume → List ℕ → Type 0) → ((image : Volume) (said : List ℕ) → P image said → Q image said) → Since old new P → Since old new Q
since_weaker old new P Q w far = record {
  more = far.more;
  past = far.past;
  each = all_weaker (Leaves P) (Leaves Q) (λ m leaves image said picture. w image said (leaves image said picture)) far.more far.each;
  present = λ image said picture. w image said (far.present image said picture);
}

-- what a stop may leave has what each picture has
pub since_could : (old new : Seen) (P : Volume → List ℕ → Type 0) → Since old new P → (image : Volume) (said : List ℕ) → Could new (moment old) image said → P image said
since_could old new P far image said could =
    let rest : drop (moment old) (new.past ++ at_rest new.present ∷ []) ≡ far.more ++ at_rest new.present ∷ [] =
    ap (λ (l : List Stretch). drop (moment old) (l ++ at_rest new.present ∷ [])) far.past
    ∙ ap (λ (l : List Stretch). drop (moment old) l) (append_assoc old.past far.more (at_rest new.present ∷ []))
    ∙ drop_at old.past (far.more ++ at_rest new.present ∷ []) (moment old) refl in
    let inside : Contains (far.more ++ at_rest new.present ∷ []) could.0 = subst (λ (l : List Stretch). Contains l could.0) rest could.1 in
    let all : AllByRecursion (Leaves P) (far.more ++ at_rest new.present ∷ []) = all_append (Leaves P) far.more (at_rest new.present ∷ []) far.each (far.present, tt) in
    all_at (Leaves P) (far.more ++ at_rest new.present ∷ []) all could.0 could.0 inside.0 inside.1 inside.2 image said could.2

-- the volume as read is one of the images of its moment
pub reads_back : (s : Seen) → IsPicture (at_rest s.present) s.present.held s.present.said
reads_back s = record { others = λ name none. refl; count = 0; words = sym (append-nil s.present.said) }

-- each kind of call

-- what a call that changes one name has done to the other names
pub changes_touched : (ok : Bool) (name : Name) (old new : Seen) → Changes ok name old new → (other : Name) → (other ≡ name → ⊥) → set.contains new.present.touched other ≡ set.contains old.present.touched other
changes_touched ok name old new change other ne = elim change.entry [
  | inl entry ↦ ap (λ (s : _). set.contains s other) entry.touched ∙ contains-insert_apart old.present.touched name other ne
  | inr none ↦ ap (λ (m : Moment). set.contains m.touched other) none.1.present
]

-- a call that succeeded has made its entry
pub changes_enters : (name : Name) (old new : Seen) → Changes true name old new → Touches name old new
changes_enters name old new change = elim change.entry [ inl entry ↦ entry | inr none ↦ absurd (cc (none.0)) ]

-- a picture after the change is one of the stretch in which it was made
pub during_change : (ok : Bool) (name : Name) (mid new : Seen) → Changes ok name mid new → (image : Volume) (said : List ℕ) → IsPicture (at_rest new.present) image said → IsPicture (changing name mid.present) image said
during_change ok name mid new change image said picture = record {
  others = λ other none.
      let before = contains-insert_none mid.present.touched name other none in
      picture.others other (changes_touched ok name mid new change other before.1 ∙ before.0) ∙ change.others other before.1;
  count = picture.count;
  words = picture.words ∙ ap (λ (w : List ℕ). w ++ take picture.count []) change.said;
}

pub after_change : (old mid new : Seen) (P : Volume → List ℕ → Type 0) (ok : Bool) (name : Name) → Since old mid P → Changes ok name mid new → Leaves P (changing name mid.present) → Since old new P
after_change old mid new P ok name far change here = elim change.entry [
  | inl entry ↦ since_step old mid new P (changing name mid.present) far entry.past here (λ image said picture. here image said (during_change ok name mid new change image said picture))
  | inr none ↦ since_still old mid new P far none.1.past (λ image said picture. here image said (during_change ok name mid new change image said picture))
]

-- a picture after a sync is one before it
pub before_sync : (ok : Bool) (mid new : Seen) → Syncs ok mid new → (image : Volume) (said : List ℕ) → IsPicture (at_rest new.present) image said → IsPicture (at_rest mid.present) image said
before_sync true mid new sync image said picture = record {
  others = λ other none. picture.others other (ap (λ (s : _). set.contains s other) (sync.settled refl) ∙ set.contains-empty _ other) ∙ ap (λ (v : Volume). at v other) sync.held;
  count = picture.count;
  words = picture.words ∙ ap (λ (w : List ℕ). w ++ take picture.count []) sync.said;
}
before_sync false mid new sync image said picture = record {
  others = λ other none. picture.others other (ap (λ (s : _). set.contains s other) (sync.unsettled refl) ∙ none) ∙ ap (λ (v : Volume). at v other) sync.held;
  count = picture.count;
  words = picture.words ∙ ap (λ (w : List ℕ). w ++ take picture.count []) sync.said;
}

pub after_sync : (old mid new : Seen) (P : Volume → List ℕ → Type 0) (ok : Bool) → Since old mid P → Syncs ok mid new → Since old new P
after_sync old mid new P ok far sync = elim sync.entry [
  | inl entry ↦ since_step old mid new P (at_rest mid.present) far entry far.present (λ image said picture. far.present image said (before_sync ok mid new sync image said picture))
  | inr none ↦ since_still old mid new P far none.1 (λ image said picture. far.present image said (before_sync ok mid new sync image said picture))
]

-- a picture after bytes were said is one of the stretch in which they were being said
pub during_say : (ok : Bool) (bytes : List ℕ) (mid new : Seen) → Says ok bytes mid new → (image : Volume) (said : List ℕ) → IsPicture (at_rest new.present) image said → IsPicture (saying bytes mid.present) image said
during_say ok bytes mid new says image said picture = record {
  others = λ other none. picture.others other (ap (λ (s : _). set.contains s other) says.touched ∙ none) ∙ ap (λ (v : Volume). at v other) says.held;
  count = says.count;
  words = picture.words ∙ take_none picture.count ∙ says.said;
}
  where
    take_none : (n : ℕ) → new.present.said ++ take n [] ≡ new.present.said
    take_none zero = append-nil new.present.said
    take_none (suc n) = append-nil new.present.said

pub after_say : (old mid new : Seen) (P : Volume → List ℕ → Type 0) (ok : Bool) (bytes : List ℕ) → Since old mid P → Says ok bytes mid new → Leaves P (saying bytes mid.present) → Since old new P
after_say old mid new P ok bytes far says here = elim says.entry [
  | inl entry ↦ since_step old mid new P (saying bytes mid.present) far entry here (λ image said picture. here image said (during_say ok bytes mid new says image said picture))
  | inr none ↦ since_still old mid new P far none.1.past (λ image said picture. here image said (during_say ok bytes mid new says image said picture))
]

-- calls that change nothing

pub quiet_start : (s : Seen) → Quiet s s
quiet_start s = record { present = refl; syncs = refl; more = []; past = sym (append-nil s.past); each = tt }

pub quiet_join : (old mid new : Seen) → Quiet old mid → Quiet mid new → Quiet old new
quiet_join old mid new far near = record {
  present = near.present ∙ far.present;
  syncs = near.syncs ∙ far.syncs;
  more = far.more ++ near.more;
  past = near.past ∙ ap (λ (l : List Stretch). l ++ near.more) far.past ∙ append_assoc old.past far.more near.more;
  each = all_append _ far.more near.more far.each (all_weaker _ _ (λ m is. is ∙ ap at_rest far.present) near.more near.each);
}

pub after_quiet : (old mid new : Seen) (P : Volume → List ℕ → Type 0) → Since old mid P → Quiet mid new → Since old new P
after_quiet old mid new P far quiet = record {
  more = far.more ++ quiet.more;
  past = quiet.past ∙ ap (λ (l : List Stretch). l ++ quiet.more) far.past ∙ append_assoc old.past far.more quiet.more;
  each = all_append (Leaves P) far.more quiet.more far.each (all_weaker _ (Leaves P) (λ m is. subst (Leaves P) (sym is) far.present) quiet.more quiet.each);
  present = subst (λ (m : Moment). Leaves P (at_rest m)) (sym quiet.present) far.present;
}
