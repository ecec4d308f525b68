-- What is left at the names that were touched.
use Rattle.std.proofs.Common.{◌≡◌, ◌≢◌, inl, inr, ℕ, suc, ◌<◌, Bool, true, false, cond, List, [], ◌∷◌, take, reverse, length, get_or, Option, Some, None, Vec, refl, sym, ◌∙◌, ap, subst}
use Rattle.std.specs.declared.alloc.Global.{Global}
use Rattle.std.specs.FinSet as set
use Rattle.std.proofs.lemmas.Bool.{true≢false, cases_Bool}
use Rattle.tl_model.specs.Volume.{Name, Volume, Names, SameBut, at, cases_name, at-insert_apart, at-remove_apart, contains-insert_here, contains-insert_apart, contains-insert_none}
use Rattle.tl_memhost.specs.Memory.{Standing}
use Rattle.tl_memhost.specs.Record.{put, cut, unheld, touches, settles, touched_of, settled_of, standing}
use Rattle.tl_memhost.specs.Stop.{named, is_sync, Gives, left}
use Rattle.tl_memhost.specs.declared.stop.Choice.{Choice}
use Rattle.tl_memhost.specs.declared.stop.Choice.TheVariants.{Kept, Gone, Synced, Fill}
use Rattle.tl_memhost.specs.declared.record.Did.{Did}
use Rattle.tl_memhost.specs.declared.record.Did.TheVariants.{Put, Grown, Failing, Settled, Said, Unsaid}
use Rattle.tl_memhost.specs.declared.record.Entry.{Entry}
use Rattle.tl_memhost.proofs.Back.{reverse_take}

pub cond-same : {X : Type 0} (b : Bool) (x : X) → cond b x x ≡ x
cond-same true x = refl
cond-same false x = refl

fill_name : (name : Name) (t : Names) (b : Option (List ℕ)) (old new : Volume) → at new name ≡ b → SameBut name old new → (q : Name) → cond (set.contains (set.insert t name) q) b (at old q) ≡ cond (set.contains t q) b (at new q)
fill_name name t b old new here apart q = elim (cases_name q name) [
  | inl is ↦ subst (λ (n : Name). cond (set.contains (set.insert t name) n) b (at old n) ≡ cond (set.contains t n) b (at new n)) (sym is)
      (ap (λ (c : Bool). cond c b (at old name)) (contains-insert_here t name)
      ∙ sym (ap (cond (set.contains t name) b) here ∙ cond-same (set.contains t name) b))
  | inr ne ↦ ap (λ (c : Bool). cond c b (at old q)) (contains-insert_apart t name q ne) ∙ ap (cond (set.contains t q) b) (sym (apart q ne))
]

-- one call more whose name is filled
fill_step : (did : Did) (t : Names) (b : Option (List ℕ)) (old new : Volume) → is_sync did ≡ false → Gives (named did) b old new → (q : Name) → cond (set.contains (touches did t) q) b (at old q) ≡ cond (set.contains t q) b (at new q)
fill_step (Put name bytes) t b old new sync gives q = fill_name name t b old new gives.0 gives.1 q
fill_step (Grown name length) t b old new sync gives q = fill_name name t b old new gives.0 gives.1 q
fill_step (Failing name) t b old new sync gives q = fill_name name t b old new gives.0 gives.1 q
fill_step Settled t b old new sync gives q = absurd (true≢false sync)
fill_step (Said length) t b old new sync gives q = ap (λ (v : Volume). cond (set.contains t q) b (at v q)) (sym gives)
fill_step (Unsaid bytes) t b old new sync gives q = ap (λ (v : Volume). cond (set.contains t q) b (at v q)) (sym gives)

pub fill_back : (items : List Entry) (n : ℕ) (e : Entry) (b : Option (List ℕ)) (old new : Volume) → n < length items → e ≡ get_or items n e → is_sync e.did ≡ false → Gives (named e.did) b old new → (q : Name)
    → cond (set.contains (touched_of (reverse (take (suc n) items))) q) b (at old q) ≡ cond (set.contains (touched_of (reverse (take n items))) q) b (at new q)
fill_back items n e b old new lt is sync gives q =
    ap (λ (es : List Entry). cond (set.contains (touched_of es) q) b (at old q)) (reverse_take items n e lt is)
    ∙ fill_step e.did (touched_of (reverse (take n items))) b old new sync gives q

touches_none : (did : Did) (t : Names) → is_sync did ≡ true → touches did t ≡ set.empty
touches_none (Put name bytes) t sync = absurd (true≢false (sym sync))
touches_none (Grown name length) t sync = absurd (true≢false (sym sync))
touches_none (Failing name) t sync = absurd (true≢false (sym sync))
touches_none Settled t sync = refl
touches_none (Said length) t sync = absurd (true≢false (sym sync))
touches_none (Unsaid bytes) t sync = absurd (true≢false (sym sync))

abbrev no_names : Names
no_names = set.empty

none_touched : (q : Name) (b : Option (List ℕ)) (v : Volume) → cond (set.contains no_names q) b (at v q) ≡ at v q
none_touched q b v = ap (λ (c : Bool). cond c b (at v q)) (set.contains-empty _ q)

-- after a sync nothing is touched
pub fill_stop : (items : List Entry) (n : ℕ) (e : Entry) (b : Option (List ℕ)) (v : Volume) → n < length items → e ≡ get_or items n e → is_sync e.did ≡ true → (q : Name)
    → cond (set.contains (touched_of (reverse (take (suc n) items))) q) b (at v q) ≡ at v q
fill_stop items n e b v lt is sync q =
    ap (λ (es : List Entry). cond (set.contains (touched_of es) q) b (at v q)) (reverse_take items n e lt is)
    ∙ ap (λ (t : Names). cond (set.contains t q) b (at v q)) (touches_none e.did (touched_of (reverse (take n items))) sync)
    ∙ none_touched q b v

pub fill_end : (items : List Entry) (b : Option (List ℕ)) (v : Volume) (q : Name) → cond (set.contains (touched_of (reverse (take 0 items))) q) b (at v q) ≡ at v q
fill_end items b v q = none_touched q b v

-- a name that isn't touched holds what it held at the last sync

put_apart : (name : Name) (bytes : Option (Vec ℕ Global)) (v : Volume) (q : Name) → q ≢ name → at (put name bytes v) q ≡ at v q
put_apart name None v q ne = at-remove_apart v name q ne
put_apart name (Some bytes) v q ne = at-insert_apart v name bytes.items q ne

cut_apart : (name : Name) (n : ℕ) (o : Option (List ℕ)) (v : Volume) (q : Name) → q ≢ name → at (cut name n o v) q ≡ at v q
cut_apart name n None v q ne = refl
cut_apart name n (Some bytes) v q ne = at-insert_apart v name _ q ne

settled_step : (did : Did) (t : Names) (s v : Volume) (q : Name) → (set.contains t q ≡ false → at s q ≡ at (unheld did v) q) → set.contains (touches did t) q ≡ false → at (settles did s (unheld did v)) q ≡ at v q
settled_step (Put name bytes) t s v q rest none = let apart = contains-insert_none t name q none in rest apart.0 ∙ put_apart name bytes v q apart.1
settled_step (Grown name n) t s v q rest none = let apart = contains-insert_none t name q none in rest apart.0 ∙ cut_apart name n (at v name) v q apart.1
settled_step (Failing name) t s v q rest none = rest (contains-insert_none t name q none).0
settled_step Settled t s v q rest none = refl
settled_step (Said length) t s v q rest none = rest none
settled_step (Unsaid bytes) t s v q rest none = rest none

untouched : (es : List Entry) (v : Volume) (q : Name) → set.contains (touched_of es) q ≡ false → at (settled_of es v) q ≡ at v q
untouched [] v q none = refl
untouched (e ∷ es) v q none = settled_step e.did (touched_of es) (settled_of es (unheld e.did v)) v q (untouched es (unheld e.did v) q) none

pub settled_left : (es : List Entry) (v : Volume) (words : List ℕ) (q : Name) → at (settled_of es v) q ≡ left Synced (standing es v words) q
settled_left es v words q = elim (cases_Bool (set.contains (touched_of es) q)) [
  | inl touched ↦ sym (ap (λ (b : Bool). cond b (at (settled_of es v) q) (at v q)) touched)
  | inr none ↦ untouched es v q none ∙ sym (ap (λ (b : Bool). cond b (at (settled_of es v) q) (at v q)) none)
]

-- an untouched name holds what a read gave
pub left_apart : (choice : Choice) (s : Standing) (image : Volume) → ((name : Name) → at image name ≡ left choice s name) → (name : Name) → set.contains s.touched name ≡ false → at image name ≡ at s.held name
left_apart Kept s image is name none = is name ∙ ap (λ (b : Bool). cond b (at s.held name) (at s.held name)) none
left_apart Gone s image is name none = is name ∙ ap (λ (b : Bool). cond b None (at s.held name)) none
left_apart Synced s image is name none = is name ∙ ap (λ (b : Bool). cond b (at s.settled name) (at s.held name)) none
left_apart (Fill bytes) s image is name none = is name ∙ ap (λ (b : Bool). cond b (Some bytes) (at s.held name)) none
