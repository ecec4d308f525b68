-- The gate is written or removed while nothing else changes.
use Rattle.std.proofs.Common.{◌≡◌, ◌≢◌, ◌⊎◌, ℕ, Bool, true, List, [], ◌∷◌, Option, Some, None, Result, Ok, Err, OnOk, refl, sym, ◌∙◌, ap, subst, inl, inr}
use Rattle.std.specs.Option.{unwrap_or}
use Rattle.std.specs.List.{AllByRecursion}
use Rattle.std.specs.FinSet as set
use Rattle.std.specs.Result.{is_ok}
use Rattle.tl_model.specs.Volume.{Name, Volume, at, contains-insert_apart}
use Rattle.tl_model.specs.Seen.{Seen, Leaves, Since, Changes, Syncs, changing}
use Rattle.tl_model.specs.Pictures.{since_weaker, after_change, after_sync, changes_touched}
use Rattle.tl_journal_text.specs.declared.slot.Slot.{Slot}
use Rattle.tl_journal_text.specs.declared.slot.Slot.TheVariants.{One, Two}
use Rattle.tl_journal_text.specs.Slots.{gate, body_of, byte_of, open_slot, opens, other}
use Rattle.tl_journal_text.specs.Records.{Record, Fits, after}
use Rattle.tl_journal_text.specs.Body.{records_of}
use Rattle.tl_journal_text.specs.Stand.{tree_of, bytes_at, stand, Stays, IsBeforeOrAfter}
use Rattle.tl_journal_text.proofs.Trees.{same_tree, stand_shut, stand_open, not_gate, gate_body}
use Rattle.tl_journal.specs.States.{pending, IsLive, IsClean, KeepsTree, Between, IsSettled}
use Rattle.tl_journal.specs.Touching.{sync_less}
use Rattle.tl_journal.proofs.Live.{nothing_more, pending_shut, pending_open, keeps_tree}

cases_slot : (a b : Slot) → (a ≡ b) ⊎ (a ≡ other b)
cases_slot One One = inl refl
cases_slot One Two = inr refl
cases_slot Two One = inr refl
cases_slot Two Two = inl refl

-- an image that differs at the gate alone
gate_image : (image held tree : Volume) (slot : Slot) (rs old_rs : List Record) → records_of (bytes_at held (body_of slot)) ≡ Some rs → records_of (bytes_at held (body_of (other slot))) ≡ Some old_rs → after old_rs tree ≡ tree → tree_of held ≡ tree
    → ((name : Name) → name ≢ gate → at image name ≡ at held name) → (stand image ≡ Some tree) ⊎ (stand image ≡ Some (after rs tree))
gate_image image held tree slot rs old_rs here there still is same = by (open_slot image) refl
  where
    one : tree_of image ≡ tree
    one = same_tree image held (λ q out. same q (not_gate q out)) ∙ is

    body : (x : Slot) → records_of (bytes_at image (body_of x)) ≡ records_of (bytes_at held (body_of x))
    body x = ap (λ (o : Option (List ℕ)). records_of (unwrap_or o [])) (same (body_of x) (λ e. gate_body x (sym e)))

    by : (o : Option Slot) → open_slot image ≡ o → (stand image ≡ Some tree) ⊎ (stand image ≡ Some (after rs tree))
    by None e = inl (stand_shut image e ∙ ap Some one)
    by (Some x) e = elim (cases_slot x slot) [
      | inl same_slot ↦ inr (stand_open image slot rs (e ∙ ap Some same_slot) (body slot ∙ here) ∙ ap (λ (t : Volume). Some (after rs t)) one)
      | inr other_slot ↦ inl (stand_open image (other slot) old_rs (e ∙ ap Some other_slot) (body (other slot) ∙ there) ∙ ap (λ (t : Volume). Some (after old_rs t)) one ∙ ap Some still)
    ]

between_leaves : (base s : Seen) (slot : Slot) (rs old_rs : List Record) → Between base slot rs old_rs s → Leaves (IsBeforeOrAfter rs base) (changing gate s.present)
between_leaves base s slot rs old_rs far image said picture = (
  gate_image image s.present.held (tree_of base.present.held) slot rs old_rs far.here far.there far.still far.tree (λ name ne. picture.others name (contains-insert_apart s.present.touched gate name ne ∙ far.others name ne)),
  nothing_more said s.present.said picture.count picture.words ∙ far.said,
)

pub between_change : (base mid new : Seen) (ok : Bool) (slot : Slot) (rs old_rs : List Record) → Between base slot rs old_rs mid → Changes ok gate mid new → Between base slot rs old_rs new
between_change base mid new ok slot rs old_rs far change = record {
  here = ap (λ (o : Option (List ℕ)). records_of (unwrap_or o [])) (change.others (body_of slot) (λ e. gate_body slot (sym e))) ∙ far.here;
  there = ap (λ (o : Option (List ℕ)). records_of (unwrap_or o [])) (change.others (body_of (other slot)) (λ e. gate_body (other slot) (sym e))) ∙ far.there;
  still = far.still;
  tree = same_tree new.present.held mid.present.held (λ q out. change.others q (not_gate q out)) ∙ far.tree;
  others = λ name ne. changes_touched ok gate mid new change name ne ∙ far.others name ne;
  said = change.said ∙ far.said;
  pictures = after_change base mid new _ ok gate far.pictures change (between_leaves base mid slot rs old_rs far);
}

pub settles : (mid new : Seen) → Syncs true mid new → IsSettled new
settles mid new sync name = ap (λ (s : _). set.contains s name) (sync.settled refl) ∙ set.contains-empty _ name

pub between_sync : (base mid new : Seen) (ok : Bool) (slot : Slot) (rs old_rs : List Record) → Between base slot rs old_rs mid → Syncs ok mid new → Between base slot rs old_rs new
between_sync base mid new ok slot rs old_rs far sync = record {
  here = ap (λ (v : Volume). records_of (bytes_at v (body_of slot))) sync.held ∙ far.here;
  there = ap (λ (v : Volume). records_of (bytes_at v (body_of (other slot)))) sync.held ∙ far.there;
  still = far.still;
  tree = ap tree_of sync.held ∙ far.tree;
  others = λ name ne. sync_less ok mid new sync name (far.others name ne);
  said = sync.said ∙ far.said;
  pictures = after_sync base mid new _ ok far.pictures sync;
}

-- a clean journal's pictures stand for its tree
pub pictures_before : (base s : Seen) (rs : List Record) → KeepsTree base s → IsClean base.present → Since base s (IsBeforeOrAfter rs base)
pictures_before base s rs far clean = since_weaker base s _ _ (λ image said here. (inl (here.0 ∙ clean.tree), here.1)) far.keeps.pictures

-- before the gate is written: both bodies are whole, and a sync has succeeded
pub between_start : (base mid new : Seen) (slot : Slot) (rs old_rs : List Record) → KeepsTree base mid → IsClean base.present → records_of (bytes_at mid.present.held (body_of slot)) ≡ Some rs → records_of (bytes_at mid.present.held (body_of (other slot))) ≡ Some old_rs
    → after old_rs (tree_of base.present.held) ≡ tree_of base.present.held → Syncs true mid new → Between base slot rs old_rs new
between_start base mid new slot rs old_rs far clean here there still sync = record {
  here = ap (λ (v : Volume). records_of (bytes_at v (body_of slot))) sync.held ∙ here;
  there = ap (λ (v : Volume). records_of (bytes_at v (body_of (other slot)))) sync.held ∙ there;
  still = still;
  tree = ap tree_of sync.held ∙ keeps_tree base mid far;
  others = λ name ne. settles mid new sync name;
  said = sync.said ∙ far.keeps.said;
  pictures = after_sync base mid new _ true (pictures_before base mid rs far clean) sync;
}

opens_byte : (slot : Slot) → opens (Some (byte_of slot ∷ [])) ≡ Some slot
opens_byte One = refl
opens_byte Two = refl

-- the gate has the slot's byte, and nothing is touched
pub opened : (base s : Seen) (slot : Slot) (rs old_rs : List Record) → Between base slot rs old_rs s → AllByRecursion Fits rs → at s.present.held gate ≡ Some (byte_of slot ∷ []) → IsSettled s
    → IsLive s.present × (open_slot s.present.held ≡ Some slot) × (stand s.present.held ≡ Some (after rs (tree_of base.present.held)))
opened base s slot rs old_rs far fits is_byte settled =
    let is_open : open_slot s.present.held ≡ Some slot = ap opens is_byte ∙ opens_byte slot in
    let same : pending s.present.held ≡ rs = pending_open s.present.held slot rs is_open far.here in (
      record {
        whole = λ x e. let one : x ≡ slot = some_is x slot (sym e ∙ is_open) in subst (λ (y : Slot). records_of (bytes_at s.present.held (body_of y)) ≡ Some (pending s.present.held)) (sym one) (far.here ∙ ap Some (sym same));
        fits = subst (λ (l : List Record). AllByRecursion Fits l) (sym same) fits;
        rests = λ name fixed. settled name;
      },
      is_open,
      stand_open s.present.held slot rs is_open far.here ∙ ap (λ (t : Volume). Some (after rs t)) far.tree,
    )
  where
    some_is : (x y : Slot) → Some x ≡ Some y → x ≡ y
    some_is x y e = cc

-- and its records are those of the slot
pub opened_pending : (base s : Seen) (slot : Slot) (rs old_rs : List Record) → Between base slot rs old_rs s → at s.present.held gate ≡ Some (byte_of slot ∷ []) → pending s.present.held ≡ rs
opened_pending base s slot rs old_rs far is_byte = pending_open s.present.held slot rs (ap opens is_byte ∙ opens_byte slot) far.here

-- ---- records that change nothing

tree_is : (x y : Volume) → Some x ≡ Some y → x ≡ y
tree_is x y e = cc

-- the records at which a clean journal is open change nothing
pub again : (s : Seen) (slot : Slot) → IsClean s.present → open_slot s.present.held ≡ Some slot → after (pending s.present.held) (tree_of s.present.held) ≡ tree_of s.present.held
again s slot clean is = tree_is _ _ (sym (stand_open s.present.held slot (pending s.present.held) is (clean.live.whole slot is)) ∙ clean.tree)

-- where the records change nothing, before and after are one
pub between_stays : (base s : Seen) (slot : Slot) (rs old_rs : List Record) → IsClean base.present → after rs (tree_of base.present.held) ≡ tree_of base.present.held → Between base slot rs old_rs s → Stays base s
between_stays base s slot rs old_rs clean same far = since_weaker base s _ _ (λ image said here. (one image here.0 ∙ sym clean.tree, here.1)) far.pictures
  where
    one : (image : Volume) → (stand image ≡ Some (tree_of base.present.held)) ⊎ (stand image ≡ Some (after rs (tree_of base.present.held))) → stand image ≡ Some (tree_of base.present.held)
    one image (inl is) = is
    one image (inr is) = is ∙ ap Some same

-- a moment at which the gate is closed and nothing is touched
pub shut_clean : (s : Seen) → open_slot s.present.held ≡ None → IsSettled s → IsClean s.present
shut_clean s shut settled = record {
  live = record {
    whole = λ slot e. let none : None ≡ Some slot = sym shut ∙ e in absurd cc;
    fits = subst (λ (l : List Record). AllByRecursion Fits l) (sym (pending_shut s.present.held shut)) tt;
    rests = λ name fixed. settled name;
  };
  tree = stand_shut s.present.held shut;
}

pub on_sync : {T E : Type 0} (r : Result T E) (mid new : Seen) (P : Type 0) → (Syncs true mid new → P) → Syncs (is_ok r) mid new → OnOk r P
on_sync (Ok x) mid new P go sync = go sync
on_sync (Err e) mid new P go sync = tt
