-- Volumes and hosts on which nothing that stays has changed.
use Rattle.std.proofs.Common.{◌≡◌, ◌≢◌, Bool, false, ℕ, zero, suc, List, [], ◌++◌, take, Option, Some, None, refl, sym, ◌∙◌, ap, subst, inl, inr}
use Rattle.std.specs.Option.{unwrap_or}
use Rattle.std.specs.List.{AllByRecursion}
use Rattle.std.specs.FinSet as set
use Rattle.std.proofs.lemmas.List.{append-nil}
use Rattle.tl_model.specs.Volume.{Name, Volume, at, contains-insert_apart}
use Rattle.tl_model.specs.Seen.{Moment, Seen, Quiet, Changes}
use Rattle.tl_model.specs.Pictures.{since_start, since_join, since_weaker, after_change, after_quiet, changes_touched}
use Rattle.tl_journal_text.specs.declared.slot.Slot.{Slot}
use Rattle.tl_journal_text.specs.Slots.{gate, body_of, open_slot, opens, spare}
use Rattle.tl_journal_text.specs.Records.{Record, is_ours, Fits, IsAmong}
use Rattle.tl_journal_text.specs.Body.{records_of}
use Rattle.tl_journal_text.specs.Stand.{tree_of, bytes_at, stand}
use Rattle.tl_journal_text.proofs.Trees.{same_tree, stand_shut, stand_open, ours_body, not_body, gate_body, bodies_apart}
use Rattle.tl_journal_text.proofs.Acts.{tree_agrees, ours_apart}
use Rattle.tl_journal.specs.States.{records_at, pending, IsFixed, IsLive, IsClean, Fixed, Keeps, KeepsTree, spare_body}

-- what is said at a stop while nothing is being said
pub nothing_more : (said bytes : List ℕ) (count : ℕ) → said ≡ bytes ++ take count [] → said ≡ bytes
nothing_more said bytes count is = is ∙ no_more count
  where
    no_more : (n : ℕ) → bytes ++ take n [] ≡ bytes
    no_more zero = append-nil bytes
    no_more (suc n) = append-nil bytes

pub pending_is : (v : Volume) → pending v ≡ records_at (open_slot v) v
unfolding pending
pending_is v = refl

pub pending_shut : (v : Volume) → open_slot v ≡ None → pending v ≡ []
pending_shut v shut = pending_is v ∙ ap (λ (o : Option Slot). records_at o v) shut

pub pending_open : (v : Volume) (slot : Slot) (rs : List Record) → open_slot v ≡ Some slot → records_of (bytes_at v (body_of slot)) ≡ Some rs → pending v ≡ rs
pending_open v slot rs opened whole = pending_is v ∙ ap (λ (o : Option Slot). records_at o v) opened ∙ ap (λ (o : Option (List Record)). unwrap_or o []) whole

-- ---- two volumes that agree at what stays

-- v holds what w holds at each name that stays
abbrev pub Agrees : Volume → Volume → Type 0
Agrees v w = (name : Name) → IsFixed (open_slot w) (pending w) name → at v name ≡ at w name

pub same_open : (v w : Volume) → Agrees v w → open_slot v ≡ open_slot w
same_open v w same = ap opens (same gate (inl refl))

pub same_body : (v w : Volume) → Agrees v w → (slot : Slot) → open_slot w ≡ Some slot → bytes_at v (body_of slot) ≡ bytes_at w (body_of slot)
same_body v w same slot is = ap (λ (o : Option (List ℕ)). unwrap_or o []) (same (body_of slot) (inr (inl (slot, is, refl))))

records_agree : (o : Option Slot) (v w : Volume) → ((slot : Slot) → o ≡ Some slot → bytes_at v (body_of slot) ≡ bytes_at w (body_of slot)) → records_at o v ≡ records_at o w
records_agree None v w same = refl
records_agree (Some slot) v w same = ap (λ (l : List ℕ). unwrap_or (records_of l) []) (same slot refl)

pub same_pending : (v w : Volume) → Agrees v w → pending v ≡ pending w
same_pending v w same =
    pending_is v ∙ ap (λ (o : Option Slot). records_at o v) (same_open v w same)
    ∙ records_agree (open_slot w) v w (same_body v w same) ∙ sym (pending_is w)

-- a volume that holds the same at what stays stands for the same
pub same_stand : (v w : Volume) → Agrees v w → ((slot : Slot) → open_slot w ≡ Some slot → records_of (bytes_at w (body_of slot)) ≡ Some (pending w)) → stand v ≡ stand w
same_stand v w same whole = by (open_slot w) refl
  where
    by : (o : Option Slot) → open_slot w ≡ o → stand v ≡ stand w
    by None is =
        stand_shut v (same_open v w same ∙ is)
        ∙ ap Some (same_tree v w (λ q out. same q (inr (inr (out, subst (λ (l : List Record). IsAmong q l → ⊥) (sym (pending_shut w is)) (λ none. none))))))
        ∙ sym (stand_shut w is)
    by (Some slot) is =
        stand_open v slot (pending w) (same_open v w same ∙ is) (ap (λ (l : List ℕ). records_of l) (same_body v w same slot is) ∙ whole slot is)
        ∙ ap Some (tree_agrees (pending w) v w (λ q out apart. same q (inr (inr (out, apart)))))
        ∙ sym (stand_open w slot (pending w) is (whole slot is))

-- ---- live moments

-- a moment at which what stays is as at a live one
pub live_moves : (m n : Moment) → IsLive m → Agrees n.held m.held → ((name : Name) → IsFixed (open_slot m.held) (pending m.held) name → set.contains n.touched name ≡ false) → IsLive n
live_moves m n live same rests =
    let opens_same = same_open n.held m.held same in
    let pends_same = same_pending n.held m.held same in
    record {
      whole = λ slot is. ap (λ (l : List ℕ). records_of l) (same_body n.held m.held same slot (sym opens_same ∙ is)) ∙ live.whole slot (sym opens_same ∙ is) ∙ ap Some (sym pends_same);
      fits = subst (λ (l : List Record). AllByRecursion Fits l) (sym pends_same) live.fits;
      rests = λ name fixed. rests name (subst (λ (o : Option Slot). IsFixed o (pending m.held) name) opens_same (subst (λ (l : List Record). IsFixed (open_slot n.held) l name) pends_same fixed));
    }

pub clean_moves : (m n : Moment) → IsClean m → Agrees n.held m.held → ((name : Name) → IsFixed (open_slot m.held) (pending m.held) name → set.contains n.touched name ≡ false) → ((name : Name) → is_ours name ≡ false → at n.held name ≡ at m.held name) → IsClean n
clean_moves m n clean same rests outside = record {
  live = live_moves m n clean.live same rests;
  tree = same_stand n.held m.held same clean.live.whole ∙ clean.tree ∙ ap Some (sym (same_tree n.held m.held outside));
}

-- ---- since a live host

pub keeps_start : (s : Seen) → IsLive s.present → Keeps s s
keeps_start s live = record {
  live = live;
  apart = λ name fixed. refl;
  others = live.rests;
  said = refl;
  syncs = refl;
  pictures = since_start s _ (λ image said picture. (
    same_stand image s.present.held (λ name fixed. picture.others name (live.rests name fixed)) live.whole,
    nothing_more said s.present.said picture.count picture.words,
  ));
}

-- one call more that changes a name that needn't stay
pub keeps_change : (base mid new : Seen) (ok : Bool) (name : Name) → Keeps base mid → Changes ok name mid new → ((q : Name) → Fixed base q → q ≢ name) → Keeps base new
keeps_change base mid new ok name far change free = record {
  live = far.live;
  apart = λ q fixed. change.others q (free q fixed) ∙ far.apart q fixed;
  others = λ q fixed. changes_touched ok name mid new change q (free q fixed) ∙ far.others q fixed;
  said = change.said ∙ far.said;
  syncs = change.syncs ∙ far.syncs;
  pictures = after_change base mid new _ ok name far.pictures change (λ image said picture. (
    same_stand image base.present.held (λ q fixed. picture.others q (contains-insert_apart mid.present.touched name q (free q fixed) ∙ far.others q fixed) ∙ far.apart q fixed) far.live.whole,
    nothing_more said mid.present.said picture.count picture.words ∙ far.said,
  ));
}

pub keeps_quiet : (base mid new : Seen) → Keeps base mid → Quiet mid new → Keeps base new
keeps_quiet base mid new far quiet = record {
  live = far.live;
  apart = λ q fixed. ap (λ (m : Moment). at m.held q) quiet.present ∙ far.apart q fixed;
  others = λ q fixed. ap (λ (m : Moment). set.contains m.touched q) quiet.present ∙ far.others q fixed;
  said = ap (λ (m : Moment). m.said) quiet.present ∙ far.said;
  syncs = quiet.syncs ∙ far.syncs;
  pictures = after_quiet base mid new _ far.pictures quiet;
}

pub keeps_live : (base s : Seen) → Keeps base s → IsLive s.present
keeps_live base s far = live_moves base.present s.present far.live far.apart far.others

pub keeps_stand : (base s : Seen) → Keeps base s → stand s.present.held ≡ stand base.present.held
keeps_stand base s far = same_stand s.present.held base.present.held far.apart far.live.whole

-- one run after another
pub keeps_join : (old mid new : Seen) → Keeps old mid → Keeps mid new → Keeps old new
keeps_join old mid new far near =
    let opened = same_open mid.present.held old.present.held far.apart in
    let pends = same_pending mid.present.held old.present.held far.apart in
    let moved : (name : Name) → Fixed old name → Fixed mid name = λ name fixed. subst (λ (o : Option Slot). IsFixed o (pending mid.present.held) name) (sym opened) (subst (λ (l : List Record). IsFixed (open_slot old.present.held) l name) (sym pends) fixed) in
    record {
      live = far.live;
      apart = λ name fixed. near.apart name (moved name fixed) ∙ far.apart name fixed;
      others = λ name fixed. near.others name (moved name fixed);
      said = near.said ∙ far.said;
      syncs = near.syncs ∙ far.syncs;
      pictures = since_join old mid new _ far.pictures (since_weaker mid new _ _ (λ image said here. (here.0 ∙ keeps_stand old mid far, here.1 ∙ far.said)) near.pictures);
    }

-- ---- with its tree

pub tree_start : (s : Seen) → IsLive s.present → KeepsTree s s
tree_start s live = record { keeps = keeps_start s live; outside = λ name out. refl }

-- one call more that changes a body that needn't stay
pub tree_change : (base mid new : Seen) (ok : Bool) (slot : Slot) → KeepsTree base mid → Changes ok (body_of slot) mid new → ((q : Name) → Fixed base q → q ≢ body_of slot) → KeepsTree base new
tree_change base mid new ok slot far change free = record {
  keeps = keeps_change base mid new ok (body_of slot) far.keeps change free;
  outside = λ q out. change.others q (not_body slot q out) ∙ far.outside q out;
}

pub keeps_clean : (base s : Seen) → KeepsTree base s → IsClean base.present → IsClean s.present
keeps_clean base s far clean = clean_moves base.present s.present clean far.keeps.apart far.keeps.others far.outside

pub keeps_tree : (base s : Seen) → KeepsTree base s → tree_of s.present.held ≡ tree_of base.present.held
keeps_tree base s far = same_tree s.present.held base.present.held far.outside

pub keeps_open : (base s : Seen) → KeepsTree base s → open_slot s.present.held ≡ open_slot base.present.held
keeps_open base s far = same_open s.present.held base.present.held far.keeps.apart

-- one run after another
pub tree_join : (old mid new : Seen) → KeepsTree old mid → KeepsTree mid new → KeepsTree old new
tree_join old mid new far near = record {
  keeps = keeps_join old mid new far.keeps near.keeps;
  outside = λ name out. near.outside name out ∙ far.outside name out;
}

-- ---- names that needn't stay

-- the body that is being written
pub free_spare : (v : Volume) (q : Name) → IsFixed (open_slot v) (pending v) q → q ≢ spare_body v
free_spare v q (inl is) e = gate_body (spare (open_slot v)) (sym is ∙ e)
free_spare v q (inr (inl here)) e =
    bodies_apart here.0 (sym here.2 ∙ e ∙ ap (λ (o : Option Slot). body_of (spare o)) here.1)
free_spare v q (inr (inr out)) e = not_body (spare (open_slot v)) q out.0 e

-- either body where the gate is closed
pub free_shut : (v : Volume) (slot : Slot) → open_slot v ≡ None → (q : Name) → IsFixed (open_slot v) (pending v) q → q ≢ body_of slot
free_shut v slot shut q (inl is) e = gate_body slot (sym is ∙ e)
free_shut v slot shut q (inr (inl here)) e = let none : None ≡ Some here.0 = sym shut ∙ here.1 in absurd cc
free_shut v slot shut q (inr (inr out)) e = not_body slot q out.0 e

-- the path of a record
pub free_record : (v : Volume) (name : Name) → AllByRecursion Fits (pending v) → IsAmong name (pending v) → (q : Name) → IsFixed (open_slot v) (pending v) q → q ≢ name
free_record v name fits among q (inl is) e = ours_apart (pending v) fits gate refl (subst (λ (n : Name). IsAmong n (pending v)) (sym e ∙ is) among)
free_record v name fits among q (inr (inl here)) e = ours_apart (pending v) fits (body_of here.0) (ours_body here.0) (subst (λ (n : Name). IsAmong n (pending v)) (sym e ∙ here.2) among)
free_record v name fits among q (inr (inr out)) e = out.1 (subst (λ (n : Name). IsAmong n (pending v)) (sym e) among)
