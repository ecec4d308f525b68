-- Volumes whose trees are one, and what they stand for.
use Rattle.std.proofs.Common.{◌≡◌, ◌≢◌, ◌⊎◌, Bool, true, false, cond, not, List, [], ◌∷◌, take, eqb, ℕ, Option, Some, None, refl, sym, ◌∙◌, ap, inl, inr}
use Rattle.std.specs.Option.{option_map, unwrap_or}
use Rattle.std.specs.Prelude.{bytes_eq}
use Rattle.std.specs.FinMap as map
use Rattle.std.specs.FinMap.{slice_cmp-IsAntisymmetric, nat_cmp-IsAntisymmetric}
use Rattle.std.proofs.lemmas.Bool.{true≢false, and_right}
use Rattle.tl_model.specs.Volume.{Name, Volume, at, same_volume, same_name, same_name-refl}
use Rattle.tl_journal_text.specs.declared.slot.Slot.{Slot}
use Rattle.tl_journal_text.specs.declared.slot.Slot.TheVariants.{One, Two}
use Rattle.tl_journal_text.specs.Slots.{gate, body_of, open_slot, other, opens}
use Rattle.tl_journal_text.specs.Records.{Record, is_ours, after}
use Rattle.tl_journal_text.specs.Body.{Bad, records_of, records_in, fault_of, fault_in, reading}
use Rattle.tl_journal_text.specs.Stand.{tree_of, bytes_at, stand, journal_fault}

pub at-tree_of : (v : Volume) (q : Name) → at (tree_of v) q ≡ cond (not (is_ours q)) (at v q) None
at-tree_of v q = map.get-retain_keys v (λ name. not (is_ours name)) q (λ x tied. ap (λ (n : Name). not (is_ours n)) (sym (slice_cmp-IsAntisymmetric nat_cmp-IsAntisymmetric q x tied)))

pub at_outside : (v : Volume) (q : Name) → is_ours q ≡ false → at (tree_of v) q ≡ at v q
at_outside v q out = at-tree_of v q ∙ ap (λ b. cond (not b) (at v q) None) out

pub at_ours : (v : Volume) (q : Name) → is_ours q ≡ true → at (tree_of v) q ≡ None
at_ours v q ours = at-tree_of v q ∙ ap (λ b. cond (not b) (at v q) None) ours

pub split : (b : Bool) → (b ≡ true) ⊎ (b ≡ false)
split true = inl refl
split false = inr refl

-- volumes that hold the same outside the journal have one tree
pub same_tree : (v w : Volume) → ((q : Name) → is_ours q ≡ false → at v q ≡ at w q) → tree_of v ≡ tree_of w
same_tree v w is = same_volume (tree_of v) (tree_of w) (λ q. elim (split (is_ours q)) [
  | inl ours ↦ at_ours v q ours ∙ sym (at_ours w q ours)
  | inr out ↦ at_outside v q out ∙ is q out ∙ sym (at_outside w q out)
])

pub ours_body : (slot : Slot) → is_ours (body_of slot) ≡ true
ours_body One = refl
ours_body Two = refl

pub not_body : (slot : Slot) (q : Name) → is_ours q ≡ false → q ≢ body_of slot
not_body slot q out is = true≢false (sym (ours_body slot) ∙ ap is_ours (sym is) ∙ out)

pub not_gate : (q : Name) → is_ours q ≡ false → q ≢ gate
not_gate q out is = true≢false (ap is_ours (sym is) ∙ out)

apart : (a b : Name) → same_name a b ≡ false → a ≢ b
apart a b differs is = true≢false (sym (same_name-refl a) ∙ ap (λ (q : Name). same_name a q) is ∙ differs)

pub gate_body : (slot : Slot) → gate ≢ body_of slot
gate_body One = apart gate (body_of One) refl
gate_body Two = apart gate (body_of Two) refl

pub bodies_apart : (slot : Slot) → body_of slot ≢ body_of (other slot)
bodies_apart One = apart (body_of One) (body_of Two) refl
bodies_apart Two = apart (body_of Two) (body_of One) refl

pub other_other : (slot : Slot) → other (other slot) ≡ slot
other_other One = refl
other_other Two = refl

-- a closed gate
pub stand_shut : (v : Volume) → open_slot v ≡ None → stand v ≡ Some (tree_of v)
unfolding stand
stand_shut v shut = ap (λ (o : Option Slot). elim o as (λ _. Option Volume) [ None ↦ Some (tree_of v) | Some slot ↦ option_map (λ rs. after rs (tree_of v)) (records_of (bytes_at v (body_of slot))) ]) shut

stand_by : (v : Volume) (slot : Slot) → open_slot v ≡ Some slot → stand v ≡ option_map (λ rs. after rs (tree_of v)) (records_of (bytes_at v (body_of slot)))
unfolding stand
stand_by v slot opened = ap (λ (o : Option Slot). elim o as (λ _. Option Volume) [ None ↦ Some (tree_of v) | Some slot ↦ option_map (λ rs. after rs (tree_of v)) (records_of (bytes_at v (body_of slot))) ]) opened

-- a gate that is open at a slot with a whole body
pub stand_open : (v : Volume) (slot : Slot) (rs : List Record) → open_slot v ≡ Some slot → records_of (bytes_at v (body_of slot)) ≡ Some rs → stand v ≡ Some (after rs (tree_of v))
stand_open v slot rs opened whole = stand_by v slot opened ∙ ap (λ (o : Option (List Record)). option_map (λ (rs : List Record). after rs (tree_of v)) o) whole

pub stand_none : (v : Volume) (slot : Slot) → open_slot v ≡ Some slot → records_of (bytes_at v (body_of slot)) ≡ None → stand v ≡ None
stand_none v slot opened none = stand_by v slot opened ∙ ap (λ (o : Option (List Record)). option_map (λ (rs : List Record). after rs (tree_of v)) o) none

fault_by : (v : Volume) (slot : Slot) → open_slot v ≡ Some slot → journal_fault v ≡ fault_of (bytes_at v (body_of slot))
unfolding journal_fault
fault_by v slot opened = ap (λ (o : Option Slot). elim o as (λ _. Option ℕ) [ None ↦ None | Some slot ↦ fault_of (bytes_at v (body_of slot)) ]) opened

pub fault_shut : (v : Volume) → open_slot v ≡ None → journal_fault v ≡ None
unfolding journal_fault
fault_shut v shut = ap (λ (o : Option Slot). elim o as (λ _. Option ℕ) [ None ↦ None | Some slot ↦ fault_of (bytes_at v (body_of slot)) ]) shut

-- a body that isn't in the grammar behind an open gate
pub fault_open : (v : Volume) (slot : Slot) (place : ℕ) → open_slot v ≡ Some slot → reading (bytes_at v (body_of slot)) ≡ Bad place → (stand v ≡ None) × (journal_fault v ≡ Some place)
fault_open v slot place opened bad = (stand_none v slot opened (ap records_in bad), fault_by v slot opened ∙ ap fault_in bad)

-- the first two bytes of a gate say as much as all
pub opens_two : (o : Option (List ℕ)) → opens (Some (take 2 (unwrap_or o []))) ≡ opens o
opens_two None = refl
opens_two (Some []) = refl
opens_two (Some (x ∷ [])) = refl
opens_two (Some (x ∷ y ∷ xs)) = same x
  where
    same : (x : ℕ) → opens (Some (x ∷ y ∷ [])) ≡ opens (Some (x ∷ y ∷ xs))
    same x = ap (λ b. cond b (Some One) (cond (bytes_eq (x ∷ y ∷ []) (2 ∷ [])) (Some Two) None)) (longer x 1 y [] ∙ sym (longer x 1 y xs))
        ∙ ap (λ b. cond (bytes_eq (x ∷ y ∷ xs) (1 ∷ [])) (Some One) (cond b (Some Two) None)) (longer x 2 y [] ∙ sym (longer x 2 y xs))
      where
        longer : (x a y : ℕ) (xs : List ℕ) → bytes_eq (x ∷ y ∷ xs) (a ∷ []) ≡ false
        longer x a y xs = and_right (eqb x a) false refl
