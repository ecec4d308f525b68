-- Before the gate is written or removed.
use Rattle.std.proofs.Common.{◌≡◌, ◌≢◌, true, List, [], ◌∷◌, ℕ, Option, Some, None, refl, sym, ◌∙◌, ap, subst, inl, inr}
use Rattle.std.specs.Option.{unwrap_or}
use Rattle.tl_model.specs.Volume.{Name, Volume, at, SameBut}
use Rattle.tl_model.specs.Seen.{Seen, Syncs}
use Rattle.tl_journal_text.specs.declared.slot.Slot.{Slot}
use Rattle.tl_journal_text.specs.declared.slot.Slot.TheVariants.{Two}
use Rattle.tl_journal_text.specs.Slots.{gate, body_of, open_slot, spare, other}
use Rattle.tl_journal_text.specs.Records.{Record, after}
use Rattle.tl_journal_text.specs.Body.{records_of, records_in}
use Rattle.tl_journal_text.specs.Stand.{tree_of, bytes_at}
use Rattle.tl_journal_text.proofs.ReadBack.{written}
use Rattle.tl_journal_text.proofs.Trees.{other_other, bodies_apart}
use Rattle.tl_journal.specs.States.{IsClean, IsStaging, KeepsTree, Between, IsCommitted, IsRested, Fixed, Grows, staged, pending, spare_body}
use Rattle.tl_journal.specs.Touching.{TouchesOnly, only_weaker}
use Rattle.tl_journal.proofs.Live.{free_spare, keeps_tree, tree_join}
use Rattle.tl_journal.proofs.Gates.{between_start, again}
use Rattle.tl_journal.proofs.Staged.{ended, spare_stays}

-- a body that is an end alone
pub only_end : (body : Option (List ℕ)) → body ≡ Some (69 ∷ []) → records_of (unwrap_or body []) ≡ Some []
only_end body is = ap (λ (o : Option (List ℕ)). records_of (unwrap_or o [])) is ∙ ap records_in (written [] tt)

-- what is known of the body that isn't being written: it is whole, and its records change nothing
abbrev pub Still : Slot → Volume → Volume → Type 0
Still slot held new = (rs : List Record) × (records_of (bytes_at new (body_of slot)) ≡ Some rs) × (after rs (tree_of held) ≡ tree_of held)

-- where the gate is open at it
pub still_open : (s : Seen) (slot : Slot) → IsClean s.present → open_slot s.present.held ≡ Some slot → Still (other (spare (Some slot))) s.present.held s.present.held
still_open s slot clean is = (
  pending s.present.held,
  subst (λ (x : Slot). records_of (bytes_at s.present.held (body_of x)) ≡ Some (pending s.present.held)) (sym (other_other slot)) (clean.live.whole slot is),
  again s slot clean is,
)

pub commit_start : (base first mid new : Seen) (opened : Option Slot) → IsStaging base → open_slot base.present.held ≡ opened → KeepsTree base first → Grows (69 ∷ []) base first → KeepsTree first mid → SameBut (body_of (other (spare opened))) first.present.held mid.present.held
    → (still : Still (other (spare opened)) first.present.held mid.present.held) → Syncs true mid new → Between base (spare opened) (staged base) still.0 new
commit_start base first mid new opened staging is far grows near others still sync =
    let spares : spare_body first.present.held ≡ body_of (spare opened) = spare_stays base first far ∙ ap (λ (o : Option Slot). body_of (spare o)) is in
    let here : records_of (bytes_at first.present.held (body_of (spare opened))) ≡ Some (staged base) =
    ap (λ (n : Name). records_of (bytes_at first.present.held n)) (sym spares) ∙ ended base (at first.present.held (spare_body first.present.held)) staging grows in
    let moved : bytes_at mid.present.held (body_of (spare opened)) ≡ bytes_at first.present.held (body_of (spare opened)) = ap (λ (o : Option (List ℕ)). unwrap_or o []) (others (body_of (spare opened)) (bodies_apart (spare opened))) in
    let tree = keeps_tree base first far in
    between_start base mid new (spare opened) (staged base) still.0 (tree_join base first mid far near) staging.clean
    (ap (λ (l : List ℕ). records_of l) moved ∙ here)
    still.1
    (ap (λ (v : Volume). after still.0 v) (sym tree) ∙ still.2 ∙ tree)
    sync

pub close_start : (base mid new : Seen) (slot : Slot) → IsClean base.present → open_slot base.present.held ≡ Some slot → KeepsTree base mid → records_of (bytes_at mid.present.held (body_of (other slot))) ≡ Some [] → Syncs true mid new → Between base slot (pending base.present.held) [] new
close_start base mid new slot clean is far cleared sync =
    between_start base mid new slot (pending base.present.held) [] far clean
    (ap (λ (o : Option (List ℕ)). records_of (unwrap_or o [])) (far.keeps.apart (body_of slot) (inr (inl (slot, is, refl)))) ∙ clean.live.whole slot is)
    cleared refl sync

-- the other slot's body needn't stay
pub free_other : (s : Seen) (slot x : Slot) → open_slot s.present.held ≡ Some slot → x ≡ other slot → (q : Name) → Fixed s q → q ≢ body_of x
free_other s slot x is same q fixed e = free_spare s.present.held q fixed (e ∙ ap body_of same ∙ sym (ap (λ (o : Option Slot). body_of (spare o)) is))

-- ---- what is touched

-- the body that was staged
pub commit_staged : (old new : Seen) (opened : Option Slot) (slot : Slot) → slot ≡ spare opened → TouchesOnly (λ name. name ≡ body_of slot) old new → TouchesOnly (IsCommitted opened) old new
commit_staged old new opened slot is far = only_weaker (λ name. name ≡ body_of slot) (IsCommitted opened) old new (λ name here. inr (inl (here ∙ ap body_of is))) far

-- the other body
pub commit_other : (old new : Seen) (opened : Option Slot) → TouchesOnly (λ name. (opened ≡ None) × (name ≡ body_of (other (spare opened)))) old new → TouchesOnly (IsCommitted opened) old new
commit_other old new opened far = only_weaker (λ name. (opened ≡ None) × (name ≡ body_of (other (spare opened)))) (IsCommitted opened) old new (λ name here. inr (inr here)) far

-- and the gate
pub commit_gate : (old new : Seen) (opened : Option Slot) → TouchesOnly (λ name. name ≡ gate) old new → TouchesOnly (IsCommitted opened) old new
commit_gate old new opened far = only_weaker (λ name. name ≡ gate) (IsCommitted opened) old new (λ name here. inl here) far

-- the second body where the gate is closed
pub settles_two : (old new : Seen) (opened : Option Slot) → opened ≡ None → TouchesOnly (λ name. name ≡ body_of Two) old new → TouchesOnly (λ name. (opened ≡ None) × (name ≡ body_of (other (spare opened)))) old new
settles_two old new opened shut far =
    only_weaker (λ name. name ≡ body_of Two) (λ name. (opened ≡ None) × (name ≡ body_of (other (spare opened)))) old new
    (λ name here. (shut, here ∙ ap (λ (o : Option Slot). body_of (other (spare o))) (sym shut))) far

-- the body at which the gate isn't open
pub rest_body : (old new : Seen) (slot x : Slot) → x ≡ other slot → TouchesOnly (λ name. name ≡ body_of x) old new → TouchesOnly (IsRested (Some slot)) old new
rest_body old new slot x is far = only_weaker (λ name. name ≡ body_of x) (IsRested (Some slot)) old new (λ name here. inr (here ∙ ap body_of is)) far

pub rest_gate : (old new : Seen) (slot : Slot) → TouchesOnly (λ name. name ≡ gate) old new → TouchesOnly (IsRested (Some slot)) old new
rest_gate old new slot far = only_weaker (λ name. name ≡ gate) (IsRested (Some slot)) old new (λ name here. inl here) far
