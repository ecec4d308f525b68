-- A volume that stands for no tree has no records to carry out.
use Rattle.std.proofs.Common.{◌≡◌, List, [], Option, Some, None, refl, subst}
use Rattle.std.specs.Option.{option_map, unwrap_or}
use Rattle.tl_model.specs.Volume.{Name, Volume}
use Rattle.tl_journal_text.specs.declared.slot.Slot.{Slot}
use Rattle.tl_journal_text.specs.Slots.{open_slot, body_of}
use Rattle.tl_journal_text.specs.Records.{Record, IsAmong, after}
use Rattle.tl_journal_text.specs.Body.{records_of}
use Rattle.tl_journal_text.specs.Stand.{stand, tree_of, bytes_at}
use Rattle.tl_journal.specs.States.{pending, records_at, IsPending}

none_read : (volume : Volume) (found : Option (List Record)) → option_map (λ rs. after rs (tree_of volume)) found ≡ None → unwrap_or found [] ≡ []
none_read volume None none = refl
none_read volume (Some rs) none = absurd (cc)

pending-none : (volume : Volume) → stand volume ≡ None → pending volume ≡ []
unfolding stand pending
pending-none volume none = by (open_slot volume) none
  where
    by : (slot : Option Slot) → elim slot as (λ _. Option Volume) [ None ↦ Some (tree_of volume) | Some s ↦ option_map (λ rs. after rs (tree_of volume)) (records_of (bytes_at volume (body_of s))) ] ≡ None → records_at slot volume ≡ []
    by None none = absurd (cc)
    by (Some slot) none = none_read volume (records_of (bytes_at volume (body_of slot))) none

-- so no name is one of such a record
pub nothing_pending : (volume : Volume) → stand volume ≡ None → (name : Name) → IsPending volume name → ⊥
nothing_pending volume none name is = subst (λ (rs : List Record). IsAmong name rs) (pending-none volume none) is
