-- How calls that stage go on.
use Rattle.std.proofs.Common.{◌≡◌, Option, refl, sym, ◌∙◌, ap, subst}
use Rattle.tl_model.specs.Volume.{Name}
use Rattle.tl_model.specs.Seen.{Seen, Since}
use Rattle.tl_model.specs.Pictures.{since_start, since_join, since_weaker, reads_back}
use Rattle.tl_journal_text.specs.declared.slot.Slot.{Slot}
use Rattle.tl_journal_text.specs.Slots.{gate, open_slot, opens, spare}
use Rattle.tl_journal_text.specs.Stand.{stand, Stays}
use Rattle.tl_journal_text.proofs.Trees.{gate_body}
use Rattle.tl_journal.specs.States.{IsStaged}
use Rattle.tl_journal.specs.Touching.{TouchesOnly, only_start, only_join}
use Rattle.tl_journal.specs.Spent.{Stages}

-- what the volume reads as stands for what it stood for
reads : (old new : Seen) → Stays old new → (stand new.present.held ≡ stand old.present.held) × (new.present.said ≡ old.present.said)
reads old new stays = stays.present new.present.held new.present.said (reads_back new)

-- a volume at rest
pub stages_start : (s : Seen) → Stays s s → Stages s s
stages_start s stays = record { tree = refl; stays = stays; touches = only_start (IsStaged (open_slot s.present.held)) s; syncs = refl }

-- a volume on which records are staged
pub stages_again : (old new : Seen) → Stages old new → Stages new new
stages_again old new stages =
    let here = reads old new stages.stays in
    stages_start new (since_start new _ (λ image said picture.
    let was = stages.stays.present image said picture in (was.0 ∙ sym here.0, was.1 ∙ sym here.1)))

-- the gate isn't touched
same_open : (old new : Seen) → TouchesOnly (IsStaged (open_slot old.present.held)) old new → open_slot new.present.held ≡ open_slot old.present.held
same_open old new touches = ap opens (touches.present gate (gate_body (spare (open_slot old.present.held)))).0

-- one call after another
pub stages_join : (old mid new : Seen) → Stages old mid → Stages mid new → Stages old new
stages_join old mid new far near =
    let here = reads old mid far.stays in
    record {
      tree = near.tree ∙ far.tree;
      stays = since_join old mid new _ far.stays (since_weaker mid new _ _ (λ image said picture. (picture.0 ∙ here.0, picture.1 ∙ here.1)) near.stays);
      touches = only_join (IsStaged (open_slot old.present.held)) old mid new far.touches
          (subst (λ (o : Option Slot). TouchesOnly (IsStaged o) mid new) (same_open old mid far.touches) near.touches);
      syncs = near.syncs ∙ far.syncs;
    }
