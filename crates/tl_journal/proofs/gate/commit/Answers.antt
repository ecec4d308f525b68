use Rattle.std.proofs.Common.{◌∙◌, ap, sym, subst, true, Some}
use Rattle.std.specs.Result.{is_ok}
use Rattle.tl_model.specs.Pictures.{after_sync}
use Rattle.tl_journal_text.specs.declared.slot.Slot.{Slot}
use Rattle.tl_journal_text.specs.Slots.{spare}
use Rattle.tl_journal.specs.States.{Between, staged}
use Rattle.tl_journal.specs.Touching.{only_sync, only_join}
use Rattle.std.proofs.lemmas.Result.{on_ok_weaker}
use Rattle.tl_journal.proofs.Live.{keeps_clean, keeps_open, tree_join}
use Rattle.tl_journal.proofs.Gates.{pictures_before, opened, opened_pending}
use Rattle.tl_journal.proofs.Commits.{commit_start, commit_staged, commit_other, commit_gate}
use Rattle.tl_journal.proofs.Staged.{staging_there}
use Rattle.tl_journal.proofs.Pieces.{on_ok_both}
use Rattle.tl_journal.proofs.gate.commit.Goals as goal

pub add-requires-clause-clean : goal.add-requires-clause-clean
add-requires-clause-clean g c t = (c.requires.staging t).clean

pub add-requires-clause-slot : goal.add-requires-clause-slot
add-requires-clause-slot g c t = ap spare (c.requires.opened t) ∙ sym c.spare-slot.ensures

pub add-requires-clause-there : goal.add-requires-clause-there
add-requires-clause-there g c t = staging_there (g.H.Host.seen c.args.host.now) c.spare-slot.result (c.requires.staging t) (ap spare (c.requires.opened t) ∙ sym c.spare-slot.ensures)

pub returns-in_err-add-clause-said : goal.returns-in_err-add-clause-said
returns-in_err-add-clause-said g c t = (c.add.ensures.keeps t).keeps.said

pub returns-in_err-add-clause-pictures : goal.returns-in_err-add-clause-pictures
returns-in_err-add-clause-pictures g c t = pictures_before _ _ (staged (g.H.Host.seen c.args.host.now)) (c.add.ensures.keeps t) (c.requires.staging t).clean

pub settle_other-requires-clause-clean : goal.settle_other-requires-clause-clean
settle_other-requires-clause-clean g c t = keeps_clean _ _ (c.add.ensures.keeps t) (c.requires.staging t).clean

pub settle_other-requires-clause-opened : goal.settle_other-requires-clause-opened
settle_other-requires-clause-opened g c t = keeps_open _ _ (c.add.ensures.keeps t) ∙ c.requires.opened t

pub returns-in_err-settle_other-clause-said : goal.returns-in_err-settle_other-clause-said
returns-in_err-settle_other-clause-said g c t = (c.settle_other.ensures.keeps t).keeps.said ∙ (c.add.ensures.keeps t).keeps.said

pub returns-in_err-settle_other-clause-pictures : goal.returns-in_err-settle_other-clause-pictures
returns-in_err-settle_other-clause-pictures g c t = pictures_before _ _ (staged (g.H.Host.seen c.args.host.now)) (tree_join _ _ _ (c.add.ensures.keeps t) (c.settle_other.ensures.keeps t)) (c.requires.staging t).clean

pub returns-in_err-sync-clause-said : goal.returns-in_err-sync-clause-said
returns-in_err-sync-clause-said g c t = (c.sync.ensures.sync t).said ∙ (c.settle_other.ensures.keeps t).keeps.said ∙ (c.add.ensures.keeps t).keeps.said

pub returns-in_err-sync-clause-pictures : goal.returns-in_err-sync-clause-pictures
returns-in_err-sync-clause-pictures g c t = after_sync _ _ _ _ (is_ok c.sync.result) (pictures_before _ _ (staged (g.H.Host.seen c.args.host.now)) (tree_join _ _ _ (c.add.ensures.keeps t) (c.settle_other.ensures.keeps t)) (c.requires.staging t).clean) (c.sync.ensures.sync t)

pub returns-clause-said : goal.returns-clause-said
returns-clause-said g c t =
    let s = g.H.Host.seen in
    let base = s c.args.host.now in
    let still = c.in_ok-settle_other.ensures.still t in
    let start = commit_start base (s c.add.new.host) (s c.settle_other.new.host) (s c.sync.new.self) c.args.opened (c.requires.staging t) (c.requires.opened t) (c.add.ensures.keeps t) (c.in_ok-add.ensures.grows t) (c.settle_other.ensures.keeps t) (c.settle_other.ensures.others t) still (c.in_ok-sync.ensures.sync t) in
    let there = subst (λ (x : Slot). Between base x (staged base) still.0 (s c.sync.new.self)) (sym c.spare-slot.ensures) start in
    (c.open.ensures.between t base (staged base) still.0 there).said

pub returns-clause-pictures : goal.returns-clause-pictures
returns-clause-pictures g c t =
    let s = g.H.Host.seen in
    let base = s c.args.host.now in
    let still = c.in_ok-settle_other.ensures.still t in
    let start = commit_start base (s c.add.new.host) (s c.settle_other.new.host) (s c.sync.new.self) c.args.opened (c.requires.staging t) (c.requires.opened t) (c.add.ensures.keeps t) (c.in_ok-add.ensures.grows t) (c.settle_other.ensures.keeps t) (c.settle_other.ensures.others t) still (c.in_ok-sync.ensures.sync t) in
    let there = subst (λ (x : Slot). Between base x (staged base) still.0 (s c.sync.new.self)) (sym c.spare-slot.ensures) start in
    (c.open.ensures.between t base (staged base) still.0 there).pictures

pub returns-clause-live : goal.returns-clause-live
returns-clause-live g c t =
    let s = g.H.Host.seen in
    let base = s c.args.host.now in
    let still = c.in_ok-settle_other.ensures.still t in
    let start = commit_start base (s c.add.new.host) (s c.settle_other.new.host) (s c.sync.new.self) c.args.opened (c.requires.staging t) (c.requires.opened t) (c.add.ensures.keeps t) (c.in_ok-add.ensures.grows t) (c.settle_other.ensures.keeps t) (c.settle_other.ensures.others t) still (c.in_ok-sync.ensures.sync t) in
    let there = subst (λ (x : Slot). Between base x (staged base) still.0 (s c.sync.new.self)) (sym c.spare-slot.ensures) start in
    on_ok_both c.open.result _ _ _ (λ byte settled. (opened base (s c.open.new.host) c.spare-slot.result (staged base) still.0 (c.open.ensures.between t base (staged base) still.0 there) (c.requires.staging t).fits byte settled).0) (c.open.ensures.byte t) (c.open.ensures.settled t)

pub returns-clause-open_at : goal.returns-clause-open_at
returns-clause-open_at g c t =
    let s = g.H.Host.seen in
    let base = s c.args.host.now in
    let still = c.in_ok-settle_other.ensures.still t in
    let start = commit_start base (s c.add.new.host) (s c.settle_other.new.host) (s c.sync.new.self) c.args.opened (c.requires.staging t) (c.requires.opened t) (c.add.ensures.keeps t) (c.in_ok-add.ensures.grows t) (c.settle_other.ensures.keeps t) (c.settle_other.ensures.others t) still (c.in_ok-sync.ensures.sync t) in
    let there = subst (λ (x : Slot). Between base x (staged base) still.0 (s c.sync.new.self)) (sym c.spare-slot.ensures) start in
    on_ok_both c.open.result _ _ _ (λ byte settled. (opened base (s c.open.new.host) c.spare-slot.result (staged base) still.0 (c.open.ensures.between t base (staged base) still.0 there) (c.requires.staging t).fits byte settled).1 ∙ ap Some c.spare-slot.ensures) (c.open.ensures.byte t) (c.open.ensures.settled t)

pub returns-clause-stands : goal.returns-clause-stands
returns-clause-stands g c t =
    let s = g.H.Host.seen in
    let base = s c.args.host.now in
    let still = c.in_ok-settle_other.ensures.still t in
    let start = commit_start base (s c.add.new.host) (s c.settle_other.new.host) (s c.sync.new.self) c.args.opened (c.requires.staging t) (c.requires.opened t) (c.add.ensures.keeps t) (c.in_ok-add.ensures.grows t) (c.settle_other.ensures.keeps t) (c.settle_other.ensures.others t) still (c.in_ok-sync.ensures.sync t) in
    let there = subst (λ (x : Slot). Between base x (staged base) still.0 (s c.sync.new.self)) (sym c.spare-slot.ensures) start in
    on_ok_both c.open.result _ _ _ (λ byte settled. (opened base (s c.open.new.host) c.spare-slot.result (staged base) still.0 (c.open.ensures.between t base (staged base) still.0 there) (c.requires.staging t).fits byte settled).2) (c.open.ensures.byte t) (c.open.ensures.settled t)

pub returns-clause-records : goal.returns-clause-records
returns-clause-records g c t =
    let s = g.H.Host.seen in
    let base = s c.args.host.now in
    let still = c.in_ok-settle_other.ensures.still t in
    let start = commit_start base (s c.add.new.host) (s c.settle_other.new.host) (s c.sync.new.self) c.args.opened (c.requires.staging t) (c.requires.opened t) (c.add.ensures.keeps t) (c.in_ok-add.ensures.grows t) (c.settle_other.ensures.keeps t) (c.settle_other.ensures.others t) still (c.in_ok-sync.ensures.sync t) in
    let there = subst (λ (x : Slot). Between base x (staged base) still.0 (s c.sync.new.self)) (sym c.spare-slot.ensures) start in
    on_ok_weaker c.open.result (λ byte. opened_pending base (s c.open.new.host) c.spare-slot.result (staged base) still.0 (c.open.ensures.between t base (staged base) still.0 there) byte) (c.open.ensures.byte t)

pub returns-in_err-add-clause-touches : goal.returns-in_err-add-clause-touches
returns-in_err-add-clause-touches g c t = commit_staged _ _ c.args.opened c.spare-slot.result c.spare-slot.ensures (c.add.ensures.touches t)

pub returns-in_err-settle_other-clause-touches : goal.returns-in_err-settle_other-clause-touches
returns-in_err-settle_other-clause-touches g c t = only_join _ _ _ _ (commit_staged _ _ c.args.opened c.spare-slot.result c.spare-slot.ensures (c.add.ensures.touches t)) (commit_other _ _ c.args.opened (c.settle_other.ensures.touches t))

pub returns-in_err-sync-clause-touches : goal.returns-in_err-sync-clause-touches
returns-in_err-sync-clause-touches g c t = only_sync _ _ _ _ (is_ok c.sync.result) (only_join _ _ _ _ (commit_staged _ _ c.args.opened c.spare-slot.result c.spare-slot.ensures (c.add.ensures.touches t)) (commit_other _ _ c.args.opened (c.settle_other.ensures.touches t))) (c.sync.ensures.sync t)

pub returns-clause-touches : goal.returns-clause-touches
returns-clause-touches g c t =
    only_join _ _ _ _ (only_sync _ _ _ _ true (only_join _ _ _ _ (commit_staged _ _ c.args.opened c.spare-slot.result c.spare-slot.ensures (c.add.ensures.touches t)) (commit_other _ _ c.args.opened (c.settle_other.ensures.touches t))) (c.in_ok-sync.ensures.sync t))
    (commit_gate _ _ c.args.opened (c.open.ensures.touches t))
