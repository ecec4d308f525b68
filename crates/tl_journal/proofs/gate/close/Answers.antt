use Rattle.std.proofs.Common.{◌≡◌, ◌∙◌, ap, subst, true, Some, []}
use Rattle.std.specs.Result.{is_ok}
use Rattle.tl_model.specs.Volume.{Volume}
use Rattle.tl_model.specs.Pictures.{after_sync}
use Rattle.tl_journal_text.specs.declared.slot.Slot.{Slot}
use Rattle.tl_journal_text.specs.Slots.{body_of, opens}
use Rattle.tl_journal_text.specs.Body.{records_of}
use Rattle.tl_journal_text.specs.Stand.{bytes_at, tree_of}
use Rattle.tl_journal.specs.States.{pending}
use Rattle.tl_journal.specs.Touching.{only_sync, only_join}
use Rattle.tl_journal.proofs.Live.{keeps_tree}
use Rattle.tl_journal.proofs.Gates.{between_stays, shut_clean, again}
use Rattle.tl_journal.proofs.Pieces.{on_ok_both}
use Rattle.std.proofs.lemmas.Result.{on_ok_weaker}
use Rattle.tl_journal.proofs.Commits.{close_start, free_other, rest_body, rest_gate}
use Rattle.tl_journal.proofs.gate.close.Goals as goal

pub clear-requires-clause-free : goal.clear-requires-clause-free
clear-requires-clause-free g c t = free_other (g.H.Host.seen c.args.host.now) c.args.slot c.other.result (c.requires.opened t) c.other.ensures

pub returns-in_err-clear-clause-tree : goal.returns-in_err-clear-clause-tree
returns-in_err-clear-clause-tree g c t = keeps_tree _ _ (c.clear.ensures.keeps t)

pub returns-in_err-clear-clause-said : goal.returns-in_err-clear-clause-said
returns-in_err-clear-clause-said g c t = (c.clear.ensures.keeps t).keeps.said

pub returns-in_err-clear-clause-stays : goal.returns-in_err-clear-clause-stays
returns-in_err-clear-clause-stays g c t = (c.clear.ensures.keeps t).keeps.pictures

pub returns-in_err-sync-clause-tree : goal.returns-in_err-sync-clause-tree
returns-in_err-sync-clause-tree g c t = ap (λ (v : Volume). tree_of v) (c.sync.ensures.sync t).held ∙ keeps_tree _ _ (c.clear.ensures.keeps t)

pub returns-in_err-sync-clause-said : goal.returns-in_err-sync-clause-said
returns-in_err-sync-clause-said g c t = (c.sync.ensures.sync t).said ∙ (c.clear.ensures.keeps t).keeps.said

pub returns-in_err-sync-clause-stays : goal.returns-in_err-sync-clause-stays
returns-in_err-sync-clause-stays g c t = after_sync _ _ _ _ (is_ok c.sync.result) (c.clear.ensures.keeps t).keeps.pictures (c.sync.ensures.sync t)

pub returns-clause-tree : goal.returns-clause-tree
returns-clause-tree g c t =
    let s = g.H.Host.seen in
    let base = s c.args.host.now in
    let cleared = subst (λ (x : Slot). records_of (bytes_at (s c.clear.new.host).present.held (body_of x)) ≡ Some []) c.other.ensures (c.in_ok-clear.ensures.cleared t) in
    (c.remove.ensures.between t base c.args.slot (pending base.present.held) [] (close_start base (s c.clear.new.host) (s c.sync.new.self) c.args.slot (c.requires.clean t) (c.requires.opened t) (c.clear.ensures.keeps t) cleared (c.in_ok-sync.ensures.sync t))).tree

pub returns-clause-said : goal.returns-clause-said
returns-clause-said g c t =
    let s = g.H.Host.seen in
    let base = s c.args.host.now in
    let cleared = subst (λ (x : Slot). records_of (bytes_at (s c.clear.new.host).present.held (body_of x)) ≡ Some []) c.other.ensures (c.in_ok-clear.ensures.cleared t) in
    (c.remove.ensures.between t base c.args.slot (pending base.present.held) [] (close_start base (s c.clear.new.host) (s c.sync.new.self) c.args.slot (c.requires.clean t) (c.requires.opened t) (c.clear.ensures.keeps t) cleared (c.in_ok-sync.ensures.sync t))).said

pub returns-clause-stays : goal.returns-clause-stays
returns-clause-stays g c t =
    let s = g.H.Host.seen in
    let base = s c.args.host.now in
    let cleared = subst (λ (x : Slot). records_of (bytes_at (s c.clear.new.host).present.held (body_of x)) ≡ Some []) c.other.ensures (c.in_ok-clear.ensures.cleared t) in
    between_stays base _ c.args.slot (pending base.present.held) [] (c.requires.clean t) (again base c.args.slot (c.requires.clean t) (c.requires.opened t))
    (c.remove.ensures.between t base c.args.slot (pending base.present.held) [] (close_start base (s c.clear.new.host) (s c.sync.new.self) c.args.slot (c.requires.clean t) (c.requires.opened t) (c.clear.ensures.keeps t) cleared (c.in_ok-sync.ensures.sync t)))

pub returns-clause-shut : goal.returns-clause-shut
returns-clause-shut g c t = on_ok_weaker c.remove.result (λ gone. ap opens gone) (c.remove.ensures.gone t)

pub returns-clause-clean : goal.returns-clause-clean
returns-clause-clean g c t = on_ok_both c.remove.result _ _ _ (λ gone settled. shut_clean (g.H.Host.seen c.remove.new.host) (ap opens gone) settled) (c.remove.ensures.gone t) (c.remove.ensures.settled t)

pub returns-in_err-clear-clause-touches : goal.returns-in_err-clear-clause-touches
returns-in_err-clear-clause-touches g c t = rest_body _ _ c.args.slot c.other.result c.other.ensures (c.clear.ensures.touches t)

pub returns-in_err-sync-clause-touches : goal.returns-in_err-sync-clause-touches
returns-in_err-sync-clause-touches g c t =
    only_sync _ _ _ _ (is_ok c.sync.result) (rest_body _ _ c.args.slot c.other.result c.other.ensures (c.clear.ensures.touches t)) (c.sync.ensures.sync t)

pub returns-clause-touches : goal.returns-clause-touches
returns-clause-touches g c t =
    only_join _ _ _ _
    (only_sync _ _ _ _ true (rest_body _ _ c.args.slot c.other.result c.other.ensures (c.clear.ensures.touches t)) (c.in_ok-sync.ensures.sync t))
    (rest_gate _ _ c.args.slot (c.remove.ensures.touches t))
