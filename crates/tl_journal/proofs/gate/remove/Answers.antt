use Rattle.std.proofs.Common.{◌∙◌, ap, subst}
use Rattle.std.specs.FinMap as map
use Rattle.std.specs.Result.{is_ok}
use Rattle.tl_model.specs.Volume.{Name, Volume, at, at-remove_here}
use Rattle.tl_model.specs.Seen.{Changes}
use Rattle.tl_journal_text.specs.Slots.{gate}
use Rattle.tl_journal.specs.Touching.{only_start, only_change, only_sync}
use Rattle.tl_journal.proofs.Gates.{between_change, between_sync, settles, on_sync}
use Rattle.tl_journal.proofs.gate.remove.Goals as goal

pub returns-in_err-remove-clause-between : goal.returns-in_err-remove-clause-between
returns-in_err-remove-clause-between g c t base slot rs old_rs far =
    let s = g.H.Host.seen in
    between_change base _ _ _ slot rs old_rs far (subst (λ (n : Name). Changes (is_ok c.remove.result) n (s c.args.host.now) (s c.remove.new.self)) c.gate.ensures (c.remove.ensures.change t))

pub returns-clause-between : goal.returns-clause-between
returns-clause-between g c t base slot rs old_rs far =
    let s = g.H.Host.seen in
    between_sync base _ _ (is_ok c.sync.result) slot rs old_rs (between_change base _ _ _ slot rs old_rs far (subst (λ (n : Name). Changes (is_ok c.remove.result) n (s c.args.host.now) (s c.remove.new.self)) c.gate.ensures (c.remove.ensures.change t))) (c.sync.ensures.sync t)

pub returns-clause-gone : goal.returns-clause-gone
returns-clause-gone g c t =
    on_sync c.sync.result _ _ _ (λ sync. ap (λ (v : Volume). at v gate) sync.held ∙ ap (λ (v : Volume). at v gate) (c.in_ok-remove.ensures.removed t)
    ∙ ap (λ (n : Name). at (map.remove (g.H.Host.seen c.args.host.now).present.held n) gate) c.gate.ensures ∙ at-remove_here _ gate) (c.sync.ensures.sync t)

pub returns-clause-settled : goal.returns-clause-settled
returns-clause-settled g c t = on_sync c.sync.result _ _ _ (λ sync. settles _ _ sync) (c.sync.ensures.sync t)

pub returns-in_err-remove-clause-touches : goal.returns-in_err-remove-clause-touches
returns-in_err-remove-clause-touches g c t = only_change _ _ _ _ (is_ok c.remove.result) c.gate.result c.gate.ensures (only_start _ _) (c.remove.ensures.change t)

pub returns-clause-touches : goal.returns-clause-touches
returns-clause-touches g c t =
    only_sync _ _ _ _ (is_ok c.sync.result)
    (only_change _ _ _ _ (is_ok c.remove.result) c.gate.result c.gate.ensures (only_start _ _) (c.remove.ensures.change t))
    (c.sync.ensures.sync t)
