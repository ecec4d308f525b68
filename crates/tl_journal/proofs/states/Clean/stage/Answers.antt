use Rattle.std.proofs.Common.{◌∙◌, ap, sym, []}
use Rattle.tl_model.specs.Seen.{Seen}
use Rattle.tl_journal_text.specs.Slots.{spare}
use Rattle.tl_journal.proofs.Live.{keeps_clean, keeps_open}
use Rattle.tl_journal.proofs.Staged.{started, staged_is, is_staging}
use Rattle.tl_journal.proofs.Called.{stages_of}
use Rattle.tl_journal.proofs.states.Clean.stage.Goals as goal

pub invariant_of-result : goal.invariant_of-result
invariant_of-result g c t =
    let s = g.H.Host.seen in
    let inv = c.self.invariant t in
    let keeps = c.start.ensures.keeps t in
    let text = started (s c.self.inside.host) (s c.start.new.host) c.spare.result (ap spare inv.1 ∙ sym c.spare.ensures) keeps (c.in-Ok.ensures.text t) in
    (is_staging (s c.start.new.host) [] (keeps_clean _ _ keeps inv.0) text tt, keeps_open _ _ keeps ∙ inv.1)

pub returns-in-Ok-clause-empty : goal.returns-in-Ok-clause-empty
returns-in-Ok-clause-empty g c t =
    let s = g.H.Host.seen in
    let inv = c.self.invariant t in
    let text = started (s c.self.inside.host) (s c.start.new.host) c.spare.result (ap spare inv.1 ∙ sym c.spare.ensures) (c.start.ensures.keeps t) (c.in-Ok.ensures.text t) in
    staged_is (s c.start.new.host) [] text tt

pub returns-in-Ok-clause-spare : goal.returns-in-Ok-clause-spare
returns-in-Ok-clause-spare g c t =
    let s = g.H.Host.seen in
    let inv = c.self.invariant t in
    started (s c.self.inside.host) (s c.start.new.host) c.spare.result (ap spare inv.1 ∙ sym c.spare.ensures) (c.start.ensures.keeps t) (c.in-Ok.ensures.text t)

pub returns-in-Ok-clause-stages : goal.returns-in-Ok-clause-stages
returns-in-Ok-clause-stages g c t = stages_of _ _ _ c.self.inside.opened c.spare.result c.self.view_is (c.self.invariant t).1 c.spare.ensures (c.start.ensures.keeps t) (c.start.ensures.touches t)

pub returns-in-Err-clause-stages : goal.returns-in-Err-clause-stages
returns-in-Err-clause-stages g c t = stages_of _ _ _ c.self.inside.opened c.spare.result c.self.view_is (c.self.invariant t).1 c.spare.ensures (c.start.ensures.keeps t) (c.start.ensures.touches t)
