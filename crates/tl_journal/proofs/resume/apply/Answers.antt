use Rattle.std.proofs.Common.{◌∙◌, ap, sym, Some}
use Rattle.tl_journal_text.specs.declared.slot.Slot.{Slot}
use Rattle.tl_journal.proofs.Doing.{redoes_start, redoes_quiet}
use Rattle.tl_journal.proofs.Resumed.{live_quiet, open_quiet, redoes_through}
use Rattle.tl_journal.proofs.resume.apply.Goals as goal

pub returns-in_err-body-clause-redoes : goal.returns-in_err-body-clause-redoes
returns-in_err-body-clause-redoes g c t = redoes_quiet _ _ _ (redoes_start _ (c.requires.live t)) (c.body_of.ensures.quiet t)

pub steps-requires-clause-opened : goal.steps-requires-clause-opened
steps-requires-clause-opened g c t = open_quiet (g.H.Host.seen c.args.host.now) _ _ (c.body_of.ensures.quiet t) (c.requires.opened t) ∙ ap (λ (x : Slot). Some x) (sym c.in_ok-body.ensures.slot)

pub steps-requires-clause-live : goal.steps-requires-clause-live
steps-requires-clause-live g c t = live_quiet (g.H.Host.seen c.args.host.now) _ (c.body_of.ensures.quiet t) (c.requires.live t)

pub returns-clause-redoes : goal.returns-clause-redoes
returns-clause-redoes g c t = redoes_through _ _ _ (c.requires.live t) (c.body_of.ensures.quiet t) (c.steps.ensures.redoes t)
