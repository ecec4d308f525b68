use Rattle.std.proofs.Common.{◌∙◌, ap, sym, Some}
use Rattle.tl_journal_text.specs.declared.slot.Slot.{Slot}
use Rattle.tl_journal.proofs.Called.{commits_of, committed_of}
use Rattle.tl_journal.proofs.states.Staging.commit.Goals as goal

pub invariant_of-result : goal.invariant_of-result
invariant_of-result g c t = (c.in-Ok.ensures.live t, c.in-Ok.ensures.open_at t ∙ ap (λ (x : Slot). Some x) (sym c.spare.ensures))

pub returns-in-Ok-clause-committed : goal.returns-in-Ok-clause-committed
returns-in-Ok-clause-committed g c t = committed_of _ _ _ c.self.view_is (c.in-Ok.ensures.live t) (c.in-Ok.ensures.records t) (c.in-Ok.ensures.stands t)

pub returns-in-Ok-clause-commits : goal.returns-in-Ok-clause-commits
returns-in-Ok-clause-commits g c t =
    commits_of _ _ _ c.self.inside.opened c.self.view_is (c.self.invariant t).1 (c.commit.ensures.said t) (c.commit.ensures.pictures t) (c.commit.ensures.touches t) (c.commit.ensures.syncs t)

pub returns-in-Err-clause-commits : goal.returns-in-Err-clause-commits
returns-in-Err-clause-commits g c t =
    commits_of _ _ _ c.self.inside.opened c.self.view_is (c.self.invariant t).1 (c.commit.ensures.said t) (c.commit.ensures.pictures t) (c.commit.ensures.touches t) (c.commit.ensures.syncs t)
