use Rattle.std.proofs.Common.{◌∙◌}
use Rattle.tl_journal.proofs.Called.{rests_start, rests_of}
use Rattle.tl_journal.proofs.states.Clean.rest.Goals as goal

pub returns-in-None-clause-rests : goal.returns-in-None-clause-rests
returns-in-None-clause-rests g c t = rests_start _ _ c.self.view_is (c.self.invariant t).0.live

pub returns-in-Ok-clause-rests : goal.returns-in-Ok-clause-rests
returns-in-Ok-clause-rests g c t =
    rests_of _ _ _ _ c.self.view_is ((c.self.invariant t).1 ∙ c.in-Some.is) (c.close.ensures.tree t) (c.close.ensures.stays t) (c.close.ensures.touches t) (c.close.ensures.syncs t)

pub returns-in-Err-clause-rests : goal.returns-in-Err-clause-rests
returns-in-Err-clause-rests g c t =
    rests_of _ _ _ _ c.self.view_is ((c.self.invariant t).1 ∙ c.in-Some.is) (c.close.ensures.tree t) (c.close.ensures.stays t) (c.close.ensures.touches t) (c.close.ensures.syncs t)
