use Rattle.std.proofs.Common.{◌∙◌, ap, sym}
use Rattle.tl_model.specs.Seen.{Seen}
use Rattle.tl_journal_text.specs.Stand.{stand}
use Rattle.tl_journal.proofs.Live.{keeps_stand, same_open}
use Rattle.tl_journal.proofs.Called.{carries_out_of}
use Rattle.tl_journal.proofs.states.Committed.apply.Goals as goal

pub invariant_of-result : goal.invariant_of-result
invariant_of-result g c t = (c.in-Ok.ensures.clean t, same_open _ _ (c.apply.ensures.redoes t).keeps.apart ∙ (c.self.invariant t).1)

pub returns-in-Ok-clause-tree : goal.returns-in-Ok-clause-tree
returns-in-Ok-clause-tree g c t = ap (λ (s : Seen). stand s.present.held) (sym c.self.view_is) ∙ sym (keeps_stand _ _ (c.apply.ensures.redoes t).keeps) ∙ (c.in-Ok.ensures.clean t).tree

pub returns-in-Ok-clause-carries_out : goal.returns-in-Ok-clause-carries_out
returns-in-Ok-clause-carries_out g c t = carries_out_of _ _ _ c.self.view_is (c.apply.ensures.redoes t)

pub returns-in-Err-clause-carries_out : goal.returns-in-Err-clause-carries_out
returns-in-Err-clause-carries_out g c t = carries_out_of _ _ _ c.self.view_is (c.apply.ensures.redoes t)
