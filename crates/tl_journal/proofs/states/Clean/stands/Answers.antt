use Rattle.std.proofs.Common.{◌≡◌, subst, Some}
use Rattle.tl_model.specs.Seen.{Seen}
use Rattle.tl_journal_text.specs.Stand.{tree_of, stand, Stays}
use Rattle.tl_journal.specs.States.{IsClean}
use Rattle.tl_journal.proofs.Live.{keeps_start}
use Rattle.tl_journal.proofs.states.Clean.stands.Goals as goal

pub returns-clause-tree : goal.returns-clause-tree
returns-clause-tree g c t = subst (λ (s : Seen). stand s.present.held ≡ Some (tree_of s.present.held)) c.self.view_is (c.self.invariant t).0.tree

pub returns-clause-stays : goal.returns-clause-stays
returns-clause-stays g c t = subst (λ (s : Seen). Stays s s) c.self.view_is (keeps_start (g.H.Host.seen c.self.inside.host) (c.self.invariant t).0.live).pictures

pub returns-clause-rests : goal.returns-clause-rests
returns-clause-rests g c t = subst (λ (s : Seen). IsClean s.present) c.self.view_is (c.self.invariant t).0
