use Rattle.tl_journal.proofs.Called.{says_of}
use Rattle.tl_journal.proofs.states.Clean.say.Goals as goal

pub returns-clause-says : goal.returns-clause-says
returns-clause-says g c t = says_of (g.H.Host.seen c.self.inside.host) _ _ _ c.say.result c.self.view_is (c.self.invariant t).0.live (c.say.ensures.says t)
