use Rattle.tl_tool.proofs.Acts.{matches_as}
use Rattle.tl_tool.proofs.acting.act_matching.Goals as goal

pub returns : goal.returns
returns g c = matches_as g.H.Host.tells g.H.Host.seen c.args.action _ c.args.session c.expand.new.regexps c.expand.result.ending c.expand.result.state c.in-Expand.is
    (λ repositories formats outside later. c.expand.ensures.performs outside.verdicts later)
