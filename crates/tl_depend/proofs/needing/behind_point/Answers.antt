use Rattle.tl_depend.proofs.NeedLemmas.{behind_front, no_front}
use Rattle.tl_depend.proofs.needing.behind_point.Goals as goal

pub returns-in-Some : goal.returns-in-Some
returns-in-Some c =
    let cases = c.in-Some.ensures.cases in
    behind_front c.args.name.now c.args.front.now c.in-Some.rest.now c.strip_prefix-in-Some.result cases.0 cases.1 c.strip_prefix-in-Some.ensures.cases

pub returns-in-None : goal.returns-in-None
returns-in-None c = no_front c.args.name.now c.args.front.now c.in-None.ensures.cases
