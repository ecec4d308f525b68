use Rattle.std.proofs.Common.{◌∙◌, sym}
use Rattle.tl_marks.proofs.FollowLemmas.{last_follows}
use Rattle.tl_marks.proofs.reading.may_follow.Goals as goal

pub returns-in-Some : goal.returns-in-Some
returns-in-Some c = c.lt.ensures ∙ sym (last_follows c.args.path.now c.args.paths.now c.in-Some.last.now (sym c.in-Some.ensures.value))
