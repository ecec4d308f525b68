use Rattle.std.proofs.Common.{◌≡◌, ◌++◌, true, take, drop}
use Rattle.tl_srctext.specs.Content.{less_comment}
use Rattle.tl_srctext.proofs.content.less_comment.Given as goal

-- up to here there was no comment
abbrev pub invariant-loop-i : goal.invariant-loop-i
invariant-loop-i l = less_comment true l.line ≡ take l.i l.line ++ less_comment l.opens (drop l.i l.line)
