use Rattle.std.proofs.Common.{◌≡◌, ◌++◌, take}
use Rattle.tl_srctext.specs.Writing.{pattern_lines}
use Rattle.tl_srctext.proofs.writing.put_patterns.Given as goal

abbrev pub invariant-loop-pattern : goal.invariant-loop-pattern
invariant-loop-pattern l = l.out.items ≡ l.fn.out.items ++ pattern_lines l.key (take l.pattern-index l.patterns)
