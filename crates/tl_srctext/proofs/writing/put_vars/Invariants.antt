use Rattle.std.proofs.Common.{◌≡◌, ◌++◌}
use Rattle.tl_srctext.specs.Writing.{var_lines}
use Rattle.tl_srctext.proofs.writing.put_vars.Given as goal

abbrev pub invariant-loop-name : goal.invariant-loop-name
invariant-loop-name l = l.out.items ++ var_lines l.name-iterator ≡ l.fn.out.items ++ var_lines l.vars
