use Rattle.std.proofs.Common.{◌≡◌, ◌++◌, take}
use Rattle.tl_srctext.specs.Writing.{value_lines}
use Rattle.tl_srctext.proofs.writing.put_texts.Given as goal

abbrev pub invariant-loop-text : goal.invariant-loop-text
invariant-loop-text l = l.out.items ≡ l.fn.out.items ++ value_lines l.key (take l.text-index l.texts)
