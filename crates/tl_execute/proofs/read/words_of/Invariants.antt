use Rattle.std.proofs.Common.{◌≡◌, take}
use Rattle.tl_text.specs.Spans.{stretches}
use Rattle.tl_execute.proofs.Finds.{texts}
use Rattle.tl_execute.proofs.read.words_of.Given as goal

abbrev pub invariant-loop-span : goal.invariant-loop-span
invariant-loop-span l = texts l.words.items ≡ stretches l.text (take l.span-index l.span-items)
