use Rattle.std.proofs.Common.{◌≡◌, take, map}
use Rattle.tl_text.specs.Spans.{stretch}
use Rattle.tl_action.specs.Texts.{texts}
use Rattle.tl_words.specs.Lines.{unquoted}
use Rattle.tl_words.proofs.line.split_line.Given as goal

abbrev pub invariant-loop-span : goal.invariant-loop-span
invariant-loop-span l = texts l.words.items ≡ map unquoted (map (stretch l.line) (take l.span-index l.span-items))
