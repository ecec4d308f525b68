use Rattle.std.proofs.Common.{◌≡◌, take, map}
use Rattle.tl_text.specs.Spans.{stretches}
use Rattle.tl_plan.proofs.platforms.words_of.Given as goal

abbrev pub invariant-loop-span : goal.invariant-loop-span
invariant-loop-span l = map (λ word. word.items) l.words.items ≡ stretches l.text (take l.span-index l.span-items)
