use Rattle.std.proofs.Common.{map, take}
use Rattle.tl_auto.specs.Wanted.{automatic}
use Rattle.tl_auto.proofs.LoopLemmas.{Pushed}
use Rattle.tl_auto.proofs.patterns.push_texts.Given as goal

abbrev pub invariant-loop-text : goal.invariant-loop-text
invariant-loop-text l = Pushed l.setting (map (λ text. automatic l.kind text.now) (take l.text-index l.texts))
    l.initial.patterns.items l.patterns.items l.initial.regexps l.regexps
