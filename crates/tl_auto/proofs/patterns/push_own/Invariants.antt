use Rattle.std.proofs.Common.{take}
use Rattle.std.specs.List.{flat_map}
use Rattle.tl_auto.specs.Wanted.{wanted_of}
use Rattle.tl_auto.proofs.LoopLemmas.{Pushed}
use Rattle.tl_auto.proofs.patterns.push_own.Given as goal

abbrev pub invariant-loop-pattern : goal.invariant-loop-pattern
invariant-loop-pattern l = Pushed l.setting (flat_map (wanted_of l.setting.platform) (take l.pattern-index l.own))
    l.initial.patterns.items l.patterns.items l.initial.regexps l.regexps
