use Rattle.std.proofs.Common.{map, take}
use Rattle.tl_auto.specs.Wanted.{with_suffix}
use Rattle.tl_auto.proofs.LoopLemmas.{Pushed}
use Rattle.tl_auto.proofs.patterns.push_each.Given as goal

abbrev pub invariant-loop-suffix : goal.invariant-loop-suffix
invariant-loop-suffix l = Pushed l.setting (map (λ suffix. with_suffix l.pattern suffix.now) (take l.suffix-index l.suffixes))
    l.initial.patterns.items l.patterns.items l.initial.regexps l.regexps
