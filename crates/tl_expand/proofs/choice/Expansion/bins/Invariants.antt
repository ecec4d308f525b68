use Rattle.tl_auto.specs.declared.section.Section.TheVariants.{Bin}
use Rattle.tl_expand.specs.Choices.{chosen_in}
use Rattle.tl_expand.proofs.ThenLemmas.{BinsSoFar}
use Rattle.tl_expand.proofs.choice.Expansion.bins.Given as goal

abbrev pub invariant-loop-number : goal.invariant-loop-number
invariant-loop-number l = BinsSoFar (λ v i. chosen_in v l.self.source.now l.self.platforms.now l.self.index.now (Bin i)) l.number l.bins.items l.initial.regexps l.regexps
