use Rattle.std.proofs.Common.{◌≡◌, take}
use Rattle.tl_expand.specs.Choices.{greatest_of_all}
use Rattle.tl_expand.proofs.choice.greatest_of_all.Given as goal

abbrev pub invariant-loop-chosen : goal.invariant-loop-chosen
invariant-loop-chosen l = l.greatest ≡ greatest_of_all l.mark (take l.chosen-index l.lists)
