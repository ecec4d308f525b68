use Rattle.std.proofs.Common.{◌≡◌, length}
use Rattle.tl_words.specs.Inside.{parts_left, plains_left}
use Rattle.tl_words.proofs.plains.PlainsIterIterator.next.Given as goal

abbrev pub invariant-loop-part : goal.invariant-loop-part
invariant-loop-part l = plains_left l.initial.self ≡ plains_left l.self

abbrev pub decreases-loop-part : goal.decreases-loop-part
decreases-loop-part l = length (parts_left l.self.parts)
