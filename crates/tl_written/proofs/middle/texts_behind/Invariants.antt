use Rattle.std.proofs.Common.{[], ◌∷◌, ◌++◌, length}
use Rattle.tl_text.specs.Texts.{IsText}
use Rattle.tl_object.specs.Writing.{key_line}
use Rattle.tl_written.specs.Stands.{AllStand}
use Rattle.tl_written.proofs.LeftLemmas.{KeepsAll}
use Rattle.tl_written.proofs.middle.texts_behind.Given as goal

abbrev pub invariant-loop-value : goal.invariant-loop-value
invariant-loop-value l = record { found : AllStand (key_line l.key) IsText l.text l.rest; kept : KeepsAll (key_line l.key) IsText ((l.key ++ 32 ∷ []) ∷ []) l.text l.rest }

abbrev pub decreases-loop-value : goal.decreases-loop-value
decreases-loop-value l = length l.rest
