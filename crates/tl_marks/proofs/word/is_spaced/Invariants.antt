use Rattle.std.proofs.Common.{◌≡◌, true, drop}
use Rattle.tl_marks.specs.Form.{goes_on}
use Rattle.tl_marks.proofs.word.is_spaced.Given as goal

abbrev pub invariant-loop-b : goal.invariant-loop-b
invariant-loop-b l = goes_on l.opens (drop l.b-index l.text) ≡ goes_on true l.text
