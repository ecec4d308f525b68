use Rattle.std.proofs.Common.{drop}
use Rattle.std.specs.List.{slice_split}
use Rattle.tl_model.specs.Words.{is_blank, fields}
use Rattle.tl_text.proofs.Runs.{WordsSoFar}
use Rattle.tl_text.proofs.words.fields.Given as goal

abbrev pub invariant-loop-i : goal.invariant-loop-i
invariant-loop-i l = WordsSoFar l.line l.spans.items l.start l.i (slice_split is_blank (drop l.i l.line)) (fields l.line)
