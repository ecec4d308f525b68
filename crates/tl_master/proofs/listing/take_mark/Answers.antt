use Rattle.std.proofs.Common.{sym, ◌∙◌}
use Rattle.tl_master.proofs.Listed.{taken, not_taken, none_taken}
use Rattle.tl_master.proofs.listing.take_mark.Goals as goal
use Rattle.tl_master.proofs.listing.take_mark.Goals.{in_default-via-in-Some+else-eq, in_default-via-in_default}

pub returns-in-Some-clause-mark : goal.returns-in-Some-clause-mark
returns-in-Some-clause-mark c = let found = taken c.args.name.now c.args.marks.now c.in-Some.marked.now c.in-Some.others.now c.in-Some.ensures.cases.0 (sym c.eq.ensures ∙ c.if-eq.true) in sym found.0

pub returns-in-Some-clause-others : goal.returns-in-Some-clause-others
returns-in-Some-clause-others c = let found = taken c.args.name.now c.args.marks.now c.in-Some.marked.now c.in-Some.others.now c.in-Some.ensures.cases.0 (sym c.eq.ensures ∙ c.if-eq.true) in sym found.1

pub returns-in_default-clause-mark : goal.returns-in_default-clause-mark
returns-in_default-clause-mark c = elim c.in_default.branch [
  | in_default-via-in-Some+else-eq w ↦ let found = not_taken c.args.name.now c.args.marks.now w.in-Some.marked.now w.in-Some.others.now w.in-Some.ensures.cases.0 (sym w.eq.ensures ∙ w.if-eq.false) in sym found.0
  | in_default-via-in_default w ↦ let found = none_taken c.args.name.now c.args.marks.now w.in_default.ensures.cases in sym found.0
]

pub returns-in_default-clause-others : goal.returns-in_default-clause-others
returns-in_default-clause-others c = elim c.in_default.branch [
  | in_default-via-in-Some+else-eq w ↦ let found = not_taken c.args.name.now c.args.marks.now w.in-Some.marked.now w.in-Some.others.now w.in-Some.ensures.cases.0 (sym w.eq.ensures ∙ w.if-eq.false) in sym found.1
  | in_default-via-in_default w ↦ let found = none_taken c.args.name.now c.args.marks.now w.in_default.ensures.cases in sym found.1
]
