use Rattle.std.proofs.Common.{◌≤◌, ◌-◌}
use Rattle.tl_model.specs.Seen.{Told}
use Rattle.tl_journal.specs.Reading.{IsPartOf, SameBody}
use Rattle.tl_journal.proofs.Doing.{Doing}
use Rattle.tl_journal.proofs.redo.steps.Given as goal

abbrev pub invariant-loop-rest : goal.invariant-loop-rest
invariant-loop-rest g l = record {
  within : l.from ≤ l.fn.body.size;
  same : SameBody l.fn.body l.body;
  faults : (g.H.Host.seen l.fn.host).faults ≤ (g.H.Host.seen l.host).faults;
  part : Told g.H.Host.tells (IsPartOf l.body (g.H.Host.seen l.host));
  doing : Told g.H.Host.tells (Doing (g.H.Host.seen l.fn.host) (g.H.Host.seen l.host) l.fn.body.slot l.from);
}

abbrev pub decreases-loop-rest : goal.decreases-loop-rest
decreases-loop-rest g l = l.fn.body.size - l.from
