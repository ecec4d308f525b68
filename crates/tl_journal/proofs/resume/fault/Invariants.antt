use Rattle.std.proofs.Common.{◌≤◌, ◌-◌}
use Rattle.tl_model.specs.Seen.{Told, Quiet}
use Rattle.tl_journal_text.proofs.Turns.{Reaches}
use Rattle.tl_journal.specs.Reading.{body_at, IsPartOf, SameBody}
use Rattle.tl_journal.proofs.resume.fault.Given as goal

abbrev pub invariant-loop-place : goal.invariant-loop-place
invariant-loop-place g l = record {
  within : l.from ≤ l.fn.body.size;
  same : SameBody l.fn.body l.body;
  faults : (g.H.Host.seen l.fn.host).faults ≤ (g.H.Host.seen l.host).faults;
  quiet : Told g.H.Host.tells (Quiet (g.H.Host.seen l.fn.host) (g.H.Host.seen l.host));
  part : Told g.H.Host.tells (IsPartOf l.body (g.H.Host.seen l.host));
  reaches : Told g.H.Host.tells (Reaches (body_at l.fn.body.slot (g.H.Host.seen l.fn.host)) l.from);
}

abbrev pub decreases-loop-place : goal.decreases-loop-place
decreases-loop-place g l = l.fn.body.size - l.from
