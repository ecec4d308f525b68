use Rattle.std.proofs.Common.{◌≡◌, ◌≤◌, ◌-◌, take, drop, Some}
use Rattle.tl_model.specs.Seen.{Seen, Told}
use Rattle.tl_model.specs.Volume.{at, SameBut}
use Rattle.tl_journal_text.specs.Records.{IsAmong}
use Rattle.tl_journal.specs.Reading.{body_at, IsPartOf, SameBody}
use Rattle.tl_journal.specs.States.{Redoes, pending}
use Rattle.tl_journal.proofs.redo.copy.Given as goal

abbrev pub invariant-loop-done : goal.invariant-loop-done
invariant-loop-done g l = let s = g.H.Host.seen in record {
  within : l.done ≤ l.size;
  same : SameBody l.fn.body l.body;
  faults : (s l.fn.host).faults ≤ (s l.host).faults;
  part : Told g.H.Host.tells (IsPartOf l.body (s l.host));
  progress : Told g.H.Host.tells ((base : Seen) → IsAmong l.name (pending base.present.held) → Redoes base (s l.fn.host) → Redoes base (s l.host));
  others : Told g.H.Host.tells (SameBut l.name (s l.fn.host).present.held (s l.host).present.held);
  copied : Told g.H.Host.tells (at (s l.host).present.held l.name ≡ Some (take l.done (drop l.from (body_at l.fn.body.slot (s l.fn.host)))));
}

abbrev pub decreases-loop-done : goal.decreases-loop-done
decreases-loop-done g l = l.size - l.done
