use Rattle.std.proofs.Common.{◌≤◌, ◌-◌, vec_len}
use Rattle.tl_model.specs.Seen.{Told}
use Rattle.tl_host.specs.Reading.{HasRead}
use Rattle.tl_host.proofs.file.read_bytes.Given as goal

abbrev pub invariant-loop-name : goal.invariant-loop-name
invariant-loop-name g l = record {
  read : Told g.H.Host.tells (HasRead (g.H.Host.seen l.fn.host) (g.H.Host.seen l.host) l.fn.name l.bytes.items);
  later : (g.H.Host.seen l.fn.host).faults ≤ (g.H.Host.seen l.host).faults;
}

abbrev pub decreases-loop-name : goal.decreases-loop-name
decreases-loop-name g l = l.size - vec_len l.bytes
