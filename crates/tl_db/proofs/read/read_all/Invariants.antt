use Rattle.std.proofs.Common.{◌≡◌, ◌+◌, ◌<◌, ◌^◌, length}
use Rattle.tl_object.specs.Content.{content, stretches}
use Rattle.tl_db.specs.Reading.{with_stretches, db_of}
use Rattle.tl_db.proofs.read.read_all.Given as goal

abbrev pub invariant-loop-before : goal.invariant-loop-before
invariant-loop-before l = record {
  same : with_stretches l.objects (stretches (content l.number l.rest)) ≡ db_of l.fn.text;
  fits : l.number + length l.rest < 2 ^ 32;
}

abbrev pub decreases-loop-before : goal.decreases-loop-before
decreases-loop-before l = length l.rest
