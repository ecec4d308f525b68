use Rattle.tl_path.specs.Inside.{parts_left}
use Rattle.tl_path.proofs.Listing.{ReadSoFar}
use Rattle.tl_path.proofs.platforms.Platforms.parse.Given as goal

abbrev pub invariant-loop-part : goal.invariant-loop-part
invariant-loop-part l = record {
  can : (goal.iterator-loop-part).can_next l.part-iterator;
  ends : (goal.iterator-loop-part).is_finite l.part-iterator;
  read : ReadSoFar l.fn.text l.names.items l.at (parts_left l.part-iterator);
}
