use Rattle.std.proofs.Common.{◌≡◌, length}
use Rattle.tl_glob.specs.Matches.{is_match}
use Rattle.tl_glob.proofs.matching.matches.Given as goal

abbrev pub invariant-loop-part : goal.invariant-loop-part
invariant-loop-part l = is_match l.parts l.left ≡ is_match l.glob l.text

abbrev pub decreases-loop-part : goal.decreases-loop-part
decreases-loop-part l = length l.parts
