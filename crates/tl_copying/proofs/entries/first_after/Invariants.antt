use Rattle.std.proofs.Common.{◌≡◌, drop}
use Rattle.tl_db.specs.Options.{first_after}
use Rattle.tl_copying.proofs.entries.first_after.Given as goal

abbrev pub invariant-loop-line : goal.invariant-loop-line
invariant-loop-line l = first_after l.front l.lines ≡ first_after l.front (drop l.line-index l.lines)
