use Rattle.std.proofs.Common.{◌≡◌, drop}
use Rattle.tl_db.specs.Options.{first_after}
use Rattle.tl_db.proofs.installation.first_after.Given as goal

abbrev pub invariant-loop-line : goal.invariant-loop-line
invariant-loop-line l = first_after l.prefix l.lines ≡ first_after l.prefix (drop l.line-index l.lines)
