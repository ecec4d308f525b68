use Rattle.std.proofs.Common.{◌≡◌, ℕ, List, ◌++◌, take, drop}
use Rattle.tl_db.specs.Options.{with_line}
use Rattle.tl_db.proofs.installation.place_of_line.Given as goal

abbrev pub invariant-loop-at : goal.invariant-loop-at
invariant-loop-at l = (line : List ℕ) → with_line l.prefix line l.lines ≡ take l.at l.lines ++ with_line l.prefix line (drop l.at l.lines)
