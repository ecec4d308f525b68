use Rattle.std.proofs.Common.{◌≡◌, ◌++◌, drop, map}
use Rattle.tl_coming.specs.Planning.{plan_entries}
use Rattle.tl_coming.proofs.planning.entries_of.Given as goal

abbrev pub invariant-loop-part : goal.invariant-loop-part
invariant-loop-part l = map (λ entry. entry.now) l.entries.items ++ plan_entries l.repos (drop l.part-index l.plan) ≡ plan_entries l.repos l.plan
