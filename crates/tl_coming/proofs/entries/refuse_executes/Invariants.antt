use Rattle.std.proofs.Common.{◌≡◌, drop, map}
use Rattle.tl_coming.specs.Refused.{first_of, bad_execute}
use Rattle.tl_coming.proofs.entries.refuse_executes.Given as goal

abbrev pub invariant-loop-entry : goal.invariant-loop-entry
invariant-loop-entry l = first_of bad_execute (map (λ e. e.now) (drop l.entry-index l.coming)) ≡ first_of bad_execute (map (λ e. e.now) l.coming)
