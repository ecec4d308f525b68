use Rattle.std.proofs.Common.{◌≡◌, drop, map}
use Rattle.tl_coming.specs.Refused.{first_of, reserved_path}
use Rattle.tl_coming.proofs.entries.refuse_reserved.Given as goal

abbrev pub invariant-loop-entry : goal.invariant-loop-entry
invariant-loop-entry l = first_of reserved_path (map (λ e. e.now) (drop l.entry-index l.coming)) ≡ first_of reserved_path (map (λ e. e.now) l.coming)
