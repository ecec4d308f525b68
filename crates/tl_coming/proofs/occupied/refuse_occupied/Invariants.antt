use Rattle.std.proofs.Common.{◌≡◌, drop, map}
use Rattle.tl_coming.specs.Refused.{first_of, occupied_path}
use Rattle.tl_coming.proofs.occupied.refuse_occupied.Given as goal

abbrev pub invariant-loop-entry : goal.invariant-loop-entry
invariant-loop-entry l = first_of (occupied_path l.names) (map (λ e. e.now) (drop l.entry-index l.coming)) ≡ first_of (occupied_path l.names) (map (λ e. e.now) l.coming)
