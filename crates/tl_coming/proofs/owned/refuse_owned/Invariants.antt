use Rattle.std.proofs.Common.{◌≡◌, drop, map}
use Rattle.tl_coming.specs.Refused.{first_of, owned_path}
use Rattle.tl_coming.proofs.owned.refuse_owned.Given as goal

abbrev pub invariant-loop-entry : goal.invariant-loop-entry
invariant-loop-entry l = first_of (owned_path l.db l.names.keys) (map (λ e. e.now) (drop l.entry-index l.coming)) ≡ first_of (owned_path l.db l.names.keys) (map (λ e. e.now) l.coming)
