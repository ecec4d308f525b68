use Rattle.std.proofs.Common.{◌≡◌, drop}
use Rattle.tl_coming.specs.Refused.{first_of, owned_at, owned_path}
use Rattle.tl_coming.proofs.owned.refuse_owned_of.Given as goal

abbrev pub invariant-loop-path : goal.invariant-loop-path
invariant-loop-path l = first_of (owned_at l.db l.names.keys) (drop l.path-index l.path-items) ≡ owned_path l.db l.names.keys l.entry
