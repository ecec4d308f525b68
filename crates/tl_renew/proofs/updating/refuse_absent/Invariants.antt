use Rattle.std.proofs.Common.{◌≡◌, drop}
use Rattle.tl_renew.specs.Updating.{asked_absent}
use Rattle.tl_renew.proofs.updating.refuse_absent.Given as goal

abbrev pub invariant-loop-name : goal.invariant-loop-name
invariant-loop-name l = asked_absent l.db (drop l.name-index l.names) ≡ asked_absent l.db l.names
