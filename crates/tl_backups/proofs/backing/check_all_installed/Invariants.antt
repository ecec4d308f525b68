use Rattle.std.proofs.Common.{◌≡◌, drop}
use Rattle.tl_backups.specs.Backing.{installed_fault, fault_among}
use Rattle.tl_backups.proofs.backing.check_all_installed.Given as goal

abbrev pub invariant-loop-name : goal.invariant-loop-name
invariant-loop-name l = fault_among (installed_fault l.db) l.packages ≡ fault_among (installed_fault l.db) (drop l.name-index l.packages)
