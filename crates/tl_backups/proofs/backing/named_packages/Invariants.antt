use Rattle.std.proofs.Common.{◌≡◌, take}
use Rattle.tl_backups.proofs.backing.named_packages.Given as goal

abbrev pub invariant-loop-name : goal.invariant-loop-name
invariant-loop-name l = l.packages.items ≡ take l.name-index l.names
