use Rattle.std.proofs.Common.{◌≡◌, ◌++◌, drop}
use Rattle.std.specs.List.{flat_map}
use Rattle.tl_config.specs.Files.{quoted_byte}
use Rattle.tl_config.proofs.lua.push_bytes.Given as goal

abbrev pub invariant-loop-b : goal.invariant-loop-b
invariant-loop-b l = l.out.items ++ flat_map quoted_byte (drop l.b-index l.value) ≡ l.initial.out.items ++ flat_map quoted_byte l.value
