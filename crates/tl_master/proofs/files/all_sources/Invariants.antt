use Rattle.std.proofs.Common.{◌≡◌, take}
use Rattle.std.specs.List.{filter_map}
use Rattle.tl_master.specs.Sources.{source_at}
use Rattle.tl_master.proofs.files.all_sources.Given as goal

abbrev pub invariant-loop-marked : goal.invariant-loop-marked
invariant-loop-marked l = l.files.items ≡ filter_map source_at (take l.marked-index l.listing)
