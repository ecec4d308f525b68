use Rattle.std.proofs.Common.{◌≡◌, ◌++◌, List}
use Rattle.tl_model.specs.Volume.{Name}
use Rattle.tl_master.specs.Listing.{merged}
use Rattle.tl_master.proofs.listing.merged.Given as goal

abbrev pub invariant-loop-path : goal.invariant-loop-path
invariant-loop-path l = (more : List Name) → merged (l.yielded ++ more) l.fn.marks ≡ l.all.items ++ merged more l.rest
