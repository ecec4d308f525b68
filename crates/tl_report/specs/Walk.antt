-- Where a walk over the names of a tree stands.
use Rattle.std.specs.Prelude.{IsSome, Option, Some, None}
use Rattle.tl_model.specs.Volume.{Name, Volume, at}

-- a name that a walk stands at is in the tree; before the first name it stands at none
abbrev pub IsInTree : Volume → Option Name → Type 0
IsInTree tree None = Unit {0}
IsInTree tree (Some name) = IsSome (at tree name)
