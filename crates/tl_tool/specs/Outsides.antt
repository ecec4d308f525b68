-- What a run is given of the outside, and the counts of its faults.
use Rattle.std.specs.Prelude.{[]}
use Rattle.std.specs.FinMap as map
use Rattle.tl_model.specs.Devices.{ShelfSeen, SourceSeen, RegexpsSeen, Outside}
use Rattle.tl_command.specs.Endings.{Faults}

-- what a run is given of its devices: what each repository holds, the input, and the verdicts on patterns at the end
abbrev pub outside_of : ShelfSeen → SourceSeen → RegexpsSeen → Outside
outside_of shelf input regexps = record { repositories = shelf.repositories; input = input.left; verdicts = regexps.verdicts }

-- what a run is given of a shelf alone
abbrev pub over_shelf : ShelfSeen → Outside
over_shelf shelf = record { repositories = shelf.repositories; input = []; verdicts = map.empty }

-- the counts of faults of a shelf and a source
abbrev pub faults_of : ShelfSeen → SourceSeen → Faults
faults_of shelf input = record { shelf = shelf.faults; input = input.faults }

-- the counts of faults of a shelf, for a command that is given no input
abbrev pub shelf_faults : ShelfSeen → Faults
shelf_faults shelf = record { shelf = shelf.faults; input = 0 }
