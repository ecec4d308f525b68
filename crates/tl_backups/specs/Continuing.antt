-- A part of a command that goes on behind it.
use Rattle.std.specs.Prelude.{Bool, List, Result}
use Rattle.tl_model.specs.Volume.{Volume}
use Rattle.tl_model.specs.Seen.{Seen}
use Rattle.tl_entry.specs.declared.object.Object.{Object}
use Rattle.tl_tree.specs.Planted.{Planted}
use Rattle.tl_command.specs.declared.ending.Ending.{Ending}
use Rattle.tl_command.specs.Endings.{no_devices}
use Rattle.tl_command.specs.Performs.{Performs}
use Rattle.tl_command.specs.Runs.{Run}

-- from the tree old to the tree new a part of a command was carried out: whatever is performed behind it is performed with it, from old on
pub record Continues {T : Type 0} (tells : Bool) (seen : T → Seen) (part : (List Object → Volume → Run) → List Object → Volume → Run) (old new : Planted) : Type 0 where
  pub on : (rest : List Object → Volume → Run) (ending : Ending) (state : Result Seen T) → Performs tells seen (λ t. rest new.db t) 0 new.seen no_devices no_devices ending state
      → Performs tells seen (λ t. part rest old.db t) 0 old.seen no_devices no_devices ending state
