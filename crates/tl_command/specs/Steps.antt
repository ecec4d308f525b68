-- The run of a command of many steps.
use Rattle.std.specs.Prelude.{List, [], ◌∷◌}
use Rattle.tl_model.specs.Volume.{Volume}
use Rattle.tl_entry.specs.declared.object.Object.{Object}
use Rattle.tl_command.specs.Runs.{Run}

-- the run that makes planned steps one after another, each over what the one before left, and then goes on
abbrev pub running : {P : Type 0} → (P → (List Object → Volume → Run) → List Object → Volume → Run) → List P → (List Object → Volume → Run) → List Object → Volume → Run
running go [] rest db tree = rest db tree
running go (plan ∷ plans) rest db tree = go plan (running go plans rest) db tree
