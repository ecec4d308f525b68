-- The run of `expand` makes no step.
use Rattle.std.proofs.Common.{ℕ, List, Result, Ok, Err}
use Rattle.tl_model.specs.Devices.{Verdicts}
use Rattle.tl_model.specs.Volume.{Volume}
use Rattle.tl_tree.specs.Planted.{database_text}
use Rattle.tl_command.specs.Runs.{AreLabelled, over_database}
use Rattle.tl_command.proofs.Limits.{labelled-over}
use Rattle.tl_master.specs.declared.error.MasterError.{MasterError}
use Rattle.tl_master.specs.declared.error.MasterError.TheVariants.{BadMarks, BadSource, UnsetVariable, BadPath, Regexp, NoSource, TooLarge, HostFault, NoMemory}
use Rattle.tl_sources.specs.Expand.{said_of, expanded_in, expand_run}

labelled-said : (name : List ℕ) (found : Result (List ℕ) MasterError) → AreLabelled (said_of name found).events
labelled-said name (Ok text) = tt
labelled-said name (Err (BadMarks line)) = tt
labelled-said name (Err (BadSource source line kind)) = tt
labelled-said name (Err (UnsetVariable source line)) = tt
labelled-said name (Err (BadPath source line)) = tt
labelled-said name (Err (Regexp source line kind)) = tt
labelled-said name (Err NoSource) = tt
labelled-said name (Err (TooLarge what limit)) = tt
labelled-said name (Err HostFault) = tt
labelled-said name (Err NoMemory) = tt

-- the steps of `expand` are labelled: there are none
pub labelled-expand : (name : List ℕ) (verdicts : Verdicts) (tree : Volume) → AreLabelled (over_database (expand_run name verdicts tree) (database_text tree)).events
labelled-expand name verdicts tree = labelled-over (expand_run name verdicts tree) (database_text tree) (λ entries. labelled-said name (expanded_in name verdicts tree))
