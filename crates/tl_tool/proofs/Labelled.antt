-- The line of each step of a run is one acknowledged line.
use Rattle.std.proofs.Common.{ℕ, nat_lt, Bool, true, false, cond, List, length, Option, Some, None, Result, Ok, Err}
use Rattle.tl_kind.specs.Quantities.{limit_of}
use Rattle.tl_kind.specs.declared.quantity.What.TheVariants.{Database}
use Rattle.tl_model.specs.Volume.{Volume, at}
use Rattle.tl_model.specs.Devices.{Outside}
use Rattle.tl_tree.specs.Planted.{database_text}
use Rattle.tl_action.specs.declared.command.Action.{Action}
use Rattle.tl_action.specs.declared.command.Action.TheVariants as actions
use Rattle.tl_action.specs.declared.command.Command.{Command}
use Rattle.tl_action.specs.declared.command.Repository.{Repository}
use Rattle.tl_words.specs.declared.faults.Fault.{Fault}
use Rattle.tl_lsr.specs.Lists.{list_path}
use Rattle.tl_lsr.specs.Reading.{lsr_read}
use Rattle.tl_refusal.specs.declared.refusal.Refusal.TheVariants.{TooLarge}
use Rattle.tl_command.specs.Runs.{AreLabelled, refused, over_bytes}
use Rattle.tl_command.proofs.Limits.{labelled-over}
use Rattle.tl_backups.proofs.BackupLabels.{labelled-backup}
use Rattle.tl_install.proofs.RunLabels.{labelled-install}
use Rattle.tl_packages.proofs.Labels.{labelled-remove}
use Rattle.tl_restore.proofs.Labels.{labelled-restore}
use Rattle.tl_publish.specs.Lsr.{lsr_run}
use Rattle.tl_publish.proofs.RunLemmas.{labelled-lsr}
use Rattle.tl_update.proofs.UpdateLabels.{labelled-update}
use Rattle.tl_show.proofs.OpenLemmas.{labelled-info, labelled-search, labelled-candidates}
use Rattle.tl_show.specs.Check.{check_run}
use Rattle.tl_show.specs.Dump.{dump_run}
use Rattle.tl_show.specs.Which.{listed_run, list_run, which_run}
use Rattle.tl_settings.specs.Settings.{option_run}
use Rattle.tl_offer.specs.Pinned.{over_pins}
use Rattle.tl_settings.specs.Pinning.{pinning_run}
use Rattle.tl_settings.proofs.Labels.{labelled-option}
use Rattle.tl_settings.proofs.PinLabels.{labelled-pinning}
use Rattle.tl_sources.proofs.Labels.{labelled-expand}
use Rattle.tl_tool.specs.Commands.{install_ask, update_ask, program_fault, command_at, action_run, act_at, by_words, run_of}

-- the run of `which` makes no steps
labelled-listed : (name : List ℕ) (read : Result (List (List ℕ)) ℕ) → AreLabelled (listed_run name read).events
labelled-listed name (Ok paths) = tt
labelled-listed name (Err line) = tt

labelled-which : (name : List ℕ) (found : Option (List ℕ)) → AreLabelled (over_bytes Database (list_run name) found).events
labelled-which name None = tt
labelled-which name (Some text) = by (nat_lt (limit_of Database) (length text))
  where
    by : (past : Bool) → let run = cond past (refused (TooLarge Database (limit_of Database))) (list_run name (Some text)) in AreLabelled run.events
    by true = tt
    by false = labelled-listed name (lsr_read text)

labelled-action : (action : Action) (repositories : List Repository) (formats : Bool) (outside : Outside) (tree : Volume) → AreLabelled (action_run action repositories formats outside tree).events
labelled-action (actions.DumpTlpdb local) repositories formats outside tree = labelled-over dump_run (database_text tree) (λ entries. tt)
labelled-action (actions.Check what) repositories formats outside tree = labelled-over (check_run what tree) (database_text tree) (λ entries. tt)
labelled-action (actions.Setting option values) repositories formats outside tree = labelled-over (option_run option values tree) (database_text tree) (λ entries. labelled-option option values tree entries)
labelled-action (actions.Pinning pins) repositories formats outside tree =
    labelled-over (λ entries. over_pins (pinning_run pins tree entries) tree) (database_text tree) (λ entries. labelled-pinning pins tree entries)
labelled-action (actions.Which word) repositories formats outside tree = labelled-over (λ _. which_run word tree) (database_text tree) (λ entries. labelled-which word (at tree list_path))
labelled-action (actions.Info name) repositories formats outside tree = labelled-info repositories outside.repositories tree name
labelled-action (actions.Search word) repositories formats outside tree = labelled-search repositories outside.repositories tree word
labelled-action (actions.Candidates name) repositories formats outside tree = labelled-candidates repositories outside.repositories tree name
labelled-action (actions.Install names no_depends no_depends_at_all reinstall) repositories formats outside tree =
    labelled-install names (install_ask no_depends no_depends_at_all reinstall) formats repositories outside.repositories tree
labelled-action (actions.Update names every no_auto_install no_auto_remove reinstall_forced) repositories formats outside tree =
    labelled-update names (update_ask every no_auto_install no_auto_remove reinstall_forced) formats repositories outside.repositories tree
labelled-action (actions.Remove names force) repositories formats outside tree = labelled-remove names force formats tree
labelled-action (actions.Backup names every) repositories formats outside tree = labelled-backup names every tree
labelled-action (actions.Restore name revision) repositories formats outside tree = labelled-restore name revision tree
labelled-action (actions.Expand name) repositories formats outside tree = labelled-expand name outside.verdicts tree
labelled-action actions.Lsr repositories formats outside tree = labelled-over (lsr_run tree) (database_text tree) (labelled-lsr tree)
labelled-action _ repositories formats outside tree = tt

labelled-act : (command : Option Command) (outside : Outside) (tree : Volume) → AreLabelled (act_at command outside tree).events
labelled-act None outside tree = tt
labelled-act (Some command) outside tree = labelled-action command.action command.repositories command.formats outside tree

-- the steps of the run of words are labelled
pub labelled-run : (words : List (List ℕ)) (outside : Outside) (tree : Volume) → AreLabelled (run_of words outside tree).events
unfolding run_of
labelled-run words outside tree = by (program_fault words)
  where
    by : (fault : Option Fault) → AreLabelled (by_words fault (act_at (command_at words) outside tree)).events
    by (Some fault) = tt
    by None = labelled-act (command_at words) outside tree
