-- The command that words ask for, and its run.
use Rattle.std.specs.Prelude.{ℕ, Bool, true, false, not, ◌&&◌, ◌||◌, List, [], ◌∷◌, Option, Some, None, option_map}
use Rattle.tl_model.specs.Volume.{Volume}
use Rattle.tl_model.specs.Devices.{Outside}
use Rattle.tl_tree.specs.Planted.{database_text}
use Rattle.tl_action.specs.declared.action_name.ActionName.{ActionName}
use Rattle.tl_action.specs.declared.action_name.ActionName.TheVariants.{DumpTlpdb, Info, Search, Candidates, Check, Install, Update, Remove, Backup, Restore, Setting, Pinning, Expand, Lsr, Which}
use Rattle.tl_action.specs.declared.command.Action.{Action}
use Rattle.tl_action.specs.declared.command.Action.TheVariants as actions
use Rattle.tl_action.specs.declared.command.Command.{Command}
use Rattle.tl_action.specs.declared.command.Repository.{Repository}
use Rattle.tl_action.specs.declared.table.OptionName.TheVariants.{Formats, Usermode}
use Rattle.tl_bring.specs.declared.coming.InstallAsk.{InstallAsk}
use Rattle.tl_renew.specs.declared.ask.UpdateAsk.{UpdateAsk}
use Rattle.tl_words.specs.declared.faults.Fault.{Fault}
use Rattle.tl_words.specs.Parts.{Part}
use Rattle.tl_words.specs.Faults.{words_fault, forbidden_fault, program_parts, plains}
use Rattle.tl_words.specs.Order.{or_else}
use Rattle.tl_words.specs.Settings.{repositories_of, workers_of, user_of, has_option}
use Rattle.tl_words.specs.Commands.{first_action, first_word, action_of}
use Rattle.tl_refusal.specs.declared.refusal.Refusal.TheVariants.{BadWords, BadJournal}
use Rattle.tl_command.specs.Runs.{Run, finished, refused, over_database}
use Rattle.tl_command.specs.Whole.{journal_place}
use Rattle.tl_backups.specs.Backing.{backup_run}
use Rattle.tl_install.specs.Install.{install_run}
use Rattle.tl_packages.specs.Remove.{remove_run}
use Rattle.tl_publish.specs.Lsr.{lsr_run}
use Rattle.tl_restore.specs.Restoring.{restore_run}
use Rattle.tl_show.specs.Candidates.{candidates_run}
use Rattle.tl_show.specs.Check.{check_run}
use Rattle.tl_show.specs.Dump.{dump_run}
use Rattle.tl_show.specs.Info.{info_run}
use Rattle.tl_show.specs.Opening.{over_offer}
use Rattle.tl_show.specs.Search.{search_run}
use Rattle.tl_show.specs.Which.{which_run}
use Rattle.tl_offer.specs.Pinned.{over_pins}
use Rattle.tl_update.specs.Update.{update_run}
use Rattle.tl_settings.specs.Pinning.{pinning_run}
use Rattle.tl_settings.specs.Settings.{option_run}
use Rattle.tl_sources.specs.Expand.{expand_run}

-- what a command says of the program's words: the root, and of their parts the repositories in order, the workers, 4 where none are
-- given, the action with its options and operands, the folder of the user's tree, and whether formats are made
abbrev pub command_with : List ℕ → List Part → ActionName → Command
command_with root all name = record {
  root = root;
  repositories = repositories_of all;
  workers = workers_of 4 all;
  action = action_of all name;
  user = user_of None all;
  formats = has_option Formats all;
}

-- the actions that the program carries out, and so are on
abbrev pub built_actions : List ActionName
built_actions = DumpTlpdb ∷ Info ∷ Search ∷ Candidates ∷ Check ∷ Install ∷ Update ∷ Remove ∷ Backup ∷ Restore ∷ Setting ∷ Pinning ∷ Expand ∷ Lsr ∷ Which ∷ []

-- the fault of words that ask for what no action of the program does: to change a user's tree
abbrev pub user_tree_fault : List Part → Option Fault
user_tree_fault all = forbidden_fault Usermode all

-- the first fault of the program's words
abbrev pub program_fault : List (List ℕ) → Option Fault
program_fault words = or_else (words_fault built_actions words) (user_tree_fault (program_parts words))

-- the command that words without a fault ask for
abbrev pub command_at : List (List ℕ) → Option Command
command_at words = option_map (command_with (first_word words) (program_parts words)) (first_action built_actions (plains (program_parts words)))

-- how packages are asked to come by the words' options: what they depend on comes too, and so do their binary parts, unless they are left
-- out; what is installed comes again where the words say so
abbrev pub install_ask : Bool → Bool → Bool → InstallAsk
install_ask no_depends no_depends_at_all reinstall = record {
  depends = not no_depends;
  parts = not no_depends_at_all;
  reinstall = reinstall;
}

-- how packages are asked to be updated by the words' options
abbrev pub update_ask : Bool → Bool → Bool → Bool → UpdateAsk
update_ask every no_auto_install no_auto_remove reinstall_forced = record {
  all = every;
  auto_install = not no_auto_install;
  auto_remove = not no_auto_remove;
  reinstall_forced = reinstall_forced;
}

-- the run of an action with these repositories, and with formats or without; words never ask for one that isn't built
abbrev pub action_run : Action → List Repository → Bool → Outside → Volume → Run
action_run (actions.DumpTlpdb local) repositories formats outside tree = over_database dump_run (database_text tree)
action_run (actions.Info name) repositories formats outside tree = over_offer repositories outside.repositories (info_run name) tree
action_run (actions.Search word) repositories formats outside tree = over_offer repositories outside.repositories (search_run word) tree
action_run (actions.Candidates name) repositories formats outside tree = over_offer repositories outside.repositories (candidates_run name) tree
action_run (actions.Check what) repositories formats outside tree = over_database (check_run what tree) (database_text tree)
action_run (actions.Install names no_depends no_depends_at_all reinstall) repositories formats outside tree =
    over_database (install_run names (install_ask no_depends no_depends_at_all reinstall) formats repositories outside.repositories tree) (database_text tree)
action_run (actions.Update names every no_auto_install no_auto_remove reinstall_forced) repositories formats outside tree =
    over_database (update_run names (update_ask every no_auto_install no_auto_remove reinstall_forced) formats repositories outside.repositories tree) (database_text tree)
action_run (actions.Remove names force) repositories formats outside tree = over_database (remove_run names force formats tree) (database_text tree)
action_run (actions.Backup names every) repositories formats outside tree = over_database (backup_run names every tree) (database_text tree)
action_run (actions.Restore name revision) repositories formats outside tree = over_database (restore_run name revision tree) (database_text tree)
action_run (actions.Setting option values) repositories formats outside tree = over_database (option_run option values tree) (database_text tree)
action_run (actions.Pinning pins) repositories formats outside tree = over_database (λ entries. over_pins (pinning_run pins tree entries) tree) (database_text tree)
action_run (actions.Expand name) repositories formats outside tree = over_database (expand_run name outside.verdicts tree) (database_text tree)
action_run actions.Lsr repositories formats outside tree = over_database (lsr_run tree) (database_text tree)
action_run (actions.Which word) repositories formats outside tree = over_database (λ _. which_run word tree) (database_text tree)
action_run _ repositories formats outside tree = finished

-- the run of a command over a tree and the outside
abbrev pub act_of : Command → Outside → Volume → Run
act_of command outside tree = action_run command.action command.repositories command.formats outside tree

-- the run of a command; words without a fault have one
abbrev pub act_at : Option Command → Outside → Volume → Run
act_at None outside tree = finished
act_at (Some command) outside tree = act_of command outside tree

-- words are refused at their first fault; without one the command's run is made
abbrev pub by_words : Option Fault → Run → Run
by_words (Some fault) run = refused (BadWords fault.at fault.kind)
by_words None run = run

-- the run of words over a tree and the outside
unfoldable pub run_of : List (List ℕ) → Outside → Volume → Run
run_of words outside tree = by_words (program_fault words) (act_at (command_at words) outside tree)

-- the run of words over a volume that stands for no tree
unfoldable pub run_without : List (List ℕ) → Volume → Run
run_without words volume = by_words (program_fault words) (refused (BadJournal (journal_place volume)))

-- whether an action reads repositories
abbrev pub reads_repositories : Action → Bool
reads_repositories (actions.Info name) = true
reads_repositories (actions.Search word) = true
reads_repositories (actions.Candidates name) = true
reads_repositories (actions.Install names no_depends no_depends_at_all reinstall) = true
reads_repositories (actions.Update names every no_auto_install no_auto_remove reinstall_forcibly_removed) = true
reads_repositories actions.Mirror = true
reads_repositories actions.Shell = true
reads_repositories _ = false

-- whether an action compiles patterns
abbrev pub reads_patterns : Action → Bool
reads_patterns (actions.Expand name) = true
reads_patterns actions.Edit = true
reads_patterns actions.Build = true
reads_patterns actions.Shell = true
reads_patterns _ = false

-- whether an action reads the input
abbrev pub reads_input : Action → Bool
reads_input actions.Edit = true
reads_input actions.Shell = true
reads_input _ = false

-- whether all that an action reads tells what it holds: the repositories and the input, where it reads them, and the host
abbrev pub tells_all : Action → Bool → Bool → Bool → Bool
tells_all action shelf input host = (not (reads_repositories action) || shelf) && ((not (reads_input action) || input) && host)

-- the same for the command of words without a fault; words with a fault are answered by the host alone
abbrev pub tells_at : Option Command → Bool → Bool → Bool → Bool
tells_at None shelf input host = host
tells_at (Some command) shelf input host = tells_all command.action shelf input host

-- the command of words that have no fault
abbrev pub command_by : Option Fault → Option Command → Option Command
command_by (Some fault) command = None
command_by None command = command

-- whether all that the command of some words reads tells what it holds
unfoldable pub tells_for : List (List ℕ) → Bool → Bool → Bool → Bool
tells_for words shelf input host = tells_at (command_by (program_fault words) (command_at words)) shelf input host
