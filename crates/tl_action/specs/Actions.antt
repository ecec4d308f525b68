-- Which action a value is one of.
use Rattle.std.specs.Prelude.{IsTrue, List}
use Rattle.tl_action.specs.declared.action_name.ActionName.{ActionName}
use Rattle.tl_action.specs.declared.action_name.ActionName.TheVariants as names
use Rattle.tl_action.specs.declared.command.Action.{Action}
use Rattle.tl_action.specs.declared.command.Action.TheVariants as actions
use Rattle.tl_action.specs.Table.{is_on}

-- the name of an action
abbrev pub action_name : Action → ActionName
action_name (actions.DumpTlpdb local) = names.DumpTlpdb
action_name (actions.Info name) = names.Info
action_name (actions.Search word) = names.Search
action_name (actions.Candidates name) = names.Candidates
action_name (actions.Check what) = names.Check
action_name (actions.Install list no_depends no_depends_at_all reinstall) = names.Install
action_name (actions.Update list every no_auto_install no_auto_remove reinstall_forcibly_removed) = names.Update
action_name (actions.Remove list force) = names.Remove
action_name (actions.Backup list every) = names.Backup
action_name (actions.Restore name revision) = names.Restore
action_name (actions.Setting option values) = names.Setting
action_name (actions.Pinning asked) = names.Pinning
action_name (actions.Expand name) = names.Expand
action_name actions.Edit = names.Edit
action_name actions.Build = names.Build
action_name actions.Mirror = names.Mirror
action_name actions.Lsr = names.Lsr
action_name (actions.Which word) = names.Which
action_name actions.Shell = names.Shell
action_name (actions.GenerateMaster count) = names.GenerateMaster

-- the action is on, where some are
abbrev pub IsOn : List ActionName → Action → Type 0
IsOn on action = IsTrue (is_on on (action_name action))
