use Rattle.std.proofs.Common.{◌≡◌, ◌++◌, drop, string_bytes}
use Rattle.std.specs.List.{flat_map}
use Rattle.tl_action.specs.Usage.{action_usage}
use Rattle.tl_action.proofs.help.push_actions.Given as goal

abbrev pub invariant-loop-action : goal.invariant-loop-action
invariant-loop-action l =
    string_bytes l.text ++ flat_map action_usage (drop l.action-index l.actions)
    ≡ string_bytes l.initial.text ++ flat_map action_usage l.actions
