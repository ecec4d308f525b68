use Rattle.std.proofs.Common.{◌≡◌, ◌++◌, drop, string_bytes}
use Rattle.std.specs.List.{flat_map}
use Rattle.tl_action.specs.Usage.{option_usage}
use Rattle.tl_action.proofs.help.push_options.Given as goal

abbrev pub invariant-loop-option : goal.invariant-loop-option
invariant-loop-option l =
    string_bytes l.text ++ flat_map (option_usage l.action) (drop l.option-index l.options)
    ≡ string_bytes l.initial.text ++ flat_map (option_usage l.action) l.options
