use Rattle.std.proofs.Common.{◌≡◌, ◌++◌, length, None}
use Rattle.std.specs.Option.{option_map}
use Rattle.tl_auto.specs.Variables.{value_in, replaced_since}
use Rattle.tl_auto.proofs.setting.Setting.replaced.Given as goal

abbrev pub invariant-loop-made : goal.invariant-loop-made
invariant-loop-made l = option_map (λ r. l.made.items ++ r) (replaced_since (value_in l.self) None l.rest) ≡ replaced_since (value_in l.self) None l.text

abbrev pub decreases-loop-made : goal.decreases-loop-made
decreases-loop-made l = length l.rest
