use Rattle.std.proofs.Common.{◌≡◌, false, take}
use Rattle.std.specs.List.{list_any}
use Rattle.std.specs.HashSet.{contains_text}
use Rattle.tl_trigger.proofs.stale_formats.has_changed_trigger.Given as goal

abbrev pub invariant-loop-trigger : goal.invariant-loop-trigger
invariant-loop-trigger l = list_any (contains_text l.changed) (take l.trigger-index l.triggers) ≡ false
