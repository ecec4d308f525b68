use Rattle.std.proofs.Common.{◌≡◌, take}
use Rattle.std.specs.HashSet.{contains_text}
use Rattle.tl_trigger.specs.Stale.{with_formats, stale_among}
use Rattle.tl_trigger.proofs.stale_formats.add_among.Given as goal

abbrev pub invariant-loop-execute : goal.invariant-loop-execute
invariant-loop-execute l = l.formats ≡ with_formats l.initial.formats (stale_among (contains_text l.changed) l.own (take l.execute-index l.executes))
