use Rattle.std.proofs.Common.{◌≡◌, take}
use Rattle.tl_model.specs.Acks.{IsPlain}
use Rattle.tl_trigger.specs.Stale.{format_lines}
use Rattle.tl_trigger.proofs.lines.format_lines.Given as goal

abbrev pub invariant-loop-name : goal.invariant-loop-name
invariant-loop-name l = (l.lines.items ≡ format_lines (take l.name-index l.formats)) × IsPlain l.lines.items
