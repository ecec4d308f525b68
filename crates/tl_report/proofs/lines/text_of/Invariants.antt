use Rattle.std.proofs.Common.{◌≡◌, map, take}
use Rattle.std.specs.Prelude.{string_bytes}
use Rattle.tl_model.specs.Lines.{text_of}
use Rattle.tl_report.proofs.lines.text_of.Given as goal

abbrev pub invariant-loop-line : goal.invariant-loop-line
invariant-loop-line l = l.text.items ≡ text_of (map string_bytes (take l.line-index l.lines))
