use Rattle.std.proofs.Common.{◌≡◌, take}
use Rattle.tl_model.specs.Acks.{IsPlain}
use Rattle.tl_model.specs.Lines.{text_of}
use Rattle.tl_show.proofs.finding.lines_of.Given as goal

abbrev pub invariant-loop-path : goal.invariant-loop-path
invariant-loop-path l = (l.lines.items ≡ text_of (take l.path-index l.paths)) × IsPlain l.lines.items
