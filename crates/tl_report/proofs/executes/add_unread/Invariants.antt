use Rattle.std.proofs.Common.{◌≡◌, ◌++◌, map, take}
use Rattle.std.specs.Prelude.{filter}
use Rattle.tl_report.specs.Lines.{line_of}
use Rattle.tl_report.specs.Executes.{is_unread}
use Rattle.tl_report.specs.declared.lines.Finding.TheVariants.{Execute}
use Rattle.tl_report.proofs.executes.add_unread.Given as goal

abbrev pub invariant-loop-text : goal.invariant-loop-text
invariant-loop-text l = l.lines ≡ l.fn.lines ++ map (line_of Execute l.entry.name) (filter is_unread (take l.text-index l.text-items))
