use Rattle.std.proofs.Common.{◌≡◌, take}
use Rattle.std.specs.List.{filter_map}
use Rattle.tl_pin.specs.Candidates.{view_entry}
use Rattle.tl_report.proofs.ViewLemmas.{entries_at, names_at}
use Rattle.tl_report.proofs.view.view_entries.Given as goal

abbrev pub invariant-loop-name : goal.invariant-loop-name
invariant-loop-name l = entries_at l.entries.items ≡ filter_map (view_entry l.pins l.repos l.installed) (names_at (take l.name-index l.name-items))
