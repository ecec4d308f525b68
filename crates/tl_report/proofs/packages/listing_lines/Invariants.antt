use Rattle.std.proofs.Common.{◌≡◌, map, take}
use Rattle.tl_report.specs.Info.{listing_line}
use Rattle.tl_report.proofs.packages.listing_lines.Given as goal

abbrev pub invariant-loop-entry : goal.invariant-loop-entry
invariant-loop-entry l = l.lines ≡ map (listing_line l.installed) (map (λ e. e.now) (take l.entry-index l.entries))
