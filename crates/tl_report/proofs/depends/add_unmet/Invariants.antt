use Rattle.std.proofs.Common.{◌≡◌, ◌++◌, map, take}
use Rattle.std.specs.Prelude.{filter}
use Rattle.tl_report.specs.Lines.{line_of}
use Rattle.tl_report.specs.Depends.{is_unmet}
use Rattle.tl_report.specs.declared.lines.Finding.TheVariants.{Depends}
use Rattle.tl_report.proofs.depends.add_unmet.Given as goal

abbrev pub invariant-loop-depend : goal.invariant-loop-depend
invariant-loop-depend l = l.lines ≡ l.fn.lines ++ map (line_of Depends l.entry.name) (filter (is_unmet l.db (map (λ p. p.now) l.platforms)) (take l.depend-index l.depend-items))
