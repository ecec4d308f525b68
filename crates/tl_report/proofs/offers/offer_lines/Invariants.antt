use Rattle.std.proofs.Common.{◌≡◌, ◌++◌, drop}
use Rattle.tl_pin.specs.Candidates.{candidate_of}
use Rattle.tl_report.specs.Offers.{offers_from}
use Rattle.tl_report.proofs.offers.offer_lines.Given as goal

abbrev pub invariant-loop-place : goal.invariant-loop-place
invariant-loop-place l = l.lines ++ offers_from (candidate_of l.pins l.repos l.name) l.place (drop l.place l.repos) l.name ≡ offers_from (candidate_of l.pins l.repos l.name) 0 l.repos l.name
