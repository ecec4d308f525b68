use Rattle.std.proofs.Common.{map, take}
use Rattle.tl_pin.proofs.ViewLemmas.{IsViewOf}
use Rattle.tl_pin.proofs.views.view.Given as goal

abbrev pub invariant-loop-name : goal.invariant-loop-name
invariant-loop-name l = IsViewOf l.pins l.repos l.installed (map (λ n. n.now) (take l.name-index l.name-items)) l.view
