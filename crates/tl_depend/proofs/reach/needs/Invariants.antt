use Rattle.std.proofs.Common.{◌≡◌, ◌-◌, ◌^◌, [], take, map}
use Rattle.std.specs.Str.{bytes_eq}
use Rattle.indexmap.specs.IndexSet.{insert_all}
use Rattle.tl_depend.proofs.ReachLemmas.{IsReaching}
use Rattle.tl_depend.proofs.reach.needs.Given as goal

abbrev pub invariant-loop-root : goal.invariant-loop-root
invariant-loop-root l = l.names.keys ≡ insert_all bytes_eq [] (take l.root-index l.roots)

abbrev pub invariant-loop-next : goal.invariant-loop-next
invariant-loop-next l = IsReaching l.view (map (λ platform. platform.items) l.platforms) l.roots l.names.keys l.next

abbrev pub decreases-loop-next : goal.decreases-loop-next
decreases-loop-next l = 2 ^ 63 - l.next
