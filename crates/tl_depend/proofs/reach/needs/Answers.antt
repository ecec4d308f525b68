use Rattle.std.proofs.Common.{◌≡◌, ℕ, List, [], map, length, ◌<◌, ◌≤◌, ap, ◌∙◌, arith}
use Rattle.std.specs.Str.{bytes_eq}
use Rattle.std.proofs.lemmas.List.{take_all}
use Rattle.indexmap.specs.IndexSet.{insert_all}
use Rattle.tl_depend.proofs.ReachLemmas.{from_roots, reach_more, reach_done}
use Rattle.tl_depend.proofs.reach.needs.Goals as goal

pub loop-next-init : goal.loop-next-init
loop-next-init c =
    from_roots c.args.view.now (map (λ platform. platform.items) c.args.platforms.now) c.args.roots.now c.loop-root.names.keys
    (c.loop-root.invariant ∙ ap (λ (roots : List (List ℕ)). insert_all bytes_eq [] roots) (take_all c.loop-root.root-index c.args.roots.now (omega arith)))

pub loop-next-preserved : goal.loop-next-preserved
loop-next-preserved c =
    reach_more c.args.view.now (map (λ platform. platform.items) c.args.platforms.now) c.args.roots.now c.loop-next.names.keys c.add_next.new.names.keys c.loop-next.next
    (omega arith) c.in_ok-add_next.ensures c.loop-next.invariant

pub returns : goal.returns
returns c = λ name.
    reach_done c.args.view.now (map (λ platform. platform.items) c.args.platforms.now) c.args.roots.now c.loop-next.names.keys c.loop-next.next (omega arith) c.loop-next.invariant name
