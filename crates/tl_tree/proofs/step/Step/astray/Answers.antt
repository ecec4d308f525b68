use Rattle.std.proofs.Common.{true}
use Rattle.tl_tree.specs.Under.{seen_of, lacks_of}
use Rattle.tl_tree.proofs.Opening.{astray_planned, astray_under}
use Rattle.tl_tree.proofs.step.Step.astray.Goals as goal

pub invariant_of-step : goal.invariant_of-step
invariant_of-step g c =
    let s = c.step.inside in (
      astray_planned (seen_of s.place) s.old s.change.now.parts s.change.now.label s.waiting (lacks_of s.place) s.astray true s.next c.step.invariant.0,
      λ t. astray_under (seen_of s.place) s.old s.change.now.parts s.change.now.label s.waiting (lacks_of s.place) s.astray true (c.step.invariant.1 t),
    )
