use Rattle.std.proofs.Common.{◌∙◌, ◌++◌, ap, List, ℕ}
use Rattle.tl_pin.proofs.WriteLemmas.{globs_written}
use Rattle.tl_pin.proofs.pins.append_globs.Goals as goal

pub returns-after-loop-glob : goal.returns-after-loop-glob
returns-after-loop-glob c =
    globs_written _ _ _ _ _ _ _ c.in-Some.ensures.cases.0 (c.in_ok-extend_from_slice.ensures.items ∙ ap (λ (t : List ℕ). c.args.out.now.items ++ t) c.bytes.ensures.bytes) c.loop-glob.invariant c.loop-glob-test.false
