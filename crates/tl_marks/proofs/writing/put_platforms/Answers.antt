use Rattle.std.proofs.Common.{◌++◌, sym, ap, ◌∙◌, List, ℕ}
use Rattle.tl_marks.proofs.WriteLemmas.{platform_more}
use Rattle.tl_marks.proofs.writing.put_platforms.Goals as goal

pub loop-i-preserved : goal.loop-i-preserved
loop-i-preserved c =
    c.in_ok-extend_from_slice.ensures.items ∙ ap (λ (l : List ℕ). l ++ c.in-Some.platform.now) c.in_ok-push.ensures.items
    ∙ platform_more c.args.out.now.items c.loop-i.out.items c.args.platforms.now c.loop-i.i c.in-Some.platform.now (sym c.in-Some.ensures.platform) c.loop-i.invariant
