use Rattle.std.proofs.Common.{◌≡◌, get_or, sym, ap, ◌∙◌, arith}
use Rattle.tl_srctext.proofs.WriteLemmas.{put-first, put-next}
use Rattle.tl_srctext.proofs.writing.put_platforms.Goals as goal
use Rattle.tl_srctext.proofs.writing.put_platforms.Goals.{then-i-gt0+in_ok-push, else-i-gt0}

pub loop-i-preserved : goal.loop-i-preserved
loop-i-preserved c =
    let platforms = c.args.platforms.now in let i = c.loop-i.i in let piece = c.index-platforms-i.result in
    let here : get_or platforms i piece ≡ c.bytes.result.now = sym c.index-platforms-i.is ∙ sym c.bytes.ensures.bytes in
    elim c.if-i-gt0.branch [
      | then-i-gt0+in_ok-push w ↦ put-next 44 platforms i piece c.bytes.result.now _ _ _ _ c.loop-i-test.true here w.if-i-gt0.true c.loop-i.invariant
          (ap (λ v. v.items) w.out-is ∙ w.in_ok-push.ensures.items) c.in_ok-extend_from_slice.ensures.items
      | else-i-gt0 w ↦ put-first 44 platforms i piece c.bytes.result.now _ _ _ _ c.loop-i-test.true here (omega (arith, w.if-i-gt0.false)) c.loop-i.invariant
          (ap (λ v. v.items) w.out-is) c.in_ok-extend_from_slice.ensures.items
    ]
