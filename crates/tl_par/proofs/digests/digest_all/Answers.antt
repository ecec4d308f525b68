use Rattle.std.proofs.Common.{arith, slice_index_or}
use Rattle.std.proofs.lemmas.Grind.{common_steps}
use Rattle.std.proofs.lemmas.Result.{IfOk-weaker}
use Rattle.sha2.specs.Sha512.{sha512}
use Rattle.tl_par.proofs.PartLaws.{AreGiven, parts_answer}
use Rattle.tl_par.proofs.digests.digest_all.Goals as goal

pub returns : goal.returns
returns g c =
    let given : AreGiven (λ part. part.items) (λ frame. sha512 frame.items) c.as_slice-pieces.result.now c.in_ok-parts.parts.items =
    λ i p r lt. IfOk-weaker (slice_index_or c.in_ok-parts.parts.items i r) _ _ (λ part k. k p) (c.in_ok-parts.ensures.each i r lt).1.met in
    parts_answer (λ all. all.items) (λ part. part.items) (λ frame. sha512 frame.items) c.args.frames.now c.as_slice-pieces.result.now c.in_ok-parts.parts.items c.in_one.result
    (grind (arith, common_steps)) given (grind (arith, common_steps)) c.in_one.ensures.all c.in_one.ensures.ok
