use Rattle.std.proofs.Common.{◌∙◌, ap, sym, List, ℕ, Bor}
use Rattle.tl_execute.proofs.Finds.{texts}
use Rattle.tl_execute.proofs.Lists.{texts_err}
use Rattle.std.proofs.lemmas.Result.{err_from_is_err_and}
use Rattle.tl_execute.proofs.list.read_texts.Goals as goal

pub returns-in_err-read_text : goal.returns-in_err-read_text
returns-in_err-read_text c =
    let p = err_from_is_err_and c.from_residual-in_err-read_text.result c.from_residual-in_err-read_text.ensures.1 in
    rw (p.1, p.2) (texts_err c.deref-part-items.result.now c.loop-part.texts.items c.loop-part.part-index _ _ c.loop-part-test.true (sym c.is_full.ensures ∙ c.if-is_full.true)
    (ap (λ (ps : List (Bor (List ℕ))). texts ps) c.deref-part-items.ensures.value ∙ c.in_ok-parts.ensures) c.loop-part.invariant _ c.in_err-read_text.ensures)
