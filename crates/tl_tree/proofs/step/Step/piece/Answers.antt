use Rattle.std.proofs.Common.{◌∙◌, sym, ap, cond}
use Rattle.tl_tree.specs.Opened.{Opened, with_bytes, given}
use Rattle.tl_tree.proofs.Opening.{astray_given}
use Rattle.tl_tree.proofs.step.Step.piece.Goals as goal

pub returns-else-may_come-clause-given : goal.returns-else-may_come-clause-given
returns-else-may_come-clause-given g c t =
    let step = c.args.self in
    ap (λ (o : Opened). given o) c.astray.ensures ∙ astray_given step
    ∙ sym (ap (λ b. cond b (with_bytes c.args.bytes.now (given step)) (given step)) (sym c.may_come.ensures ∙ c.if-may_come.false))
