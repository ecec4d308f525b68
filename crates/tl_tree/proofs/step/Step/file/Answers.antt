use Rattle.std.proofs.Common.{◌∙◌, [], ◌∷◌, ◌++◌, sym, ap, cond}
use Rattle.tl_tree.specs.Opened.{Opened, given}
use Rattle.tl_tree.proofs.Opening.{astray_given}
use Rattle.tl_tree.proofs.step.Step.file.Goals as goal

pub returns-else-may_begin-clause-given : goal.returns-else-may_begin-clause-given
returns-else-may_begin-clause-given g c t =
    let step = c.args.self in
    ap (λ (o : Opened). given o) c.astray.ensures ∙ astray_given step
    ∙ sym (ap (λ b. cond b (given step ++ (c.args.path.now, []) ∷ []) (given step)) (sym c.may_begin.ensures ∙ c.if-may_begin.false))
