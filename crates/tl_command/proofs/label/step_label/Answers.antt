use Rattle.std.proofs.Common.{◌≡◌, sym, subst, arith}
use Rattle.tl_model.specs.Acks.{IsLabel}
use Rattle.tl_command.specs.Labels.{step_label}
use Rattle.tl_command.proofs.LabelLaws.{label-step, ok_weaker}
use Rattle.tl_command.proofs.label.step_label.Goals as goal

pub returns-clause-label : goal.returns-clause-label
returns-clause-label c =
    let label = step_label c.args.step c.args.count c.args.what.now in
    ok_weaker c.label_text.result (λ made. made.items ≡ label) (λ made. IsLabel made.items)
    (λ made is. subst IsLabel (sym is) (label-step c.args.step c.args.count c.args.what.now (omega arith) (omega arith) c.requires)) c.label_text.ensures
