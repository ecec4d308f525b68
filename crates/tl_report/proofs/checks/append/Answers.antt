use Rattle.std.proofs.Common.{◌++◌, List, ℕ, sym, ap, subst, ◌∙◌}
use Rattle.tl_model.specs.Acks.{IsPlain, plain-append}
use Rattle.tl_report.proofs.checks.append.Goals as goal

pub returns-clause-plain : goal.returns-clause-plain
returns-clause-plain c = λ plain.
    subst (λ (l : List ℕ). IsPlain l) (sym (c.in_ok-extend_from_slice.ensures.items ∙ ap (λ (l : List ℕ). c.args.text.now.items ++ l) c.deref.ensures.value))
    (plain-append c.args.text.now.items c.args.more.items plain c.requires)
