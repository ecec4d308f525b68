use Rattle.std.proofs.Common.{◌++◌, List, ℕ, sym, ap, subst, ◌∙◌}
use Rattle.tl_model.specs.Acks.{IsPlain, plain-append}
use Rattle.tl_settings.proofs.setting.lines_of.Goals as goal

pub returns-in-Ok-clause-plain : goal.returns-in-Ok-clause-plain
returns-in-Ok-clause-plain c =
    let first = c.in_ok-lines.lines.items in
    let second = c.in_ok-more.more.items in
    subst (λ (l : List ℕ). IsPlain l) (sym (c.in-Ok.ensures.items ∙ ap (λ (l : List ℕ). first ++ l) c.deref.ensures.value))
    (plain-append first second c.in_ok-lines.ensures.plain c.in_ok-more.ensures.plain)
