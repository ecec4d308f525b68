use Rattle.std.proofs.Common.{◌≡◌, ◌++◌, [], ◌∷◌, List, ℕ, sym, subst, rules}
use Rattle.tl_model.specs.Acks.{IsPlain}
use Rattle.tl_db.specs.Options.{option_name}
use Rattle.tl_settings.proofs.Labels.{plain-option}
use Rattle.tl_settings.proofs.setting.line_for.Goals as goal

pub returns-clause-plain : goal.returns-clause-plain
returns-clause-plain c =
    let line : c.push_line.new.lines.items ≡ option_name c.args.option ++ 32 ∷ c.in_ok-value.value.items ++ 10 ∷ [] = search rules in
    subst (λ (l : List ℕ). IsPlain l) (sym line) (plain-option c.args.option c.in_ok-value.value.items c.in_ok-value.ensures.line)
