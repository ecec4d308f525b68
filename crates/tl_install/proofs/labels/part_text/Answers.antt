use Rattle.std.proofs.Common.{◌≡◌, List, ℕ, Result, Ok, Err, rules, sym, subst}
use Rattle.std.specs.Prelude.{IfOk, string_bytes}
use Rattle.tl_model.specs.Lines.{IsLine}
use Rattle.tl_install.specs.Labels.{coming_text}
use Rattle.tl_install.proofs.LabelLemmas.{line_of_coming}
use Rattle.tl_install.proofs.labels.part_text.Goals as goal

ok_line : {V E : Type 0} (bytes : V → List ℕ) (made : Result V E) (text : List ℕ) → IfOk made (λ v. bytes v ≡ text) → IsLine text → IfOk made (λ v. IsLine (bytes v))
ok_line bytes (Ok v) text is line = subst IsLine (sym is) line
ok_line bytes (Err e) text is line = tt

pub returns-clause-line : goal.returns-clause-line
returns-clause-line c =
    let repos = c.args.repos.now in
    let part = c.args.part.now in
    let is : IfOk c.format.result (λ text. string_bytes text ≡ coming_text repos part) = search rules in
    ok_line (λ text. string_bytes text) c.format.result (coming_text repos part) is
    (line_of_coming repos part c.name.result.now c.name.ensures c.text-name.ensures.name)
