use Rattle.std.proofs.Common.{◌≡◌, List, ℕ, ◌∷◌, ◌++◌, sym, subst, rules}
use Rattle.tl_model.specs.Lines.{IsLine}
use Rattle.tl_object.proofs.PlainLemmas.{line_of_path}
use Rattle.tl_report.proofs.LineLemmas.{line_of_name, line_of_two}
use Rattle.tl_report.proofs.duplicates.add_line.Goals as goal

pub push-requires-clause-thing : goal.push-requires-clause-thing
push-requires-clause-thing c = subst (λ (line : List ℕ). IsLine line) (sym c.text.ensures.text) (line_of_path c.args.path.now c.text.ensures.path)

pub push-requires-clause-about : goal.push-requires-clause-about
push-requires-clause-about c =
    let is : c.as_str.result.now ≡ c.args.first.now ++ 32 ∷ c.args.second.now = search rules in
    subst (λ (line : List ℕ). IsLine line) (sym is) (line_of_two c.args.first.now c.args.second.now (line_of_name c.args.first.now c.text-first.ensures.name) (line_of_name c.args.second.now c.text-second.ensures.name))
