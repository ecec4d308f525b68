use Rattle.std.proofs.Common.{◌≡◌, ◌++◌, ◌∷◌, [], rules, arith}
use Rattle.std.specs.Prelude.{string_bytes}
use Rattle.std.proofs.lemmas.Grind.{common_steps}
use Rattle.tl_restore.proofs.Lines.{plain_more}
use Rattle.tl_restore.proofs.listing.push_line.Goals as goal

pub returns-clause-plain : goal.returns-clause-plain
returns-clause-plain c = λ plain.
    let grown : c.push.new.self.items ≡ c.args.lines.now.items ++ (string_bytes c.in_ok-text.text ++ 10 ∷ []) = first_of (search rules, grind (arith, common_steps)) in
    plain_more c.args.lines.now.items (string_bytes c.in_ok-text.text ++ 10 ∷ []) c.push.new.self.items grown c.in_ok-text.ensures.plain plain
