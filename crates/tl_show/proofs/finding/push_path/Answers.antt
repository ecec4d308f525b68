use Rattle.std.proofs.Common.{◌≡◌, ◌++◌, ◌∷◌, [], rules, arith}
use Rattle.std.proofs.lemmas.Grind.{common_steps}
use Rattle.tl_show.proofs.PathLines.{plain_more}
use Rattle.tl_show.proofs.finding.push_path.Goals as goal

pub returns-clause-plain : goal.returns-clause-plain
returns-clause-plain c = λ plain.
    let grown : c.push.new.self.items ≡ c.args.lines.now.items ++ (c.args.path.now ++ 10 ∷ []) = first_of (search rules, grind (arith, common_steps)) in
    plain_more c.args.lines.now.items c.push.new.self.items c.args.path.now c.bytes.ensures.path grown plain
