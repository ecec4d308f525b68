use Rattle.std.proofs.Common.{◌≡◌, ◌++◌, rules, arith}
use Rattle.std.proofs.lemmas.Grind.{common_steps}
use Rattle.tl_trigger.specs.Stale.{format_line}
use Rattle.tl_trigger.proofs.FormatLines.{plain_pushed}
use Rattle.tl_trigger.proofs.lines.push_format.Goals as goal

pub returns-clause-plain : goal.returns-clause-plain
returns-clause-plain c = λ plain.
    let grown : c.push.new.self.items ≡ c.args.lines.now.items ++ format_line c.args.name.now = first_of (search rules, grind (arith, common_steps)) in
    plain_pushed c.args.lines.now.items c.push.new.self.items c.args.name.now c.bytes.ensures.is_text grown plain
