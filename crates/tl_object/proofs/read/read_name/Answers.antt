use Rattle.std.proofs.Common.{rules, sym, ◌∙◌}
use Rattle.tl_object.proofs.ReadingLemmas.{name-alone}
use Rattle.tl_object.proofs.read.read_name.Goals as goal

pub returns-in_err-name : goal.returns-in_err-name
returns-in_err-name c = rw (name-alone c.args.line.now (sym c.says_name.ensures ∙ c.if-not-says_name.false)) (search rules)

pub returns : goal.returns
returns c = rw (name-alone c.args.line.now (sym c.says_name.ensures ∙ c.if-not-says_name.false)) (search rules)
