use Rattle.std.proofs.Common.{sym, ap, ◌∙◌, Some, rules}
use Rattle.tl_regexp.specs.Verdicts.{seen_verdict}
use Rattle.tl_regexp.proofs.VerdictLemmas.{insert_same}
use Rattle.tl_regexp.proofs.regexps.Regexps.keep.Goals as goal

pub returns-in-Some-clause-ok : goal.returns-in-Some-clause-ok
returns-in-Some-clause-ok c = insert_same _ _ _ (sym c.in-Some.ensures ∙ ap (λ v. Some (seen_verdict v)) (search rules))
