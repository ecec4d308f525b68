use Rattle.tl_regexp.proofs.VerdictLemmas.{stands_empty}
use Rattle.tl_regexp.proofs.regexps.Regexps.new.Goals as goal

pub invariant_of-result : goal.invariant_of-result
invariant_of-result c = stands_empty
