use Rattle.std.proofs.Common.{subst}
use Rattle.tl_regexp.specs.Finds.{IsRead}
use Rattle.tl_regexp.proofs.FindLemmas.{is_read}
use Rattle.tl_regexp.proofs.regexp.Regexp.text.Goals as goal

pub returns-clause-read : goal.returns-clause-read
returns-clause-read c = subst IsRead c.self.view_is (is_read _ c.self.inside.regex c.self.invariant)
