use Rattle.std.proofs.Common.{◌∙◌}
use Rattle.tl_memhost.proofs.Held.{copied}
use Rattle.tl_memhost.proofs.files.Files.copy.Goals as goal

pub invariant_of-result : goal.invariant_of-result
invariant_of-result c = (copied c.self.inside.held.entries c.in_ok-held.held.entries c.in_ok-held.ensures.cases).1 c.self.invariant

pub returns : goal.returns
returns c = (copied c.self.inside.held.entries c.in_ok-held.held.entries c.in_ok-held.ensures.cases).0 ∙ c.self.view_is
