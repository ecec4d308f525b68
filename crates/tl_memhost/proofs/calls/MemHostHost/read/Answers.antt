use Rattle.std.proofs.Common.{◌∙◌, ap}
use Rattle.tl_memhost.specs.Memory.{failed}
use Rattle.tl_memhost.proofs.Telling.{quiet_looked, quiet_failed}
use Rattle.tl_memhost.proofs.calls.MemHostHost.read.Goals as goal

pub returns-then-named-clause-same : goal.returns-then-named-clause-same
returns-then-named-clause-same c t = quiet_failed c.args.self.now _ (c.fail.ensures ∙ ap failed c.look.ensures)

pub returns-clause-same : goal.returns-clause-same
returns-clause-same c t = quiet_looked c.args.self.now _ c.look.ensures
