use Rattle.std.proofs.Common.{◌+◌, ◌∙◌, sym, ap}
use Rattle.tl_model.specs.Seen.{moment}
use Rattle.tl_memhost.specs.Memory.{Memory, seen}
use Rattle.tl_memhost.proofs.Counted.{calls_counted}
use Rattle.tl_memhost.proofs.host.MemHost.calls.Goals as goal

pub returns-clause-moments : goal.returns-clause-moments
returns-clause-moments c below = ap (λ (m : Memory). moment (seen m) + m.short) (sym c.self.view_is) ∙ calls_counted _ c.self.invariant.0 below
