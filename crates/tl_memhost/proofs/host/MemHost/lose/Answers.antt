use Rattle.std.proofs.Common.{arith}
use Rattle.tl_memhost.proofs.Counted.{more_short}
use Rattle.tl_memhost.proofs.host.MemHost.lose.Goals as goal

pub invariant_of-self : goal.invariant_of-self
invariant_of-self c =
    let h = c.self.invariant.0 in
    (record { least = omega arith; most = λ below. omega arith; each = more_short _ _ (omega arith) _ h.each }, c.self.invariant.1)
