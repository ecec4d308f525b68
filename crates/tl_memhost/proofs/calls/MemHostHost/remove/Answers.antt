use Rattle.std.proofs.Common.{subst}
use Rattle.tl_model.specs.Volume.{Name, at-remove_apart}
use Rattle.tl_model.specs.Seen.{Changes}
use Rattle.tl_memhost.specs.Memory.{seen}
use Rattle.tl_memhost.proofs.Telling.{changes}
use Rattle.tl_memhost.proofs.calls.MemHostHost.remove.Goals as goal
use Rattle.std.proofs.Common.{true}

pub returns-in-Ok-clause-change : goal.returns-in-Ok-clause-change
returns-in-Ok-clause-change c t =
    subst (λ (n : Name). Changes true n (seen c.args.self.now) (seen c.clear.new.self)) c.bytes-2.ensures.bytes
    (changes c.args.self.now c.clear.new.self c.bytes-2.result.now _ c.in-Ok.ensures.ok (λ other ne. at-remove_apart _ _ other ne))
