use Rattle.std.proofs.Common.{◌∙◌, ap}
use Rattle.tl_memhost.specs.Memory.{failed, synced}
use Rattle.tl_memhost.proofs.Telling.{syncs_failed}
use Rattle.tl_memhost.proofs.calls.MemHostHost.sync.Goals as goal

pub returns-then-is_named-clause-sync : goal.returns-then-is_named-clause-sync
returns-then-is_named-clause-sync c t = syncs_failed c.args.self.now c.fail.new.self (c.fail.ensures ∙ ap failed (c.count_sync.ensures ∙ ap synced c.look.ensures))
