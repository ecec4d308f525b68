use Rattle.tl_memhost.proofs.Telling.{says}
use Rattle.tl_memhost.proofs.calls.MemHostHost.say.Goals as goal

pub returns-in-Ok-tell-clause-says : goal.returns-in-Ok-tell-clause-says
returns-in-Ok-tell-clause-says c t = says c.args.self.now c.tell.new.self c.args.bytes.now c.in-Ok-tell.ensures.ok
