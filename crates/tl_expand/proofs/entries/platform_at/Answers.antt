use Rattle.tl_expand.proofs.PartLemmas.{platform_among}
use Rattle.tl_expand.proofs.entries.platform_at.Goals as goal

pub of-requires : goal.of-requires
of-requires c = platform_among c.args.platforms.now c.args.number c.in-Some.platform.now c.in-Some.ensures.platform c.in-Some.ensures.order.each
