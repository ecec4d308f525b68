use Rattle.tl_expand.proofs.PartLemmas.{shortdesc_given}
use Rattle.tl_expand.proofs.part.part_shortdesc.Goals as goal

pub joined_text-requires : goal.joined_text-requires
joined_text-requires c = shortdesc_given c.args.platform.now c.args.name.now c.bytes.result.now c.bytes-2.result.now c.in_ok-front.front.items c.deref.result.now
    c.bytes.ensures.bytes c.bytes.ensures.platform c.bytes-2.ensures.bytes c.bytes-2.ensures.name c.in_ok-front.ensures c.deref.ensures.value
