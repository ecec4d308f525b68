use Rattle.tl_expand.proofs.PartLemmas.{depend_given}
use Rattle.tl_expand.proofs.part.arch_depend.Goals as goal

pub joined_text-requires : goal.joined_text-requires
joined_text-requires c = depend_given c.args.name.now c.bytes.result.now c.bytes.ensures.bytes c.bytes.ensures.name
