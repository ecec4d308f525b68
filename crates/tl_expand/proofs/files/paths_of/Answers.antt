use Rattle.tl_expand.proofs.FileLemmas.{rising_given}
use Rattle.tl_expand.proofs.files.paths_of.Goals as goal

pub of-requires : goal.of-requires
of-requires c = rising_given c.args.chosen.now c.hits.result.now c.in_ok-paths.paths.items c.deref.result.now c.hits.ensures.hits c.in_ok-paths.ensures c.deref.ensures.value c.hits.ensures.rising
