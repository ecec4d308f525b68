use Rattle.tl_expand.proofs.FileLemmas.{rising_listed}
use Rattle.tl_expand.proofs.files.doc_files_of.Goals as goal

pub new-requires : goal.new-requires
new-requires c = rising_listed c.args.chosen.now c.hits.result.now c.in_ok-paths.paths.items c.in_ok-files.files.items c.hits.ensures.hits c.in_ok-paths.ensures c.in_ok-files.ensures c.hits.ensures.rising
