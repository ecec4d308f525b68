use Rattle.tl_master.proofs.SourceLaws.{HaveRead}
use Rattle.tl_master.proofs.sources.sources_in.Given as goal

abbrev pub invariant-loop-file : goal.invariant-loop-file
invariant-loop-file g l = HaveRead g.H.Host.tells l.platforms l.files l.fn.tree l.tree l.fn.regexps l.regexps l.file-index l.sources.items
