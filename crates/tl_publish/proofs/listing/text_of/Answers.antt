use Rattle.std.proofs.Common.{sym, subst, ◌∙◌}
use Rattle.tl_lsr.specs.Lists.{AreListable}
use Rattle.tl_publish.proofs.InsideLemmas.{lowest-listable}
use Rattle.tl_publish.proofs.listing.text_of.Goals as goal

pub write-requires : goal.write-requires
write-requires c = subst AreListable (sym (c.deref.ensures.value ∙ c.in_ok-paths.ensures)) (lowest-listable c.args.names.now c.requires)
