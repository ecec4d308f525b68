use Rattle.tl_object.proofs.PlainLemmas.{plain_bin_line, plain_behind}
use Rattle.tl_object.proofs.write.put_bin_line.Goals as goal

pub returns-clause-plain : goal.returns-clause-plain
returns-clause-plain c =
    plain_behind c.put_section_behind.result _ _ _ c.put_section_behind.ensures (plain_bin_line c.args.platform.now c.args.blocks c.requires c.ranges.blocks.fits)
