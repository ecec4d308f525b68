use Rattle.tl_path.proofs.Parts.{cut_part}
use Rattle.tl_path.proofs.platform.part_end.Goals as goal

pub returns : goal.returns
returns c = cut_part c.args.text.now _ c.first_blank.ensures
