use Rattle.tl_frame.proofs.MoveLaws.{moves_count}
use Rattle.tl_frame.proofs.fields.behind_count.Goals as goal

pub returns : goal.returns
returns c events = moves_count c.args.waiting c.before_files.result c.number_32.result c.args.field.now events c.requires.stage c.requires.field c.number_32.ensures c.before_files.ensures
