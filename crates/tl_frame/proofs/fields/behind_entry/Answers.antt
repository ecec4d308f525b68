use Rattle.std.proofs.Common.{◌∙◌}
use Rattle.tl_frame.proofs.MoveLaws.{moves_entry}
use Rattle.tl_frame.proofs.fields.behind_entry.Goals as goal

pub returns-clause-moves : goal.returns-clause-moves
returns-clause-moves c =
    moves_entry c.args.waiting c.behind.result c.args.field.now c.new.result c.args.out.now.items c.push.new.self.items c.requires.stage (c.new.ensures ∙ c.in_ok-text.ensures.items) c.in_ok-push.ensures.items c.behind.ensures
