use Rattle.std.proofs.Common.{◌<◌, ℕ, ◌∙◌, ap, arith}
use Rattle.tl_frame.specs.declared.stage.Stage.TheVariants.{Content}
use Rattle.tl_frame.specs.declared.stage.Waiting.{Waiting}
use Rattle.tl_frame.proofs.MoveLaws.{moves_size, moves_no_bytes}
use Rattle.tl_frame.proofs.fields.behind_size.Goals as goal

pub returns-then-len-eq0-clause-moves : goal.returns-then-len-eq0-clause-moves
returns-then-len-eq0-clause-moves c =
    moves_no_bytes c.args.waiting c.before_files.result c.in_ok-path.path c.args.last.now c.args.field.now c.number_64-len.result c.args.out.now.items c.push.new.self.items c.requires.stage c.requires.field
    (c.in_ok-path.ensures ∙ c.of_bytes.ensures) c.number_64-len.ensures c.if-len-eq0.true c.in_ok-push.ensures.items c.before_files.ensures

pub returns-else-len-eq0-clause-moves : goal.returns-else-len-eq0-clause-moves
returns-else-len-eq0-clause-moves c =
    let some : 0 < c.number_64-len.result = omega arith in
    let w = c.args.waiting in
    let at : ℕ → Waiting = λ place. record w { stage = Content c.number_64-len.result; place = place; size = c.number_64-len.result } in
    moves_size w (at c.saturating_add.result) c.in_ok-path.path c.args.last.now c.args.field.now c.number_64-len.result c.args.out.now.items c.push.new.self.items c.requires.stage c.requires.field
    (c.in_ok-path.ensures ∙ c.of_bytes.ensures) c.number_64-len.ensures some c.in_ok-push.ensures.items (ap at c.saturating_add.ensures)
