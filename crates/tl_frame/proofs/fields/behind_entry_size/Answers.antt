use Rattle.std.proofs.Common.{List, [], ◌∷◌, ◌++◌, ℕ, ◌<◌, sym, ◌∙◌, ap, arith}
use Rattle.tl_frame.specs.declared.event.FrameEvent.TheVariants.{Entry}
use Rattle.tl_frame.proofs.MoveLaws.{moves_no_entry, moves_entry_size}
use Rattle.tl_frame.proofs.fields.behind_entry_size.Goals as goal

pub returns-in_ok-push-clause-moves : goal.returns-in_ok-push-clause-moves
returns-in_ok-push-clause-moves c =
    moves_no_entry c.args.waiting c.behind.result c.args.field.now c.args.out.now.items c.push.new.self.items c.requires.stage c.requires.field (sym c.if-size-eq0.true ∙ c.number_32-size.ensures)
    (c.in_ok-push.ensures.items ∙ ap (λ (text : List ℕ). c.args.out.now.items ++ Entry text ∷ []) (c.new-empty.ensures ∙ c.new.ensures.items)) c.behind.ensures

pub returns-else-size-eq0-clause-moves : goal.returns-else-size-eq0-clause-moves
returns-else-size-eq0-clause-moves c =
    let some : 0 < c.number_32-size.result = omega arith in
    moves_entry_size c.args.waiting c.behind-else-size-eq0.result c.number_32-size.result c.args.field.now c.args.out.now.items c.requires.stage c.requires.field c.number_32-size.ensures some c.behind-else-size-eq0.ensures
