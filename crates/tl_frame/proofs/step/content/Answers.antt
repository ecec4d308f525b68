use Rattle.std.proofs.Common.{◌≡◌, ◌<◌, ◌-◌, ◌∙◌, ℕ, length, arith, ap, sym}
use Rattle.tl_frame.specs.declared.stage.Stage.TheVariants.{Content}
use Rattle.tl_frame.specs.declared.stage.Waiting.{Waiting}
use Rattle.tl_frame.proofs.StateLaws.{takes_part, takes_all}
use Rattle.tl_frame.proofs.step.content.Goals as goal
use Rattle.tl_frame.proofs.step.content.Goals.{then-size-left, else-size-left}

pub returns-clause-takes : goal.returns-clause-takes
returns-clause-takes c last =
    let front = c.split_at.result.0.now in
    let size : length front ≡ c.min-size.result = c.split_at.ensures.front_len in
    let some : 0 < length front = omega (arith, size, c.requires.left, c.requires.some, c.min-size.ensures) in
    let held = c.new.ensures ∙ c.in_ok-bytes.ensures.items in
    elim c.if-size-left.branch [
      | then-size-left w ↦
          takes_all c.args.waiting c.if-size-left.next c.args.left last c.args.piece.now front c.split_at.result.1.now c.new.result c.args.out.now.items c.push.new.self.items c.requires.stage c.split_at.ensures.by_index.0 some
          (size ∙ w.if-size-left.true) held c.in_ok-push.ensures.items (w.next-is ∙ w.before_files-next.ensures)
      | else-size-left w ↦
          let less : length front < c.args.left = omega (arith, size, c.min-size.ensures, w.if-size-left.false) in
          let at : ℕ → Waiting = λ n. record c.args.waiting { stage = Content (c.args.left - n) } in
          takes_part c.args.waiting c.if-size-left.next c.args.left last c.args.piece.now front c.split_at.result.1.now c.new.result c.args.out.now.items c.push.new.self.items c.requires.stage c.split_at.ensures.by_index.0 some
          less held c.in_ok-push.ensures.items (w.next-is ∙ w.at-next.ensures ∙ ap at (sym size))
    ]
