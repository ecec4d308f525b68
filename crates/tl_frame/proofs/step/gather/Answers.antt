use Rattle.std.proofs.Common.{◌<◌, ◌+◌, ◌∙◌, List, ℕ, length, arith, sym, subst}
use Rattle.tl_frame.specs.States.{Moves, reader_of}
use Rattle.tl_frame.proofs.StateLaws.{moves_kept, moves_behind}
use Rattle.tl_frame.proofs.step.gather.Goals as goal

pub returns-then-piece-missing-clause-takes : goal.returns-then-piece-missing-clause-takes
returns-then-piece-missing-clause-takes c =
    let less : length c.args.kept.now.items + length c.args.piece.now < c.args.wanted = omega (arith, c.if-piece-missing.true, c.len.ensures, c.args.kept.now.ok.0) in
    moves_kept c.args.waiting c.args.kept.now.items c.extend_from_slice.new.self.items c.args.last.now.items c.args.piece.now c.args.wanted c.args.out.now.items c.requires.wanted c.requires.form less c.in_ok-extend_from_slice.ensures.items

pub returns-clause-takes : goal.returns-clause-takes
returns-clause-takes c =
    let front = c.split_at.result.0.now in
    let moves = moves_behind c.args.waiting c.in_ok-next.field-0 c.args.kept.now.items c.args.last.now.items c.judge-next.new.last.items front c.as_slice.result.now c.args.out.now.items c.judge-next.new.out.items
    (c.as_slice.ensures.value ∙ c.in_ok-extend_from_slice-2.ensures.items) c.in_ok-next.ensures.moves in
    record {
      front = front;
      split = c.split_at.ensures.by_index.0;
      moves = subst (λ (kept : List ℕ). Moves (reader_of c.args.waiting c.args.kept.now.items c.args.last.now.items) (reader_of c.in_ok-next.field-0 kept c.judge-next.new.last.items) front c.args.out.now.items c.judge-next.new.out.items) (sym c.clear.ensures.items) moves;
    }
