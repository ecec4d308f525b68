use Rattle.std.proofs.Common.{List, ℕ, sym, ◌∙◌, ap}
use Rattle.std.specs.Prelude.{bytes_eq}
use Rattle.tl_frame.proofs.MoveLaws.{moves_mark, moves_other_mark}
use Rattle.tl_frame.proofs.fields.behind_mark.Goals as goal

pub returns-in_ok-push-clause-moves : goal.returns-in_ok-push-clause-moves
returns-in_ok-push-clause-moves c last =
    moves_mark c.args.waiting c.behind.result last c.args.field.now c.args.out.now.items c.push.new.self.items c.requires.stage c.requires.field
    (sym (ap (λ (l : List ℕ). bytes_eq c.args.field.now l) c.as_slice.ensures) ∙ sym c.eq.ensures ∙ c.if-eq.true) c.in_ok-push.ensures.items c.behind.ensures

pub returns-else-eq-clause-moves : goal.returns-else-eq-clause-moves
returns-else-eq-clause-moves c last =
    moves_other_mark c.args.waiting c.at.result last c.args.field.now c.args.out.now.items c.requires.stage c.requires.field
    (sym (ap (λ (l : List ℕ). bytes_eq c.args.field.now l) c.as_slice.ensures) ∙ sym c.eq.ensures ∙ c.if-eq.false) c.at.ensures
