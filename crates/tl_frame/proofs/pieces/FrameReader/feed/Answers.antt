use Rattle.std.proofs.Common.{◌≡◌, List, [], ℕ, false, refl, sym, ◌∙◌, subst, arith}
use Rattle.std.proofs.lemmas.Bool.{eqb-true, true≢false}
use Rattle.std.proofs.lemmas.List.{nil_from_length}
use Rattle.tl_frame.specs.declared.event.FrameEvent.{FrameEvent}
use Rattle.tl_frame.specs.Scan.{AreBytes}
use Rattle.tl_frame.specs.States.{Tells, Takes, is_spent}
use Rattle.tl_frame.proofs.StateLaws.{takes_more}
use Rattle.tl_frame.proofs.FeedLaws.{tells_front, tells_none, piece_led, piece_answer, fault_again}
use Rattle.tl_frame.proofs.pieces.FrameReader.feed.Goals as goal

pub returns-then-is_spent-clause-tells : goal.returns-then-is_spent-clause-tells
returns-then-is_spent-clause-tells c fed is =
    tells_none fed c.args.piece.now c.args.out.now.items (is_spent c.args.self.now) (λ live. true≢false (sym c.if-is_spent.true ∙ c.is_spent.ensures.spent ∙ live))

pub loop-rest-preserved : goal.loop-rest-preserved
loop-rest-preserved c =
    let takes = c.in-Ok.ensures.takes in
    (takes_more c.args.self.now c.loop-rest.self c.step.new.self c.args.piece.now c.loop-rest.rest.now c.in-Ok.more.now c.args.out.now.items c.loop-rest.out.items c.step.new.out.items c.loop-rest.invariant.0 takes, takes.moves.live)

pub returns-in-Err-clause-tells : goal.returns-in-Err-clause-tells
returns-in-Err-clause-tells c fed is =
    subst (λ (after : List FrameEvent). Tells fed c.args.piece.now c.args.out.now.items after (is_spent c.spend.new.self)) (sym c.in-Err.ensures.same)
    (tells_front c.args.self.now c.loop-rest.self fed c.args.piece.now c.loop-rest.rest.now c.args.out.now.items c.loop-rest.out.items (is_spent c.spend.new.self) c.loop-rest.invariant.0
    (λ live. absurd (true≢false (sym c.spend.ensures ∙ live))) (sym c.is_spent.ensures.spent ∙ c.if-is_spent.false) (λ i. omega (arith, c.type_inv.piece i)) is)

pub returns-in-Err-clause-again : goal.returns-in-Err-clause-again
returns-in-Err-clause-again c fed place is live wrong = fault_again c.args.self.now fed c.args.piece.now place c.is_spent.ensures.form live is wrong

-- the piece came whole
whole : (c : goal.After-fault) → Takes c.args.self.now c.loop-rest.self c.args.piece.now [] c.args.out.now.items c.loop-rest.out.items
whole c =
    let none : c.loop-rest.rest.now ≡ [] = nil_from_length c.loop-rest.rest.now (eqb-true _ _ (sym c.is_empty.ensures ∙ c.loop-rest-test.false)) in
    subst (λ (rest : List ℕ). Takes c.args.self.now c.loop-rest.self c.args.piece.now rest c.args.out.now.items c.loop-rest.out.items) none c.loop-rest.invariant.0

bytes : (c : goal.After-fault) → AreBytes c.args.piece.now
bytes c i = omega (arith, c.type_inv.piece i)

live_before : (c : goal.After-fault) → is_spent c.args.self.now ≡ false
live_before c = sym c.is_spent.ensures.spent ∙ c.if-is_spent.false

pub returns-clause-fed : goal.returns-clause-fed
returns-clause-fed c fed is live = piece_led c.args.self.now c.loop-rest.self fed c.args.piece.now c.args.out.now.items c.loop-rest.out.items (whole c) (live_before c) (bytes c) is

pub returns-clause-answer : goal.returns-clause-answer
returns-clause-answer c fed is =
    c.fault.ensures ∙ piece_answer c.args.self.now c.loop-rest.self fed c.args.piece.now c.args.out.now.items c.loop-rest.out.items (whole c) (live_before c) (bytes c) is

pub returns-clause-tells : goal.returns-clause-tells
returns-clause-tells c fed is =
    tells_front c.args.self.now c.loop-rest.self fed c.args.piece.now [] c.args.out.now.items c.loop-rest.out.items (is_spent c.loop-rest.self) (whole c) (λ live. refl) (live_before c) (bytes c) is

pub returns-clause-again : goal.returns-clause-again
returns-clause-again c fed place is live wrong = fault_again c.args.self.now fed c.args.piece.now place c.is_spent.ensures.form live is wrong
