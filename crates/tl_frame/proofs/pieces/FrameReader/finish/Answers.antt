use Rattle.std.proofs.Common.{◌≡◌, Result, Ok, Err, refl, sym, ◌∙◌, subst}
use Rattle.std.specs.Result.{OnOk}
use Rattle.tl_frame.specs.declared.error.FrameError.{FrameError}
use Rattle.tl_frame.specs.States.{ReaderState, IsFed, reader_of, is_spent}
use Rattle.tl_frame.specs.Answers.{finish_answer}
use Rattle.tl_frame.proofs.FeedLaws.{finish_led, ends_at}
use Rattle.tl_frame.proofs.ReadLaws.{frame_read}
use Rattle.tl_frame.proofs.pieces.FrameReader.finish.Goals as goal

pub returns-clause-answer : goal.returns-clause-answer
returns-clause-answer c fed is =
    let s = c.self.inside in
    let at : ReaderState = reader_of s.waiting s.kept.items s.last.items in
    let led : IsFed at fed → c.ending.result ≡ finish_answer (is_spent at) fed = λ is. c.ending.ensures ∙ finish_led at fed c.self.invariant is in
    subst (λ (r : ReaderState). IsFed r fed → c.ending.result ≡ finish_answer (is_spent r) fed) c.self.view_is led is

on_ok : (r : Result (Unit {0}) FrameError) (P : Type 0) → (r ≡ Ok tt → P) → OnOk r P
on_ok (Ok x) P here = here refl
on_ok (Err e) P here = tt

pub returns-clause-whole : goal.returns-clause-whole
returns-clause-whole c = on_ok c.ending.result _ (λ ok fed is.
    let ends = ends_at (is_spent c.args.self.now) fed (sym (returns-clause-answer c fed is) ∙ ok) in
    frame_read fed (is ends.0).are_bytes ends.1)
