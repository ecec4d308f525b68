use Rattle.std.proofs.Common.{◌≡◌, ◌+◌, true, false, get_or, drop, refl, sym, ◌∙◌, arith}
use Rattle.std.specs.List.{slice_split}
use Rattle.std.proofs.lemmas.List.Splits.{slice_split-cons_yes, slice_split-cons_no}
use Rattle.tl_model.specs.Words.{is_blank, fields}
use Rattle.tl_text.proofs.Runs.{words_more, words_cut, words_done}
use Rattle.tl_text.proofs.words.fields.Goals as goal
use Rattle.tl_text.proofs.words.fields.Goals.{then-is_blank+in_ok-push_run, else-is_blank}

pub loop-i-preserved : goal.loop-i-preserved
loop-i-preserved c =
    elim c.if-is_blank.branch [
      | then-is_blank+in_ok-push_run w ↦
          let ends : is_blank (get_or c.args.line.now c.loop-i.i 0) ≡ true = sym c.is_blank.ensures ∙ w.if-is_blank.true in
          rw (w.spans-is, w.start-is, w.in_ok-push_run.ensures) (words_cut (slice_split is_blank) (slice_split is_blank) c.args.line.now c.loop-i.spans.items c.loop-i.start c.loop-i.i (fields c.args.line.now) (omega arith)
          (slice_split-cons_yes is_blank (get_or c.args.line.now c.loop-i.i 0) (drop (c.loop-i.i + 1) c.args.line.now) ends) c.loop-i.invariant)
      | else-is_blank w ↦
          let goes_on : is_blank (get_or c.args.line.now c.loop-i.i 0) ≡ false = sym c.is_blank.ensures ∙ w.if-is_blank.false in
          rw (w.spans-is, w.start-is) (words_more (slice_split is_blank) (slice_split is_blank) c.args.line.now c.loop-i.spans.items c.loop-i.start c.loop-i.i (fields c.args.line.now) (omega arith)
          (slice_split-cons_no is_blank (get_or c.args.line.now c.loop-i.i 0) (drop (c.loop-i.i + 1) c.args.line.now) goes_on) c.loop-i.invariant)
    ]

pub returns-clause-fields : goal.returns-clause-fields
returns-clause-fields c =
    rw c.in_ok-push_run-2.ensures (words_done (slice_split is_blank) c.args.line.now c.loop-i.spans.items c.loop-i.start c.loop-i.i (fields c.args.line.now) refl (omega arith) c.loop-i.invariant).0

pub returns-clause-rising : goal.returns-clause-rising
returns-clause-rising c =
    rw c.in_ok-push_run-2.ensures (words_done (slice_split is_blank) c.args.line.now c.loop-i.spans.items c.loop-i.start c.loop-i.i (fields c.args.line.now) refl (omega arith) c.loop-i.invariant).1
