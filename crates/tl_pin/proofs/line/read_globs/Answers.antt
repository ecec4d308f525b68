use Rattle.std.proofs.Common.{◌==◌, ◌∙◌, sym}
use Rattle.std.specs.List.{slice_split}
use Rattle.tl_pin.proofs.GlobLemmas.{globs_more, globs_refused, globs_done}
use Rattle.tl_pin.proofs.line.read_globs.Goals as goal

pub loop-part-preserved : goal.loop-part-preserved
loop-part-preserved c =
    rw (c.in_ok-push.ensures.items, c.in_ok-glob_of.ensures)
    (globs_more _ _ _ _ _ c.loop-part-test.true c.trimmed-part.ensures (sym c.is_pin_glob.ensures ∙ c.if-not-is_pin_glob.false) c.loop-part.invariant)

pub returns-then-not-is_pin_glob : goal.returns-then-not-is_pin_glob
returns-then-not-is_pin_glob c =
    globs_refused c.deref-part-items.result.now (slice_split (λ b. b == 44) c.args.text.now) _ _ _ (rw c.deref-part-items.ensures.value c.in_ok-parts.ensures) c.loop-part-test.true c.trimmed-part.ensures (sym c.is_pin_glob.ensures ∙ c.if-not-is_pin_glob.true)

pub of-requires : goal.of-requires
of-requires c = (globs_done _ c.args.text.now _ _ (rw c.deref-part-items.ensures.value c.in_ok-parts.ensures) c.loop-part-test.false c.loop-part.invariant).form

pub returns : goal.returns
returns c =
    rw c.of.ensures (globs_done _ c.args.text.now _ _ (rw c.deref-part-items.ensures.value c.in_ok-parts.ensures) c.loop-part-test.false c.loop-part.invariant).read
