use Rattle.std.proofs.Common.{◌≡◌, true, sym, ap, ◌∙◌, arith, is_ok}
use Rattle.tl_pin.proofs.ReadLemmas.{line_at, passed, read_more, first_bad, all_read}
use Rattle.tl_pin.proofs.pins.Pins.parse.Goals as goal

pub loop-before-preserved : goal.loop-before-preserved
loop-before-preserved c =
    let here = line_at _ _ c.deref-span-items.result.now _ _ (rw c.deref-span-items.ensures.value c.in_ok-lines.ensures.lines) c.loop-before-test.true c.of-line.ensures in
    let ok : is_ok c.push.result ≡ true = sym c.map_err.ensures.variant ∙ ap is_ok c.in_ok-map_err-in-Some.was in
    rw (c.push.ensures.items, ok) (read_more _ _ _ _ _ here (sym c.is_passed_over.ensures ∙ c.if-is_passed_over.false) (c.in_ok-pin.ensures ∙ c.in-Some.is) c.loop-before.invariant)

pub loop-before-preserved-then-is_passed_over : goal.loop-before-preserved-then-is_passed_over
loop-before-preserved-then-is_passed_over c =
    let here = line_at _ _ c.deref-span-items.result.now _ _ (rw c.deref-span-items.ensures.value c.in_ok-lines.ensures.lines) c.loop-before-test.true c.of-line.ensures in
    passed _ _ _ _ here (sym c.is_passed_over.ensures ∙ c.if-is_passed_over.true) c.loop-before.invariant

pub overflow_cast-result : goal.overflow_cast-result
overflow_cast-result c =
    let here = line_at _ _ c.deref-span-items.result.now _ _ (rw c.deref-span-items.ensures.value c.in_ok-lines.ensures.lines) c.loop-before-test.true c.of-line.ensures in
    omega (arith, here.small, c.requires)

pub overflow_add-result : goal.overflow_add-result
overflow_add-result c =
    let here = line_at _ _ c.deref-span-items.result.now _ _ (rw c.deref-span-items.ensures.value c.in_ok-lines.ensures.lines) c.loop-before-test.true c.of-line.ensures in
    omega (arith, here.small, c.requires)

pub returns-in-None : goal.returns-in-None
returns-in-None c =
    let here = line_at _ _ c.deref-span-items.result.now _ _ (rw c.deref-span-items.ensures.value c.in_ok-lines.ensures.lines) c.loop-before-test.true c.of-line.ensures in
    first_bad _ _ _ _ here (sym c.is_passed_over.ensures ∙ c.if-is_passed_over.false) (c.in_ok-pin.ensures ∙ c.in-None.is) c.loop-before.invariant

pub returns : goal.returns
returns c = all_read _ _ c.deref-span-items.result.now _ (rw c.deref-span-items.ensures.value c.in_ok-lines.ensures.lines) c.loop-before-test.false c.loop-before.invariant
