use Rattle.std.proofs.Common.{◌≡◌, false, ℕ, List, sym, ap, ◌∙◌}
use Rattle.tl_publish.proofs.BelowLemmas.{comes_between}
use Rattle.tl_publish.proofs.LowestLemmas.{none_more, first_apart, without_first}
use Rattle.tl_publish.proofs.lowest.has_below.Goals as goal

pub returns-then-not-comes_between : goal.returns-then-not-comes_between
returns-then-not-comes_between c =
    let name = c.args.name.now in
    let other = c.in-Some.other.now in
    let past : comes_between other name ≡ false =
    ap (λ (t : List ℕ). comes_between t name) (sym c.bytes.ensures.bytes) ∙ ap (λ (t : List ℕ). comes_between c.bytes.result.now t) (sym c.bytes-in-Some.ensures.bytes)
    ∙ sym c.comes_between.ensures ∙ c.if-not-comes_between.true in
    sym (sym c.loop-other.invariant.0 ∙ none_more name other c.loop-other.rest.now c.in-Some.others.now c.in-Some.ensures.cases.0 c.loop-other.invariant.1 (sym c.is_below.ensures ∙ c.if-is_below.false) past)

pub loop-other-preserved : goal.loop-other-preserved
loop-other-preserved c =
    let name = c.args.name.now in
    let other = c.in-Some.other.now in (
      sym (first_apart name other c.loop-other.rest.now c.in-Some.others.now c.in-Some.ensures.cases.0 (sym c.is_below.ensures ∙ c.if-is_below.false)) ∙ c.loop-other.invariant.0,
      without_first name other c.loop-other.rest.now c.in-Some.others.now c.in-Some.ensures.cases.0 c.loop-other.invariant.1,
    )
