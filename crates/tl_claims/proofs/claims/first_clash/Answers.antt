use Rattle.std.proofs.Common.{◌∙◌, ap, sym, Some}
use Rattle.tl_claims.specs.declared.claim.Clash.{Clash}
use Rattle.tl_claims.proofs.Neighbours.{clash-same, clash-apart}
use Rattle.tl_claims.proofs.claims.first_clash.Goals as goal

pub returns-then-eq : goal.returns-then-eq
returns-then-eq c =
    ap (λ (x : Clash). Some x) (λ i. record { path = c.in_ok-clone.ensures.cases i; first = c.in_ok-clone-2.ensures.cases i; second = c.in_ok-clone-3.ensures.cases i })
    ∙ sym (clash-same c.loop-first.rest.now c.in-Some.behind.now c.in-Some-split_first.field-0-1.now c.in-Some.first.now c.in-Some-split_first.second.now
    c.in-Some.ensures.cases.0 c.in-Some-split_first.ensures.cases.0 (sym c.eq.ensures ∙ c.if-eq.true))
    ∙ c.loop-first.invariant

pub loop-first-preserved : goal.loop-first-preserved
loop-first-preserved c =
    sym (clash-apart c.loop-first.rest.now c.in-Some.behind.now c.in-Some-split_first.field-0-1.now c.in-Some.first.now c.in-Some-split_first.second.now
    c.in-Some.ensures.cases.0 c.in-Some-split_first.ensures.cases.0 (sym c.eq.ensures ∙ c.if-eq.false))
    ∙ c.loop-first.invariant
