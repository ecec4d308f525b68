use Rattle.std.proofs.Common.{◌∙◌, ap, sym, Some, List, ℕ}
use Rattle.tl_claims.proofs.Neighbours.{twice-same, twice-apart}
use Rattle.tl_claims.proofs.names.first_twice.Goals as goal

pub returns-then-eq : goal.returns-then-eq
returns-then-eq c =
    ap (λ (n : List ℕ). Some n) c.in_ok-clone.ensures.cases
    ∙ sym (twice-same c.loop-first.rest.now c.in-Some.behind.now c.in-Some-split_first.field-0-1.now c.in-Some.first.now c.in-Some-split_first.second.now
    c.in-Some.ensures.cases.0 c.in-Some-split_first.ensures.cases.0 (sym c.eq.ensures ∙ c.if-eq.true))
    ∙ c.loop-first.invariant

pub loop-first-preserved : goal.loop-first-preserved
loop-first-preserved c =
    sym (twice-apart c.loop-first.rest.now c.in-Some.behind.now c.in-Some-split_first.field-0-1.now c.in-Some.first.now c.in-Some-split_first.second.now
    c.in-Some.ensures.cases.0 c.in-Some-split_first.ensures.cases.0 (sym c.eq.ensures ∙ c.if-eq.false))
    ∙ c.loop-first.invariant
