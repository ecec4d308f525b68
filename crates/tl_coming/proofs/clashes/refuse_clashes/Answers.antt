use Rattle.std.proofs.Common.{ℕ, List, subst, ◌∙◌}
use Rattle.tl_touch.specs.Listing.{AreListed}
use Rattle.tl_coming.proofs.ClashLaws.{settled_at, clash_from, fault_first}
use Rattle.tl_coming.proofs.clashes.refuse_clashes.Goals as goal

pub refuse_clashes_of-requires : goal.refuse_clashes_of-requires
refuse_clashes_of-requires c =
    settled_at c.args.coming.now c.loop-place.place c.index-coming-place.result c.in_ok-listed.listed
    (subst (λ (paths : List (List ℕ)). AreListed paths c.in_ok-listed.listed) (c.deref.ensures.value ∙ c.in_ok-paths.ensures) c.in_ok-listed.ensures)
    c.loop-place-test.true c.index-coming-place.is

pub returns-in-Err-clause-fault : goal.returns-in-Err-clause-fault
returns-in-Err-clause-fault c =
    fault_first _ _ _ c.in-Err.fault (clash_from c.args.coming.now c.loop-place.place c.index-coming-place.result c.loop-place-test.true c.index-coming-place.is c.loop-place.invariant)
    c.in-Err.ensures.fault
