use Rattle.std.proofs.Common.{◌≡◌, ℕ, true, List, Vec, Result, Ok, Err, ◌∙◌, ap, subst, sym, get_or}
use Rattle.std.specs.declared.alloc.Global.{Global}
use Rattle.std.specs.Result.{IfOk}
use Rattle.tl_entry.specs.Rising.{is_rising}
use Rattle.tl_pattern.specs.Hits.{chosen}
use Rattle.tl_index.specs.declared.hit.Hit.{Hit}
use Rattle.tl_index.specs.Entries.{path_of}
use Rattle.tl_index.specs.Select.{at_places}
use Rattle.tl_index.proofs.EntryLemmas.{rising_filter}
use Rattle.tl_index.proofs.SelectLemmas.{ChosenSoFar, chosen_none, chosen_more, ticks_within, all_chosen, ok_items, same_item}
use Rattle.tl_index.proofs.index.Index.select.Goals as goal

rising_items : {E : Type 0} (r : Result (Vec Hit Global) E) (xs : List Hit) → is_rising path_of xs ≡ true → IfOk r (λ v. v.items ≡ xs)
    → IfOk r (λ v. is_rising path_of v.items ≡ true)
rising_items (Ok v) xs up is = ap (is_rising path_of) is ∙ up
rising_items (Err e) xs up is = tt

pub loop-placed-init : goal.loop-placed-init
loop-placed-init g c =
    let count = g.L.Ledger.count c.args.steps.now in
    subst (λ (places : List ℕ). ChosenSoFar c.args.patterns.now c.args.self.now 0 places count count) (sym c.new-places.ensures) (chosen_none c.args.patterns.now c.args.self.now count)

pub returns-in_err-apply-clause-ticks : goal.returns-in_err-apply-clause-ticks
returns-in_err-apply-clause-ticks g c =
    let patterns = c.args.patterns.now in
    let i = c.loop-placed.placed-index in
    let item = c.placed-item.result in
    let is = c.placed-item.is in
    ticks_within patterns c.args.self.now i item c.loop-placed.places _ _ _ c.loop-placed-test.true is c.apply.ensures.ticks c.loop-placed.invariant

pub loop-placed-preserved : goal.loop-placed-preserved
loop-placed-preserved g c =
    let patterns = c.args.patterns.now in
    let i = c.loop-placed.placed-index in
    let item = c.placed-item.result in
    let is = c.placed-item.is in
    chosen_more patterns c.args.self.now i item c.loop-placed.places c.apply.new.places _ _ _ c.loop-placed-test.true is c.in_ok-apply.ensures.applied c.apply.ensures.ticks c.loop-placed.invariant

pub returns-clause-hits : goal.returns-clause-hits
returns-clause-hits g c = ok_items c.hits_at.result _ _
    (ap (λ (hits : List Hit). at_places c.loop-placed.places hits) c.hits.ensures.hits
    ∙ all_chosen c.args.patterns.now c.args.self.now c.loop-placed.placed-index c.loop-placed.places _ _ c.loop-placed-test.false c.hits_at.ensures.order c.loop-placed.invariant) c.hits_at.ensures.hits

pub returns-clause-order : goal.returns-clause-order
returns-clause-order g c = rising_items c.hits_at.result _
    (rising_filter (λ (h : Hit). chosen c.args.patterns.now h.path) c.args.self.now c.hits.ensures.rising) (returns-clause-hits g c)
