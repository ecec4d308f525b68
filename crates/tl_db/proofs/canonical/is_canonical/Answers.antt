use Rattle.std.proofs.Common.{[], arith, sym}
use Rattle.std.specs.Prelude.{length}
use Rattle.std.proofs.lemmas.Bool.{eqb-true}
use Rattle.std.proofs.lemmas.List.{nil_from_length}
use Rattle.tl_db.proofs.CanonicalLemmas.{entries-start, entries-next, entries-whole, left-start, left-next, left-some, left-fails, left-full}
use Rattle.tl_db.proofs.canonical.is_canonical.Goals as goal

pub loop-last-init : goal.loop-last-init
loop-last-init c = record {
  front = entries-start c.args.text.now [];
  few = omega (arith);
  kept = left-start c.args.text.now;
}

pub loop-last-preserved : goal.loop-last-preserved
loop-last-preserved c =
    let l = c.loop-last in
    record {
      front = entries-next c.args.text.now l.rest.now c.in-Some.entry.rest.now l.last.now c.in-Some.entry.name.now l.count l.invariant.front c.in-Some.ensures.stands;
      few = omega (arith, l.invariant.few, c.if-count-eq-MOST_PACKAGES.false);
      kept = left-next c.args.text.now l.rest.now l.last.now c.in-Some.entry.name.now c.in-Some.entry.rest.now l.count l.invariant.kept (left-some l.rest.now c.is_empty.result c.is_empty.ensures c.loop-last-test.true) c.in-Some.ensures.finds;
    }

pub returns-then-count-eq-MOST_PACKAGES-clause-all : goal.returns-then-count-eq-MOST_PACKAGES-clause-all
returns-then-count-eq-MOST_PACKAGES-clause-all c =
    let l = c.loop-last in
    λ canonical. absurd (left-full c.args.text.now l.rest.now l.last.now l.count l.invariant.kept (left-some l.rest.now c.is_empty.result c.is_empty.ensures c.loop-last-test.true) c.if-count-eq-MOST_PACKAGES.true canonical)

pub returns-in_default-clause-all : goal.returns-in_default-clause-all
returns-in_default-clause-all c =
    let l = c.loop-last in
    λ canonical. absurd (left-fails c.args.text.now l.rest.now l.last.now l.count l.invariant.kept (left-some l.rest.now c.is_empty.result c.is_empty.ensures c.loop-last-test.true) c.in_default.ensures.finds canonical)

pub returns-clause-told : goal.returns-clause-told
returns-clause-told c =
    let l = c.loop-last in
    λ _. entries-whole c.args.text.now l.rest.now l.last.now l.count l.invariant.front (nil_from_length l.rest.now (eqb-true (length l.rest.now) 0 (sym c.loop-last-test.ensures))) l.invariant.few
