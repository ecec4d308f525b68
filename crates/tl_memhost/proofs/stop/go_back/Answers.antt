use Rattle.std.proofs.Common.{◌≡◌, ◌∙◌, ◌-◌, ◌<◌, ◌≤◌, suc, ℕ, take, reverse, sym, ap, subst, arith, refl}
use Rattle.std.proofs.lemmas.Bool.{le-leb, lt-leb}
use Rattle.tl_model.specs.Volume.{Volume}
use Rattle.tl_memhost.specs.Record.{unsaid, standing}
use Rattle.tl_memhost.proofs.Back.{IsBack, back_start, back_step, back_stop}
use Rattle.tl_memhost.proofs.stop.go_back.Goals as goal

pub loop-count-init : goal.loop-count-init
loop-count-init c = record { within = omega arith; back = λ said. (said, back_start c.args.call c.args.record.now c.args.files.now said _ refl) }

pub loop-count-preserved : goal.loop-count-preserved
loop-count-preserved c = record {
  within = omega (arith, c.loop-count.invariant.within);
  back = λ said.
      let i = c.loop-count.invariant.back said in
      let some : c.loop-count.count ≡ suc (c.loop-count.count - 1) = omega arith in
      let far : IsBack c.args.call c.args.record.now c.args.files.now said (suc (c.loop-count.count - 1)) c.loop-count.files i.0 = subst (λ (n : ℕ). IsBack c.args.call c.args.record.now c.args.files.now said n c.loop-count.files i.0) some i.1 in
      let le : c.args.call ≤ c.index-record-count.result.call = omega arith in
      (unsaid c.index-record-count.result.did i.0, subst (λ (v : Volume). IsBack c.args.call c.args.record.now c.args.files.now said (c.loop-count.count - 1) v (unsaid c.index-record-count.result.did i.0)) (sym c.in_ok-undo.ensures.ok) (back_step c.args.call c.args.record.now c.args.files.now said (c.loop-count.count - 1) c.loop-count.files i.0 c.index-record-count.result far c.index-record-count.is (le-leb _ _ le)));
}

pub returns-after-loop-count-clause-back : goal.returns-after-loop-count-clause-back
returns-after-loop-count-clause-back c = λ said.
    let i = c.loop-count.invariant.back said in
    let none : c.loop-count.count ≡ 0 = omega arith in
    let far : IsBack c.args.call c.args.record.now c.args.files.now said 0 c.loop-count.files i.0 = subst (λ (n : ℕ). IsBack c.args.call c.args.record.now c.args.files.now said n c.loop-count.files i.0) none i.1 in
    (i.0, far.same ∙ ap (λ (n : ℕ). standing (reverse (take n c.args.record.now)) c.loop-count.files i.0) (sym none))

pub returns-then-entry-call-clause-back : goal.returns-then-entry-call-clause-back
returns-then-entry-call-clause-back c = λ said.
    let i = c.loop-count.invariant.back said in
    let some : c.loop-count.count ≡ suc (c.loop-count.count - 1) = omega arith in
    let far : IsBack c.args.call c.args.record.now c.args.files.now said (suc (c.loop-count.count - 1)) c.loop-count.files i.0 = subst (λ (n : ℕ). IsBack c.args.call c.args.record.now c.args.files.now said n c.loop-count.files i.0) some i.1 in
    let lt : c.index-record-count.result.call < c.args.call = omega arith in (
      i.0,
      back_stop c.args.call c.args.record.now c.args.files.now said (c.loop-count.count - 1) c.loop-count.files i.0 c.index-record-count.result far c.index-record-count.is (lt-leb _ _ lt)
          ∙ ap (λ (n : ℕ). standing (reverse (take n c.args.record.now)) c.loop-count.files i.0) (sym some),
    )
