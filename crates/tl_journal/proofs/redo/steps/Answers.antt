use Rattle.std.proofs.Common.{◌≤◌, ◌<◌, ◌∙◌, ap, sym, subst, Option, Some, None, IfSome, ℕ, length, drop, arith}
use Rattle.tl_journal_text.specs.declared.slot.Slot.{Slot}
use Rattle.tl_journal_text.specs.Body.{next}
use Rattle.tl_journal.specs.Acting.{Acted, MayAct}
use Rattle.tl_journal.specs.Reading.{body_at}
use Rattle.tl_journal.proofs.Doing.{doing_start, doing_may, doing_more, doing_done}
use Rattle.tl_journal.proofs.redo.steps.Goals as goal

pub loop-rest-init : goal.loop-rest-init
loop-rest-init g c = record {
  within = omega arith;
  same = record { slot = λ _. c.args.body.now.slot; size = λ _. c.args.body.now.size };
  faults = omega arith;
  part = c.requires.part;
  doing = λ t. doing_start _ _ (c.requires.live t) (c.requires.opened t);
}

pub returns-in_err-rest-clause-redoes : goal.returns-in_err-rest-clause-redoes
returns-in_err-rest-clause-redoes g c t =
    let s = g.H.Host.seen in
    let doing = c.loop-rest.invariant.doing t in
    let may = subst (λ (x : Slot). MayAct (s c.args.host.now) (next c.loop-rest.from (drop c.loop-rest.from (body_at x (s c.loop-rest.host))))) (sym c.loop-rest.invariant.same.slot) (doing_may _ _ _ c.loop-rest.from doing) in
    c.step.ensures.progress t _ doing.progress may

pub returns-in-None-clause-redoes : goal.returns-in-None-clause-redoes
returns-in-None-clause-redoes g c t =
    let s = g.H.Host.seen in
    let doing = c.loop-rest.invariant.doing t in
    let may = subst (λ (x : Slot). MayAct (s c.args.host.now) (next c.loop-rest.from (drop c.loop-rest.from (body_at x (s c.loop-rest.host))))) (sym c.loop-rest.invariant.same.slot) (doing_may _ _ _ c.loop-rest.from doing) in
    c.step.ensures.progress t _ doing.progress may

pub loop-rest-preserved : goal.loop-rest-preserved
loop-rest-preserved g c =
    let s = g.H.Host.seen in
    let inv = c.loop-rest.invariant in
    let size = inv.same.size in
    let inside = subst (λ (o : Option ℕ). IfSome o (λ rest. (c.loop-rest.from < rest) × (rest ≤ c.loop-rest.body.size))) c.in-Some.is c.in_ok-rest.ensures.inside in
    record {
      within = omega (arith, inside.1, size);
      same = record { slot = c.step.ensures.same.slot ∙ inv.same.slot; size = c.step.ensures.same.size ∙ inv.same.size };
      faults = omega arith;
      part = λ t. c.in_ok-rest.ensures.part t;
      doing = λ t.
          let doing = inv.doing t in
          let slots = inv.same.slot in
          let may = subst (λ (x : Slot). MayAct (s c.args.host.now) (next c.loop-rest.from (drop c.loop-rest.from (body_at x (s c.loop-rest.host))))) (sym slots) (doing_may _ _ _ c.loop-rest.from doing) in
          let progress = c.step.ensures.progress t (s c.args.host.now) doing.progress may in
          let acted = subst (λ (o : Option ℕ). Acted (body_at c.loop-rest.body.slot (s c.loop-rest.host)) c.loop-rest.from (s c.loop-rest.host).present.held (s c.step.new.host).present.held o) c.in-Some.is (c.in_ok-rest.ensures.acted t) in
          let acts = subst (λ (x : Slot). Acted (body_at x (s c.loop-rest.host)) c.loop-rest.from (s c.loop-rest.host).present.held (s c.step.new.host).present.held (Some c.in-Some.rest)) slots acted in
          let len = (inv.part t).size ∙ ap (λ (x : Slot). length (body_at x (s c.loop-rest.host))) slots in
          doing_more (s c.args.host.now) (s c.loop-rest.host) (s c.step.new.host) c.args.body.now.slot c.loop-rest.from c.in-Some.rest doing progress acts inside.0 (omega (arith, inside.1, len));
    }

pub returns-in-None-clause-clean : goal.returns-in-None-clause-clean
returns-in-None-clause-clean g c t =
    let s = g.H.Host.seen in
    let inv = c.loop-rest.invariant in
    let doing = inv.doing t in
    let may = subst (λ (x : Slot). MayAct (s c.args.host.now) (next c.loop-rest.from (drop c.loop-rest.from (body_at x (s c.loop-rest.host))))) (sym inv.same.slot) (doing_may _ _ _ c.loop-rest.from doing) in
    let progress = c.step.ensures.progress t (s c.args.host.now) doing.progress may in
    let acted = subst (λ (o : Option ℕ). Acted (body_at c.loop-rest.body.slot (s c.loop-rest.host)) c.loop-rest.from (s c.loop-rest.host).present.held (s c.step.new.host).present.held o) c.in-None.is (c.in_ok-rest.ensures.acted t) in
    let stops = subst (λ (x : Slot). Acted (body_at x (s c.loop-rest.host)) c.loop-rest.from (s c.loop-rest.host).present.held (s c.step.new.host).present.held None) inv.same.slot acted in
    doing_done (s c.args.host.now) (s c.loop-rest.host) (s c.step.new.host) c.args.body.now.slot c.loop-rest.from doing stops.0 stops.1 progress.keeps
