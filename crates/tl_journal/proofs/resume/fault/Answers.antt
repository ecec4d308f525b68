use Rattle.std.proofs.Common.{◌+◌, ◌∙◌, subst, List, ℕ, arith}
use Rattle.tl_model.specs.Pictures.{quiet_start, quiet_join}
use Rattle.tl_journal_text.proofs.Turns.{reach_start, reach_more, reach_end, reach_fault}
use Rattle.tl_journal.specs.Items.{IsItem, IsInside}
use Rattle.tl_journal.specs.Reading.{body_at}
use Rattle.tl_journal.specs.declared.fields.Item.{Item}
use Rattle.tl_journal.proofs.Pieces.{same_text}
use Rattle.tl_journal.proofs.resume.fault.Goals as goal

pub loop-place-init : goal.loop-place-init
loop-place-init g c = record {
  within = omega arith;
  same = record { slot = λ _. c.args.body.now.slot; size = λ _. c.args.body.now.size };
  faults = omega arith;
  quiet = λ t. quiet_start _;
  part = c.requires;
  reaches = λ t. reach_start _;
}

pub returns-in_err-next-clause-quiet : goal.returns-in_err-next-clause-quiet
returns-in_err-next-clause-quiet g c t = quiet_join _ _ _ (c.loop-place.invariant.quiet t) (c.next.ensures.quiet t)

pub returns-in-End-clause-quiet : goal.returns-in-End-clause-quiet
returns-in-End-clause-quiet g c t = quiet_join _ _ _ (c.loop-place.invariant.quiet t) (c.next.ensures.quiet t)

pub returns-in-Faulty-clause-quiet : goal.returns-in-Faulty-clause-quiet
returns-in-Faulty-clause-quiet g c t = quiet_join _ _ _ (c.loop-place.invariant.quiet t) (c.next.ensures.quiet t)

pub returns-in-End-clause-reading : goal.returns-in-End-clause-reading
returns-in-End-clause-reading g c t =
    let s = g.H.Host.seen in
    let inv = c.loop-place.invariant in
    let bytes = body_at c.args.body.now.slot (s c.args.host.now) in
    let text = same_text (s c.args.host.now) (s c.loop-place.host) c.args.body.now c.loop-place.body (inv.quiet t) inv.same in
    let item = subst (λ (l : List ℕ). IsItem l c.loop-place.from c.next.new.name c.in_ok-next.field-0) text (c.in_ok-next.ensures.item t) in
    let is = subst (λ (i : Item). IsItem bytes c.loop-place.from c.next.new.name i) c.in-End.is item in
    ((inv.reaches t).done, reach_end bytes c.loop-place.from (inv.reaches t) is)

pub returns-in-Faulty-clause-reading : goal.returns-in-Faulty-clause-reading
returns-in-Faulty-clause-reading g c t =
    let s = g.H.Host.seen in
    let inv = c.loop-place.invariant in
    let bytes = body_at c.args.body.now.slot (s c.args.host.now) in
    let text = same_text (s c.args.host.now) (s c.loop-place.host) c.args.body.now c.loop-place.body (inv.quiet t) inv.same in
    let item = subst (λ (l : List ℕ). IsItem l c.loop-place.from c.next.new.name c.in_ok-next.field-0) text (c.in_ok-next.ensures.item t) in
    let is = subst (λ (i : Item). IsItem bytes c.loop-place.from c.next.new.name i) c.in-Faulty.is item in
    reach_fault bytes c.loop-place.from c.in-Faulty.place (inv.reaches t) is

pub loop-place-preserved-in-Remove : goal.loop-place-preserved-in-Remove
loop-place-preserved-in-Remove g c =
    let s = g.H.Host.seen in
    let inv = c.loop-place.invariant in
    let size = inv.same.size in
    let inside = subst (λ (i : Item). IsInside c.loop-place.body.size c.loop-place.from c.next.new.name i) c.in-Remove.is c.in_ok-next.ensures.inside in
    record {
      within = omega (arith, inside.1, size);
      same = record { slot = c.next.ensures.same.slot ∙ inv.same.slot; size = c.next.ensures.same.size ∙ inv.same.size };
      faults = omega arith;
      quiet = λ t. quiet_join _ _ _ (inv.quiet t) (c.next.ensures.quiet t);
      part = λ t. c.in_ok-next.ensures.part t;
      reaches = λ t.
          let bytes = body_at c.args.body.now.slot (s c.args.host.now) in
          let text = same_text (s c.args.host.now) (s c.loop-place.host) c.args.body.now c.loop-place.body (inv.quiet t) inv.same in
          let item = subst (λ (l : List ℕ). IsItem l c.loop-place.from c.next.new.name c.in_ok-next.field-0) text (c.in_ok-next.ensures.item t) in
          let is = subst (λ (i : Item). IsItem bytes c.loop-place.from c.next.new.name i) c.in-Remove.is item in
          let len = (c.requires t).size in
          reach_more bytes c.loop-place.from c.in-Remove.rest _ inside.0 (omega (arith, inside.1, size, len)) (inv.reaches t) is;
    }

pub loop-place-preserved : goal.loop-place-preserved
loop-place-preserved g c =
    let s = g.H.Host.seen in
    let inv = c.loop-place.invariant in
    let size = inv.same.size in
    let inside = subst (λ (i : Item). IsInside c.loop-place.body.size c.loop-place.from c.next.new.name i) c.in-Write.is c.in_ok-next.ensures.inside in
    record {
      within = omega (arith, inside.1, size);
      same = record { slot = c.next.ensures.same.slot ∙ inv.same.slot; size = c.next.ensures.same.size ∙ inv.same.size };
      faults = omega arith;
      quiet = λ t. quiet_join _ _ _ (inv.quiet t) (c.next.ensures.quiet t);
      part = λ t. c.in_ok-next.ensures.part t;
      reaches = λ t.
          let bytes = body_at c.args.body.now.slot (s c.args.host.now) in
          let text = same_text (s c.args.host.now) (s c.loop-place.host) c.args.body.now c.loop-place.body (inv.quiet t) inv.same in
          let item = subst (λ (l : List ℕ). IsItem l c.loop-place.from c.next.new.name c.in_ok-next.field-0) text (c.in_ok-next.ensures.item t) in
          let is = subst (λ (i : Item). IsItem bytes c.loop-place.from c.next.new.name i) c.in-Write.is item in
          let len = (c.requires t).size in
          reach_more bytes c.loop-place.from (c.in-Write.start + c.in-Write.size) _ inside.0 (omega (arith, inside.1, size, len)) (inv.reaches t) is;
    }
