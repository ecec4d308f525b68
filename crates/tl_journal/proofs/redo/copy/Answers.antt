use Rattle.std.proofs.Common.{◌≡◌, ◌+◌, ◌++◌, ◌∙◌, sym, subst, Some, take, drop, arith}
use Rattle.tl_model.specs.Volume.{Name, at, SameBut}
use Rattle.tl_journal_text.specs.Records.{IsAmong}
use Rattle.tl_journal.specs.States.{pending}
use Rattle.tl_journal_text.specs.declared.slot.Slot.{Slot}
use Rattle.tl_journal_text.specs.Stand.{bytes_at}
use Rattle.tl_journal_text.proofs.Acts.{same_but_join}
use Rattle.tl_journal.specs.Reading.{body_at}
use Rattle.tl_journal.proofs.Doing.{piece_more}
use Rattle.tl_journal.proofs.redo.copy.Goals as goal

pub loop-done-preserved : goal.loop-done-preserved
loop-done-preserved g c =
    let s = g.H.Host.seen in
    let inv = c.loop-done.invariant in
    record {
      within = omega (arith, c.in_ok-count.ensures.most);
      same = record { slot = c.copy_piece.ensures.same.slot ∙ inv.same.slot; size = c.copy_piece.ensures.same.size ∙ inv.same.size };
      faults = omega arith;
      part = λ t. c.in_ok-count.ensures.part t;
      progress = λ t base among far. c.copy_piece.ensures.progress t base (subst (λ (n : Name). IsAmong n (pending base.present.held)) (sym c.again.ensures) among) (inv.progress t base among far);
      others = λ t. same_but_join (s c.args.host.now).present.held (s c.loop-done.host).present.held (s c.copy_piece.new.host).present.held c.args.name (inv.others t) (subst (λ (n : Name). SameBut n (s c.loop-done.host).present.held (s c.copy_piece.new.host).present.held) c.again.ensures (c.copy_piece.ensures.others t));
      copied = λ t.
          let mid = s c.loop-done.host in
          let copied = subst (λ (x : Slot). at (s c.copy_piece.new.host).present.held c.args.name ≡ Some (bytes_at mid.present.held c.args.name ++ take c.in_ok-count.count (drop (c.args.from + c.loop-done.done) (body_at x mid)))) inv.same.slot
          (subst (λ (n : Name). at (s c.copy_piece.new.host).present.held n ≡ Some (bytes_at mid.present.held n ++ take c.in_ok-count.count (drop (c.args.from + c.loop-done.done) (body_at c.loop-done.body.slot mid)))) c.again.ensures (c.in_ok-count.ensures.copied t)) in
          piece_more (s c.args.host.now).present.held mid.present.held (s c.copy_piece.new.host).present.held c.args.body.now.slot c.args.name c.args.from c.loop-done.done c.in_ok-count.count (c.requires.apart t) (inv.others t) (inv.copied t) copied;
    }
