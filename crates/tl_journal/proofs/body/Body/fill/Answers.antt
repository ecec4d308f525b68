use Rattle.std.proofs.Common.{◌≤◌, ◌∙◌, ap, sym, List, ℕ, length, take, arith}
use Rattle.tl_journal_text.specs.declared.slot.Slot.{Slot}
use Rattle.tl_journal.specs.Reading.{body_at, bytes_from}
use Rattle.tl_journal.proofs.Pieces.{filled, same_body_at}
use Rattle.tl_journal.proofs.body.Body.fill.Goals as goal

pub returns-clause-bytes : goal.returns-clause-bytes
returns-clause-bytes g c t whole =
    let s = g.H.Host.seen in
    let count = length c.args.into.now in
    let text = sym (same_body_at c.args.self.now.slot (s c.args.host.now) (s c.reach.new.host) (c.reach.ensures.quiet t)) ∙ ap (λ (x : Slot). body_at x (s c.reach.new.host)) (sym c.reach.ensures.same.slot) in
    let long : count ≤ length (bytes_from c.reach.new.self c.args.from) = omega (arith, c.if-part-count.false, ap (λ (l : List ℕ). length l) c.bytes_from-part.ensures) in
    c.copy_from_slice.ensures.after
    ∙ ap (λ (l : List ℕ). take count l) c.bytes_from-part.ensures
    ∙ filled c.reach.new.self (s c.reach.new.host) c.args.from count _ (c.in_ok-reach.ensures.part t) text long
