use Rattle.std.proofs.Common.{◌≤◌, ◌++◌, ◌∙◌, ap, sym, Some, List, ℕ, length, take, arith}
use Rattle.tl_model.specs.Volume.{Volume, at, at-insert_here}
use Rattle.tl_model.specs.Seen.{Moment}
use Rattle.tl_journal_text.specs.declared.slot.Slot.{Slot}
use Rattle.tl_journal_text.specs.Stand.{bytes_at}
use Rattle.tl_journal.specs.Reading.{body_at, bytes_from}
use Rattle.tl_journal.proofs.Pieces.{filled, same_body_at}
use Rattle.tl_journal.proofs.Doing.{redoes_quiet, redoes_record}
use Rattle.tl_journal.proofs.redo.copy_piece.Goals as goal

pub returns-in_err-reach-clause-progress : goal.returns-in_err-reach-clause-progress
returns-in_err-reach-clause-progress g c t base among far = redoes_quiet base _ _ far (c.reach.ensures.quiet t)

pub returns-in_err-append-clause-progress : goal.returns-in_err-append-clause-progress
returns-in_err-append-clause-progress g c t base among far = redoes_record base _ _ _ _ among (redoes_quiet base _ _ far (c.reach.ensures.quiet t)) (c.append.ensures.change t)

pub returns-clause-progress : goal.returns-clause-progress
returns-clause-progress g c t base among far = redoes_record base _ _ _ _ among (redoes_quiet base _ _ far (c.reach.ensures.quiet t)) (c.append.ensures.change t)

pub returns-clause-copied : goal.returns-clause-copied
returns-clause-copied g c t =
    let s = g.H.Host.seen in
    let count = c.min-count.result in
    let text = sym (same_body_at c.args.body.now.slot (s c.args.host.now) (s c.reach.new.host) (c.reach.ensures.quiet t)) ∙ ap (λ (x : Slot). body_at x (s c.reach.new.host)) (sym c.reach.ensures.same.slot) in
    let few : count ≤ length (bytes_from c.reach.new.self c.args.from) = omega (arith, c.min-count.ensures, ap (λ (l : List ℕ). length l) c.bytes_from-part.ensures) in
    ap (λ (v : Volume). at v c.args.name) (c.in_ok-append.ensures.added t) ∙ at-insert_here _ c.args.name _
    ∙ ap (λ (m : Moment). Some (bytes_at m.held c.args.name ++ take count c.bytes_from-part.result.now)) (c.reach.ensures.quiet t).present
    ∙ ap (λ (l : List ℕ). Some (bytes_at (s c.args.host.now).present.held c.args.name ++ l)) (
    ap (λ (l : List ℕ). take count l) c.bytes_from-part.ensures
    ∙ filled c.reach.new.self (s c.reach.new.host) c.args.from count _ (c.in_ok-reach.ensures.part t) text few
    )
