use Rattle.std.proofs.Common.{◌≢◌, sym, take, subst}
use Rattle.tl_model.specs.Volume.{Name}
use Rattle.tl_journal_text.specs.Records.{IsAmong}
use Rattle.tl_journal.specs.States.{pending}
use Rattle.tl_journal_text.specs.Body.{Next}
use Rattle.tl_journal_text.specs.Slots.{body_of}
use Rattle.tl_journal.specs.Items.{IsItem, IsInside}
use Rattle.tl_journal.specs.Acting.{MayAct}
use Rattle.tl_journal.specs.Reading.{body_at}
use Rattle.tl_journal.specs.declared.fields.Item.{Item}
use Rattle.tl_journal.proofs.Doing.{redoes_quiet, redoes_record, target_apart, part_apart}
use Rattle.tl_journal.proofs.redo.step.Goals as goal

pub returns-in_err-next-clause-progress : goal.returns-in_err-next-clause-progress
returns-in_err-next-clause-progress g c t base far may = redoes_quiet base _ _ far (c.next.ensures.quiet t)

pub returns-in-End-clause-progress : goal.returns-in-End-clause-progress
returns-in-End-clause-progress g c t base far may = redoes_quiet base _ _ far (c.next.ensures.quiet t)

pub returns-in-Faulty-clause-progress : goal.returns-in-Faulty-clause-progress
returns-in-Faulty-clause-progress g c t base far may = redoes_quiet base _ _ far (c.next.ensures.quiet t)

pub returns-in_err-remove-in-Remove-clause-progress : goal.returns-in_err-remove-in-Remove-clause-progress
returns-in_err-remove-in-Remove-clause-progress g c t base far may =
    let bytes = body_at c.args.body.now.slot (g.H.Host.seen c.args.host.now) in
    let is = subst (λ (i : Item). IsItem bytes c.args.from c.next.new.name i) c.in-Remove.is (c.in_ok-next.ensures.item t) in
    let among = subst (λ (n : Name). IsAmong n (pending base.present.held)) (sym c.target.ensures) (subst (λ (x : Next). MayAct base x) is may) in
    redoes_record base _ _ _ _ among (redoes_quiet base _ _ far (c.next.ensures.quiet t)) (c.remove.ensures.change t)

pub returns-in_ok-remove-in-Remove-clause-progress : goal.returns-in_ok-remove-in-Remove-clause-progress
returns-in_ok-remove-in-Remove-clause-progress g c t base far may =
    let bytes = body_at c.args.body.now.slot (g.H.Host.seen c.args.host.now) in
    let is = subst (λ (i : Item). IsItem bytes c.args.from c.next.new.name i) c.in-Remove.is (c.in_ok-next.ensures.item t) in
    let among = subst (λ (n : Name). IsAmong n (pending base.present.held)) (sym c.target.ensures) (subst (λ (x : Next). MayAct base x) is may) in
    redoes_record base _ _ _ _ among (redoes_quiet base _ _ far (c.next.ensures.quiet t)) (c.remove.ensures.change t)

pub returns-in_ok-remove-in-Remove-clause-part : goal.returns-in_ok-remove-in-Remove-clause-part
returns-in_ok-remove-in-Remove-clause-part g c t =
    let s = g.H.Host.seen in
    let inside = subst (λ (i : Item). IsInside c.args.body.now.size c.args.from c.next.new.name i) c.in-Remove.is c.in_ok-next.ensures.inside in
    let apart = subst (λ (n : Name). n ≢ body_of c.next.new.body.slot) (sym c.target.ensures) (target_apart c.next.new.body.slot (take c.in-Remove.count c.next.new.name) inside.3) in
    part_apart (s c.next.new.host) (s c.remove.new.self) c.next.new.body c.target.result apart (c.remove.ensures.change t).others (c.in_ok-next.ensures.part t)

pub write-requires-clause-apart : goal.write-requires-clause-apart
write-requires-clause-apart g c t =
    let inside = subst (λ (i : Item). IsInside c.args.body.now.size c.args.from c.next.new.name i) c.in-Write.is c.in_ok-next.ensures.inside in
    subst (λ (n : Name). n ≢ body_of c.next.new.body.slot) (sym c.target-in-Write.ensures) (target_apart c.next.new.body.slot (take c.in-Write.count c.next.new.name) inside.3)

pub returns-in_err-write-in-Write-clause-progress : goal.returns-in_err-write-in-Write-clause-progress
returns-in_err-write-in-Write-clause-progress g c t base far may =
    let bytes = body_at c.args.body.now.slot (g.H.Host.seen c.args.host.now) in
    let is = subst (λ (i : Item). IsItem bytes c.args.from c.next.new.name i) c.in-Write.is (c.in_ok-next.ensures.item t) in
    let among = subst (λ (n : Name). IsAmong n (pending base.present.held)) (sym c.target-in-Write.ensures) (subst (λ (x : Next). MayAct base x) is may) in
    c.write.ensures.progress t base among (redoes_quiet base _ _ far (c.next.ensures.quiet t))

pub returns-in_ok-write-in-Write-clause-progress : goal.returns-in_ok-write-in-Write-clause-progress
returns-in_ok-write-in-Write-clause-progress g c t base far may =
    let bytes = body_at c.args.body.now.slot (g.H.Host.seen c.args.host.now) in
    let is = subst (λ (i : Item). IsItem bytes c.args.from c.next.new.name i) c.in-Write.is (c.in_ok-next.ensures.item t) in
    let among = subst (λ (n : Name). IsAmong n (pending base.present.held)) (sym c.target-in-Write.ensures) (subst (λ (x : Next). MayAct base x) is may) in
    c.write.ensures.progress t base among (redoes_quiet base _ _ far (c.next.ensures.quiet t))
