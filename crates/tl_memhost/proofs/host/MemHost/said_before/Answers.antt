use Rattle.std.proofs.Common.{◌≡◌, ◌∙◌, ◌-◌, ◌<◌, ◌≤◌, suc, ℕ, length, sym, ap, subst, arith}
use Rattle.std.proofs.lemmas.Bool.{le-leb, lt-leb}
use Rattle.tl_memhost.specs.Memory.{Memory, Standing, before_call}
use Rattle.tl_memhost.specs.Record.{unheld, unsaid}
use Rattle.tl_memhost.proofs.Back.{IsBack, back_start, back_step, back_stop}
use Rattle.tl_memhost.proofs.host.MemHost.said_before.Goals as goal

pub loop-left-init : goal.loop-left-init
loop-left-init c = (c.self.inside.files, c.self.inside.said.items, ap length c.as_slice-said.ensures.value, back_start c.args.call c.self.inside.record.items c.self.inside.files c.self.inside.said.items _ (ap length c.as_slice-left.ensures.value))

pub index-entry-requires : goal.index-entry-requires
index-entry-requires c =
    let within = c.loop-left.invariant.3.within in
    let items : length c.as_slice-left.result.now ≡ length c.self.inside.record.items = ap length c.as_slice-left.ensures.value in
    omega (arith, c.as_slice-left.ensures.len, within)

pub loop-left-preserved : goal.loop-left-preserved
loop-left-preserved c =
    let i = c.loop-left.invariant in
    let some : c.loop-left.left ≡ suc (c.loop-left.left - 1) = omega arith in
    let far : IsBack c.args.call c.self.inside.record.items c.self.inside.files c.self.inside.said.items (suc (c.loop-left.left - 1)) i.0 i.1 = subst (λ (n : ℕ). IsBack c.args.call c.self.inside.record.items c.self.inside.files c.self.inside.said.items n i.0 i.1) some i.3 in
    let le : c.args.call ≤ c.index-entry.result.now.call = omega arith in
    (unheld c.index-entry.result.now.did i.0, unsaid c.index-entry.result.now.did i.1, c.unsaid-said.ensures i.1 i.2, back_step c.args.call c.self.inside.record.items c.self.inside.files c.self.inside.said.items (c.loop-left.left - 1) i.0 i.1 c.index-entry.result.now far c.index-entry.ensures (le-leb _ _ le))

pub returns-then-entry-call : goal.returns-then-entry-call
returns-then-entry-call c =
    let i = c.loop-left.invariant in
    let some : c.loop-left.left ≡ suc (c.loop-left.left - 1) = omega arith in
    let far : IsBack c.args.call c.self.inside.record.items c.self.inside.files c.self.inside.said.items (suc (c.loop-left.left - 1)) i.0 i.1 = subst (λ (n : ℕ). IsBack c.args.call c.self.inside.record.items c.self.inside.files c.self.inside.said.items n i.0 i.1) some i.3 in
    let lt : c.index-entry.result.now.call < c.args.call = omega arith in
    i.2 ∙ sym (ap (λ (s : Standing). length s.said) (back_stop c.args.call c.self.inside.record.items c.self.inside.files c.self.inside.said.items (c.loop-left.left - 1) i.0 i.1 c.index-entry.result.now far c.index-entry.ensures (lt-leb _ _ lt)))
    ∙ ap (λ (m : Memory). length (before_call m c.args.call).said) c.self.view_is

pub returns-after-loop-left : goal.returns-after-loop-left
returns-after-loop-left c =
    let i = c.loop-left.invariant in
    let none : c.loop-left.left ≡ 0 = omega arith in
    let far : IsBack c.args.call c.self.inside.record.items c.self.inside.files c.self.inside.said.items 0 i.0 i.1 = subst (λ (n : ℕ). IsBack c.args.call c.self.inside.record.items c.self.inside.files c.self.inside.said.items n i.0 i.1) none i.3 in
    i.2 ∙ sym (ap (λ (s : Standing). length s.said) far.same)
    ∙ ap (λ (m : Memory). length (before_call m c.args.call).said) c.self.view_is
