use Rattle.std.proofs.Common.{◌≡◌, ◌+◌, ◌≤◌, false, sym, subst, arith}
use Rattle.std.specs.FinSet as set
use Rattle.tl_model.specs.Volume.{Name, at}
use Rattle.tl_model.specs.Seen.{Could}
use Rattle.tl_memhost.specs.Memory.{Memory, seen, before_call}
use Rattle.tl_memhost.proofs.Filled.{left_apart}
use Rattle.tl_memhost.proofs.Picture.{could_be_left}
use Rattle.tl_memhost.proofs.host.MemHost.stop_at.Goals as goal

pub returns-in-Ok-clause-picture : goal.returns-in-Ok-clause-picture
returns-in-Ok-clause-picture c = λ t low.
    let h = c.self.inside in
    let image = c.in-Ok.host.present.held in
    let le : c.args.call ≤ h.calls = omega arith in
    let low_here : t + h.short ≤ c.args.call = subst (λ (m : Memory). t + m.short ≤ c.args.call) (sym c.self.view_is) low in
    let others : (name : Name) → set.contains (before_call c.args.self.now c.args.call).touched name ≡ false → at image name ≡ at (before_call c.args.self.now c.args.call).held name =
    left_apart c.args.choice.now (before_call c.args.self.now c.args.call) image c.in-Ok.ensures.left in
    subst (λ (m : Memory). Could (seen m) t image (before_call m c.args.call).said) c.self.view_is
    (could_be_left h.record.items h.files h.said.items h.rest h.calls h.short h.failing.items h.syncs h.faults c.args.call t image c.self.invariant.0 le low_here
    (subst (λ (m : Memory). (name : Name) → set.contains (before_call m c.args.call).touched name ≡ false → at image name ≡ at (before_call m c.args.call).held name) (sym c.self.view_is) others))
