use Rattle.std.proofs.Common.{◌≡◌, ◌∙◌, List, [], ◌∷◌, ◌++◌, sym, ap, subst, arith}
use Rattle.std.specs.Option.{unwrap_or, IsSome}
use Rattle.std.specs.FinMap as map
use Rattle.tl_model.specs.Volume.{Volume, at}
use Rattle.tl_memhost.specs.Memory.{Memory, changed}
use Rattle.tl_memhost.specs.Record.{memory}
use Rattle.tl_memhost.specs.declared.record.Did.TheVariants.{Grown}
use Rattle.tl_memhost.specs.declared.record.Entry.{Entry}
use Rattle.tl_memhost.proofs.Entered.{entry, grown_entered, counted_changed}
use Rattle.tl_memhost.proofs.host.MemHost.grow.Goals as goal

pub returns-clause-ok : goal.returns-clause-ok
returns-clause-ok c =
    let h = c.self.inside in
    let name = c.args.name.now in
    let some : IsSome (at h.files name) = subst (λ (m : Memory). IsSome (at m.present.held name)) (sym c.self.view_is) c.requires.present in
    let list : c.enter.new.record.items ≡ h.record.items ++ entry h.calls h.rest (Grown c.in_ok-grown.grown c.in_ok-length.length) ∷ [] = c.enter.ensures ∙ ap (λ (es : List Entry). es ++ entry h.calls h.rest (Grown c.in_ok-grown.grown c.in_ok-length.length) ∷ []) c.in_ok-reserve.ensures.items in
    grown_entered h.record.items _ c.in_ok-grown.grown c.args.bytes.now c.in_ok-length.length h.files c.append.new.self h.said.items h.rest h.calls _ h.short h.failing.items h.syncs h.faults name c.in_ok-grown.ensures some c.in_ok-length.ensures.length c.in_ok-length.ensures.ok list (omega arith)
    ∙ ap (λ (v : Volume). changed name v (memory h.record.items h.files h.said.items h.rest h.calls h.short h.failing.items h.syncs h.faults)) c.in_ok-length.ensures.ok
    ∙ ap (λ (m : Memory). changed name (map.insert m.present.held name (unwrap_or (at m.present.held name) [] ++ c.args.bytes.now)) m) c.self.view_is

pub invariant_of-self-2 : goal.invariant_of-self-2
invariant_of-self-2 c =
    let h = c.self.inside in
    let name = c.args.name.now in
    let some : IsSome (at h.files name) = subst (λ (m : Memory). IsSome (at m.present.held name)) (sym c.self.view_is) c.requires.present in
    let list : c.enter.new.record.items ≡ h.record.items ++ entry h.calls h.rest (Grown c.in_ok-grown.grown c.in_ok-length.length) ∷ [] = c.enter.ensures ∙ ap (λ (es : List Entry). es ++ entry h.calls h.rest (Grown c.in_ok-grown.grown c.in_ok-length.length) ∷ []) c.in_ok-reserve.ensures.items in
    (counted_changed _ _ name _ (grown_entered h.record.items _ c.in_ok-grown.grown c.args.bytes.now c.in_ok-length.length h.files c.append.new.self h.said.items h.rest h.calls _ h.short h.failing.items h.syncs h.faults name c.in_ok-grown.ensures some c.in_ok-length.ensures.length c.in_ok-length.ensures.ok list (omega arith)) c.self.invariant.0, c.self.invariant.1)
