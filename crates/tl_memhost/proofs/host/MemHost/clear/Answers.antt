use Rattle.std.proofs.Common.{◌≡◌, ◌∙◌, List, [], ◌∷◌, ◌++◌, ap, arith}
use Rattle.std.specs.FinMap as map
use Rattle.tl_model.specs.Volume.{Volume, SameBut, at, at-remove_apart}
use Rattle.tl_memhost.specs.Memory.{Memory, changed}
use Rattle.tl_memhost.specs.Record.{memory}
use Rattle.tl_memhost.specs.declared.record.Did.TheVariants.{Put}
use Rattle.tl_memhost.specs.declared.record.Entry.{Entry}
use Rattle.tl_memhost.proofs.Entered.{entry, put_entered, counted_changed}
use Rattle.tl_memhost.proofs.host.MemHost.clear.Goals as goal

pub returns-clause-ok : goal.returns-clause-ok
returns-clause-ok c =
    let h = c.self.inside in
    let name = c.args.name.now in
    let new : c.remove-before.new.self ≡ map.remove h.files name = c.remove-before.ensures.removed in
    let same : SameBut name h.files c.remove-before.new.self = λ other ne. ap (λ (v : Volume). at v other) new ∙ at-remove_apart h.files name other ne in
    let list : c.enter.new.record.items ≡ h.record.items ++ entry h.calls h.rest (Put c.in_ok-gone.gone c.remove-before.result) ∷ [] = c.enter.ensures ∙ ap (λ (es : List Entry). es ++ entry h.calls h.rest (Put c.in_ok-gone.gone c.remove-before.result) ∷ []) c.in_ok-reserve.ensures.items in
    put_entered h.record.items _ c.in_ok-gone.gone c.remove-before.result h.files c.remove-before.new.self h.said.items h.rest h.calls _ h.short h.failing.items h.syncs h.faults name c.in_ok-gone.ensures c.remove-before.ensures.before same list (omega arith)
    ∙ ap (λ (v : Volume). changed name v (memory h.record.items h.files h.said.items h.rest h.calls h.short h.failing.items h.syncs h.faults)) new
    ∙ ap (λ (m : Memory). changed name (map.remove m.present.held name) m) c.self.view_is

pub invariant_of-self-2 : goal.invariant_of-self-2
invariant_of-self-2 c =
    let h = c.self.inside in
    let name = c.args.name.now in
    let new : c.remove-before.new.self ≡ map.remove h.files name = c.remove-before.ensures.removed in
    let same : SameBut name h.files c.remove-before.new.self = λ other ne. ap (λ (v : Volume). at v other) new ∙ at-remove_apart h.files name other ne in
    let list : c.enter.new.record.items ≡ h.record.items ++ entry h.calls h.rest (Put c.in_ok-gone.gone c.remove-before.result) ∷ [] = c.enter.ensures ∙ ap (λ (es : List Entry). es ++ entry h.calls h.rest (Put c.in_ok-gone.gone c.remove-before.result) ∷ []) c.in_ok-reserve.ensures.items in
    (counted_changed _ _ name _ (put_entered h.record.items _ c.in_ok-gone.gone c.remove-before.result h.files c.remove-before.new.self h.said.items h.rest h.calls _ h.short h.failing.items h.syncs h.faults name c.in_ok-gone.ensures c.remove-before.ensures.before same list (omega arith)) c.self.invariant.0, c.self.invariant.1)
