use Rattle.std.proofs.Common.{◌≡◌, ◌∙◌, List, [], ◌∷◌, ◌++◌, ap, arith}
use Rattle.std.specs.FinMap as map
use Rattle.tl_model.specs.Volume.{Name, Volume, SameBut, at, at-insert_apart}
use Rattle.tl_memhost.specs.Memory.{Memory, changed}
use Rattle.tl_memhost.specs.Record.{memory}
use Rattle.tl_memhost.specs.declared.record.Did.TheVariants.{Put}
use Rattle.tl_memhost.specs.declared.record.Entry.{Entry}
use Rattle.tl_memhost.proofs.Held.{contents}
use Rattle.tl_memhost.proofs.Entered.{entry, put_entered, counted_changed}
use Rattle.tl_memhost.proofs.host.MemHost.make.Goals as goal

pub returns-clause-ok : goal.returns-clause-ok
returns-clause-ok c =
    let h = c.self.inside in
    let name = c.args.name.now in
    let new : c.insert.new.self ≡ map.insert h.files name [] = c.in_ok-before.ensures.ok ∙ ap (λ (n : Name). map.insert h.files n c.new.result.items) c.in_ok-key.ensures.items ∙ ap (map.insert h.files name) c.new.ensures.items in
    let same : SameBut name h.files c.insert.new.self = λ other ne. ap (λ (v : Volume). at v other) new ∙ at-insert_apart h.files name [] other ne in
    let before : contents c.in_ok-before.before ≡ at h.files name = c.in_ok-before.ensures.before ∙ ap (λ (n : Name). at h.files n) c.in_ok-key.ensures.items in
    let list : c.enter.new.record.items ≡ h.record.items ++ entry h.calls h.rest (Put c.in_ok-name.name c.in_ok-before.before) ∷ [] = c.enter.ensures ∙ ap (λ (es : List Entry). es ++ entry h.calls h.rest (Put c.in_ok-name.name c.in_ok-before.before) ∷ []) c.in_ok-reserve.ensures.items in
    put_entered h.record.items _ c.in_ok-name.name c.in_ok-before.before h.files c.insert.new.self h.said.items h.rest h.calls _ h.short h.failing.items h.syncs h.faults name c.in_ok-name.ensures before same list (omega arith)
    ∙ ap (λ (v : Volume). changed name v (memory h.record.items h.files h.said.items h.rest h.calls h.short h.failing.items h.syncs h.faults)) new
    ∙ ap (λ (m : Memory). changed name (map.insert m.present.held name []) m) c.self.view_is

pub invariant_of-self-2 : goal.invariant_of-self-2
invariant_of-self-2 c =
    let h = c.self.inside in
    let name = c.args.name.now in
    let new : c.insert.new.self ≡ map.insert h.files name [] = c.in_ok-before.ensures.ok ∙ ap (λ (n : Name). map.insert h.files n c.new.result.items) c.in_ok-key.ensures.items ∙ ap (map.insert h.files name) c.new.ensures.items in
    let same : SameBut name h.files c.insert.new.self = λ other ne. ap (λ (v : Volume). at v other) new ∙ at-insert_apart h.files name [] other ne in
    let before : contents c.in_ok-before.before ≡ at h.files name = c.in_ok-before.ensures.before ∙ ap (λ (n : Name). at h.files n) c.in_ok-key.ensures.items in
    let list : c.enter.new.record.items ≡ h.record.items ++ entry h.calls h.rest (Put c.in_ok-name.name c.in_ok-before.before) ∷ [] = c.enter.ensures ∙ ap (λ (es : List Entry). es ++ entry h.calls h.rest (Put c.in_ok-name.name c.in_ok-before.before) ∷ []) c.in_ok-reserve.ensures.items in
    (counted_changed _ _ name _ (put_entered h.record.items _ c.in_ok-name.name c.in_ok-before.before h.files c.insert.new.self h.said.items h.rest h.calls _ h.short h.failing.items h.syncs h.faults name c.in_ok-name.ensures before same list (omega arith)) c.self.invariant.0, c.self.invariant.1)
