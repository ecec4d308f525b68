use Rattle.std.proofs.Common.{◌∙◌, List, reverse, sym, ap}
use Rattle.tl_model.specs.Volume.{Volume, at}
use Rattle.tl_memhost.specs.Memory.{Memory, Standing, before_call}
use Rattle.tl_memhost.specs.Stop.{left}
use Rattle.tl_memhost.specs.declared.record.Entry.{Entry}
use Rattle.tl_memhost.proofs.Back.{back}
use Rattle.tl_memhost.proofs.host.MemHost.stopped.Goals as goal

pub returns-clause-left : goal.returns-clause-left
returns-clause-left c = λ name.
    let far = c.in_ok-count.ensures.back c.self.inside.said.items in
    ap (λ (m : Memory). at m.present.held name) c.in_ok-host.ensures
    ∙ c.in_ok-leave.ensures far.0 name
    ∙ ap (λ (s : Standing). left c.args.choice.now s name) (sym far.1)
    ∙ ap (λ (es : List Entry). left c.args.choice.now (back c.args.call (reverse es) c.in_ok-files.files c.self.inside.said.items) name) c.as_slice-record.ensures.value
    ∙ ap (λ (v : Volume). left c.args.choice.now (back c.args.call (reverse c.self.inside.record.items) v c.self.inside.said.items) name) c.in_ok-files.ensures
    ∙ ap (λ (m : Memory). left c.args.choice.now (before_call m c.args.call) name) c.self.view_is
