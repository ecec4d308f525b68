use Rattle.std.proofs.Common.{◌≡◌, ◌∙◌, ap, Some, List, ℕ, [], take, length, arith}
use Rattle.std.specs.Option.{unwrap_or}
use Rattle.tl_model.specs.Volume.{Name, at}
use Rattle.tl_journal_text.specs.Slots.{gate, opens}
use Rattle.tl_journal_text.proofs.Trees.{opens_two}
use Rattle.tl_journal.proofs.resume.opened.Goals as goal

pub returns-clause-opened : goal.returns-clause-opened
returns-clause-opened g c t =
    let held = (g.H.Host.seen c.args.host.now).present.held in
    let len : length c.read.new.into ≡ 2 = omega (arith, c.read.auto.into) in
    c.opened_by.ensures
    ∙ ap (λ (l : List ℕ). opens (Some l)) (c.in_ok-count.ensures.bytes t ∙ ap (λ (k : ℕ). take k (unwrap_or (at held c.gate.result) [])) len ∙ ap (λ (n : Name). take 2 (unwrap_or (at held n) [])) c.gate.ensures)
    ∙ opens_two (at held gate)
