use Rattle.std.proofs.Common.{◌≡◌, ◌∙◌, ap, ℕ, length, take, drop, arith}
use Rattle.tl_model.specs.Volume.{Name}
use Rattle.tl_journal_text.specs.Stand.{bytes_at}
use Rattle.tl_journal_text.specs.Slots.{body_of}
use Rattle.tl_journal.specs.Reading.{Part}
use Rattle.tl_journal.proofs.body.Body.load.Goals as goal

pub returns-clause-loaded : goal.returns-clause-loaded
returns-clause-loaded g c t =
    let held = (g.H.Host.seen c.args.host.now).present.held in
    let len : length c.read.new.into ≡ 65536 = omega (arith, c.read.auto.into) in
    c.in_ok-count.ensures.bytes t
    ∙ ap (λ (n : ℕ). take n (drop c.args.from (bytes_at held c.body.result))) len
    ∙ ap (λ (name : Name). take 65536 (drop c.args.from (bytes_at held name))) c.body.ensures
    ∙ ap (λ (p : Part). take 65536 (drop c.args.from (bytes_at held (body_of p.slot)))) c.self.view_is
