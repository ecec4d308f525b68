use Rattle.std.proofs.Common.{◌∙◌, ap, sym, List, ℕ, length}
use Rattle.tl_model.specs.Volume.{Name}
use Rattle.tl_journal_text.specs.Stand.{bytes_at}
use Rattle.tl_journal.proofs.Pieces.{same_body_at}
use Rattle.tl_journal.proofs.Resumed.{size_is, part_of_new}
use Rattle.tl_journal.proofs.resume.body_of.Goals as goal

pub returns-clause-part : goal.returns-clause-part
returns-clause-part g c t =
    let s = g.H.Host.seen in
    let quiet = c.size.ensures.same t in
    let size = size_is c.unwrap_or-size.result c.in_ok-size.field-0 _ c.unwrap_or-size.ensures (c.in_ok-size.ensures.length t)
    ∙ ap (λ (n : Name). length (bytes_at (s c.args.host.now).present.held n)) c.body.ensures
    ∙ ap (λ (l : List ℕ). length l) (sym (same_body_at c.args.slot _ _ quiet)) in
    part_of_new c.args.slot c.unwrap_or-size.result (s c.size.new.self) c.new.result c.new.ensures size
