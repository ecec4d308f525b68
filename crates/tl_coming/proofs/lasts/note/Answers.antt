use Rattle.std.proofs.Common.{◌∙◌, ap}
use Rattle.std.specs.Prelude.{max}
use Rattle.tl_coming.proofs.LastLaws.{noted_at}
use Rattle.tl_coming.proofs.lasts.note.Goals as goal

pub returns : goal.returns
returns c =
    noted_at c.args.numbers.now.entries c.insert.new.self.entries c.in_ok-from_slice.field-0 c.args.text.now c.args.number c.max-greater.result c.in_ok-from_slice.ensures.items
    (c.max-greater.ensures ∙ ap (max c.args.number) c.number_at.ensures) c.in_ok-insert.ensures.entries
