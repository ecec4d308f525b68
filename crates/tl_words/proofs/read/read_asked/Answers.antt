use Rattle.std.proofs.Common.{sym, ◌∙◌}
use Rattle.tl_words.specs.Inside.{parts_left, plains_left}
use Rattle.tl_words.proofs.Fit.{asked-fit}
use Rattle.tl_words.proofs.read.read_asked.Goals as goal

pub read_action-requires : goal.read_action-requires
read_action-requires c =
    asked-fit c.args.in_session c.in-Some-named.action c.args.end (parts_left c.args.parts) (plains_left c.next.new.self)
    (sym c.in-Ok-None.ensures ∙ c.in-Ok-None.field-0-is)
