use Rattle.std.proofs.Common.{List, ℕ, ◌∙◌, ap}
use Rattle.tl_path.specs.Components.{is_below, is_touching}
use Rattle.tl_coming.specs.Lasts.{number_at, is_noted}
use Rattle.tl_coming.proofs.LastLaws.{touched}
use Rattle.tl_coming.proofs.lasts.Lasts.last_touching.Goals as goal

pub returns : goal.returns
returns c db plan are least =
    touched c.args.path.now c.number_at-at.result c.last_above-above.result c.number_at-below.result c.max-beside.result c.max.result are.noted c.args.self.now
    (c.number_at-at.ensures ∙ ap (number_at c.args.self.now.files) c.bytes-text.ensures.bytes) (c.number_at-below.ensures ∙ ap (number_at c.args.self.now.folders) c.bytes-text.ensures.bytes)
    (λ less. c.last_above-above.ensures are.noted are.kept less ∙ ap (λ (t : List ℕ). is_noted less (is_below t) are.noted) c.bytes-text.ensures.bytes) c.max-beside.ensures c.max.ensures are.kept least
    ∙ are.behind least (is_touching c.args.path.now)
