use Rattle.std.proofs.Common.{rules}
use Rattle.std.specs.Prelude.{not}
use Rattle.std.proofs.lemmas.Fn.{filter_same}
use Rattle.tl_pin.specs.Changes.{has_tag}
use Rattle.tl_pin.proofs.pins.Pins.remove_all.Goals as goal

pub returns-clause-left : goal.returns-clause-left
returns-clause-left c = rw (← c.self.view_is) (filter_same _ (λ pin. not (has_tag c.args.tag.now pin)) _ (λ x b q k. search rules) _ _ c.retain.ensures.filtered)
