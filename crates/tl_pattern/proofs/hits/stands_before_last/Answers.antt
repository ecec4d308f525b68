use Rattle.std.proofs.Common.{ap, ◌∙◌}
use Rattle.tl_path.specs.Inside.{components_left}
use Rattle.tl_path.specs.declared.components.Components.{Components}
use Rattle.tl_pattern.proofs.WalkLemmas.{stands_after, stands_from}
use Rattle.tl_pattern.proofs.hits.stands_before_last.Goals as goal
use Rattle.std.proofs.Common.{false}

pub loop-component-init : goal.loop-component-init
loop-component-init c = ap (λ (it : Components). stands_after false c.args.name.now (components_left it)) c.into_iter-component-iterator.ensures.into_iter_gives ∙ stands_from c.args.name.now (components_left c.args.names)
