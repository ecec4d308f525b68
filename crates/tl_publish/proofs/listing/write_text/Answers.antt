use Rattle.std.proofs.Common.{List, ℕ, [], ◌∷◌, refl, subst}
use Rattle.tl_tree.specs.declared.change.Part.{Part}
use Rattle.tl_tree.specs.declared.change.Part.TheVariants.{Write}
use Rattle.tl_command.specs.Endings.{no_devices}
use Rattle.tl_command.specs.Loaded.{Steps}
use Rattle.tl_command.specs.Performs.{Performs}
use Rattle.tl_command.specs.Runs.{finished, stepping}
use Rattle.tl_command.proofs.Joins.{performs_of, performs_stepped}
use Rattle.tl_lsr.specs.Lists.{list_path}
use Rattle.tl_publish.specs.Lsr.{lsr_label}
use Rattle.tl_publish.proofs.RunLemmas.{change-list, list-whole}
use Rattle.tl_publish.proofs.listing.write_text.Goals as goal

pub step-requires-clause-change : goal.step-requires-clause-change
step-requires-clause-change g c = change-list c.args.tree.db c.in-Ok.change.parts c.args.text.items c.in-Ok.change.label c.requires c.in-Ok.ensures.parts c.in-Ok.ensures.label

pub step-requires-clause-whole : goal.step-requires-clause-whole
step-requires-clause-whole g c = list-whole c.in-Ok.change.parts c.args.text.items c.in-Ok.ensures.parts

pub returns-in_default : goal.returns-in_default
returns-in_default g c = performs_of _ _ _ _ _ _ _ c.of_tree.ensures (c.give_up.ensures _)

pub returns-in-Ok-step : goal.returns-in-Ok-step
returns-in-Ok-step g c =
    let old = c.args.tree in
    let new = c.in-Ok-step.tree in
    let ending = c.finish.result.ending in
    let state = c.finish.result.state in
    performs_stepped g.H.Host.tells g.H.Host.seen 0 old.seen no_devices no_devices ending state (Write list_path c.args.text.items ∷ []) lsr_label old new (λ _. finished) refl
    (subst (λ (ps : List Part). Steps g.H.Host.tells ps lsr_label old new) c.in-Ok.ensures.parts
    (subst (λ (l : List ℕ). Steps g.H.Host.tells c.in-Ok.change.parts l old new) c.in-Ok.ensures.label c.in-Ok-step.ensures.made))
    (performs_of _ _ _ _ _ _ _ c.of_tree-in-Ok-step.ensures c.finish.ensures)

pub returns : goal.returns
returns g c =
    let old = c.args.tree in
    let ending = c.in-Err.acted.ending in
    let state = c.in-Err.acted.state in
    subst (λ (ps : List Part). Performs g.H.Host.tells g.H.Host.seen (λ t. stepping old.db ps lsr_label finished t) 0 old.seen no_devices no_devices ending state) c.in-Ok.ensures.parts
    (subst (λ (l : List ℕ). Performs g.H.Host.tells g.H.Host.seen (λ t. stepping old.db c.in-Ok.change.parts l finished t) 0 old.seen no_devices no_devices ending state) c.in-Ok.ensures.label
    (c.in-Err.ensures.acted (λ _. finished)))
