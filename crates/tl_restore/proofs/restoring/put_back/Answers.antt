use Rattle.std.proofs.Common.{List, ℕ, [], ◌∷◌, refl, subst}
use Rattle.tl_tree.specs.declared.change.Part.{Part}
use Rattle.tl_command.specs.Endings.{no_devices}
use Rattle.tl_command.specs.Loaded.{Steps}
use Rattle.tl_command.specs.Performs.{Performs}
use Rattle.tl_command.specs.Runs.{finished, stepping}
use Rattle.tl_command.proofs.Joins.{performs_of, performs_stepped}
use Rattle.tl_restore.specs.Restored.{entry_and_files}
use Rattle.tl_restore.specs.Restoring.{restore_label, returning_part}
use Rattle.tl_restore.proofs.PutLaws.{back-whole, change-back}
use Rattle.tl_restore.proofs.restoring.put_back.Goals as goal

pub step-requires-clause-change : goal.step-requires-clause-change
step-requires-clause-change g c = change-back c.args.tree.db c.args.name.now c.args.revision c.args.back.entry c.args.back.files c.in-Ok.change.parts c.in-Ok.change.label c.requires.of c.requires.free c.in-Ok.ensures.parts c.in-Ok.ensures.one

pub step-requires-clause-whole : goal.step-requires-clause-whole
step-requires-clause-whole g c = back-whole c.args.back.entry c.args.back.files c.in-Ok.change.parts c.in-Ok.ensures.parts

pub returns-in_default : goal.returns-in_default
returns-in_default g c = performs_of _ _ _ _ _ _ _ c.of_tree.ensures (c.give_up.ensures _)

pub returns-in-Ok-step : goal.returns-in-Ok-step
returns-in-Ok-step g c =
    let old = c.args.tree in
    let new = c.in-Ok-step.tree in
    let label : List ℕ = restore_label c.args.name.now c.args.revision in
    performs_stepped g.H.Host.tells g.H.Host.seen 0 old.seen no_devices no_devices c.finish.result.ending c.finish.result.state (returning_part (entry_and_files c.args.back) ∷ []) label old new (λ _. finished) refl
    (subst (λ (ps : List Part). Steps g.H.Host.tells ps label old new) c.in-Ok.ensures.parts
    (subst (λ (l : List ℕ). Steps g.H.Host.tells c.in-Ok.change.parts l old new) c.in-Ok.ensures.label c.in-Ok-step.ensures.made))
    (performs_of _ _ _ _ _ _ _ c.of_tree-in-Ok-step.ensures c.finish.ensures)

pub returns : goal.returns
returns g c =
    let old = c.args.tree in
    let ending = c.in-Err.acted.ending in
    let state = c.in-Err.acted.state in
    let label : List ℕ = restore_label c.args.name.now c.args.revision in
    subst (λ (ps : List Part). Performs g.H.Host.tells g.H.Host.seen (λ t. stepping old.db ps label finished t) 0 old.seen no_devices no_devices ending state) c.in-Ok.ensures.parts
    (subst (λ (l : List ℕ). Performs g.H.Host.tells g.H.Host.seen (λ t. stepping old.db c.in-Ok.change.parts l finished t) 0 old.seen no_devices no_devices ending state) c.in-Ok.ensures.label
    (c.in-Err.ensures.acted (λ _. finished)))
