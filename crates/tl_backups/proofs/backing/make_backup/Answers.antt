use Rattle.std.proofs.Common.{◌≡◌, ◌∙◌, ap, subst, List, ℕ}
use Rattle.std.specs.Prelude.{IfOk, IfErr}
use Rattle.tl_model.specs.Volume.{Volume}
use Rattle.tl_entry.specs.declared.object.Object.{Object}
use Rattle.tl_tree.specs.declared.change.Part.{Part}
use Rattle.tl_backup.specs.Autobackup.{revision_at}
use Rattle.tl_command.specs.Endings.{no_devices}
use Rattle.tl_command.specs.Labels.{step_label}
use Rattle.tl_command.specs.Loaded.{Steps}
use Rattle.tl_command.specs.Performs.{Performs}
use Rattle.tl_command.specs.Runs.{Run, stepping}
use Rattle.tl_command.proofs.Joins.{performs_of}
use Rattle.tl_backups.specs.Backing.{backup_text}
use Rattle.tl_backups.proofs.Packages.{change-backup, backup-whole}
use Rattle.tl_backups.proofs.backing.make_backup.Goals as goal

pub step-requires-clause-change : goal.step-requires-clause-change
step-requires-clause-change g c = change-backup c.args.name.now c.args.tree.db c.args.part c.in-Ok.change.parts c.in-Ok.change.label c.requires c.in-Ok.ensures.parts c.in-Ok.ensures.one

pub step-requires-clause-whole : goal.step-requires-clause-whole
step-requires-clause-whole g c = backup-whole c.args.name.now c.args.tree.db c.args.part c.in-Ok.change.parts c.requires c.in-Ok.ensures.parts

pub returns-in_default-clause-acted : goal.returns-in_default-clause-acted
returns-in_default-clause-acted g c = λ rest. performs_of _ _ _ _ _ _ _ c.of_tree.ensures (c.give_up.ensures _)

pub returns-clause-made : goal.returns-clause-made
returns-clause-made g c =
    let name = c.args.name.now in
    let parts = c.in-Ok.change.parts in
    let old = c.args.tree in
    let label : c.in-Ok.change.label ≡ step_label c.args.number c.args.count (backup_text name (revision_at old.db name)) =
    c.in-Ok.ensures.label ∙ ap (λ (r : ℕ). step_label c.args.number c.args.count (backup_text name r)) (c.revision_at-revision.ensures ∙ ap (λ (db : List Object). revision_at db name) c.db.ensures) in
    subst (λ (ps : List Part). IfOk c.step.result (λ next. Steps g.H.Host.tells ps (step_label c.args.number c.args.count (backup_text name (revision_at old.db name))) old next)) c.in-Ok.ensures.parts
    (subst (λ (l : List ℕ). IfOk c.step.result (λ next. Steps g.H.Host.tells parts l old next)) label c.step.ensures.made)

pub returns-clause-acted : goal.returns-clause-acted
returns-clause-acted g c =
    let name = c.args.name.now in
    let parts = c.in-Ok.change.parts in
    let old = c.args.tree in
    let label : c.in-Ok.change.label ≡ step_label c.args.number c.args.count (backup_text name (revision_at old.db name)) =
    c.in-Ok.ensures.label ∙ ap (λ (r : ℕ). step_label c.args.number c.args.count (backup_text name r)) (c.revision_at-revision.ensures ∙ ap (λ (db : List Object). revision_at db name) c.db.ensures) in
    subst (λ (ps : List Part). IfErr c.step.result (λ acted. (rest : Volume → Run) → Performs g.H.Host.tells g.H.Host.seen
    (λ t. stepping old.db ps (step_label c.args.number c.args.count (backup_text name (revision_at old.db name))) (rest t) t) 0 old.seen no_devices no_devices acted.ending acted.state)) c.in-Ok.ensures.parts
    (subst (λ (l : List ℕ). IfErr c.step.result (λ acted. (rest : Volume → Run) → Performs g.H.Host.tells g.H.Host.seen
    (λ t. stepping old.db parts l (rest t) t) 0 old.seen no_devices no_devices acted.ending acted.state)) label c.step.ensures.acted)
