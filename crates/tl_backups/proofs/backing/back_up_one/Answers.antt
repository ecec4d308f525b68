use Rattle.std.proofs.Common.{◌∷◌, [], List, Result, Ok, Err}
use Rattle.std.specs.Prelude.{IfOk, IfErr}
use Rattle.tl_model.specs.Volume.{Volume}
use Rattle.tl_entry.specs.declared.object.Object.{Object}
use Rattle.tl_tree.specs.declared.change.Part.{Part}
use Rattle.tl_backup.specs.Asked.{tree_in}
use Rattle.tl_backup.specs.Autobackup.{revision_at}
use Rattle.tl_backup.specs.Frames.{package_backup}
use Rattle.tl_command.specs.Endings.{no_devices}
use Rattle.tl_command.specs.Labels.{step_label}
use Rattle.tl_command.specs.Loaded.{Steps}
use Rattle.tl_command.specs.Performs.{Performs}
use Rattle.tl_command.specs.Runs.{Run, stepping}
use Rattle.tl_backups.specs.Backing.{backup_step, backup_text}
use Rattle.tl_backups.specs.Continuing.{Continues}
use Rattle.tl_backups.proofs.Continuing.{unanswered}
use Rattle.tl_backups.proofs.Packages.{one_continues, one_acted, one_fault}
use Rattle.tl_backups.proofs.backing.back_up_one.Goals as goal

ok_map : {X E : Type 0} (P Q : X → Type 0) → ((x : X) → P x → Q x) → (r : Result X E) → IfOk r P → IfOk r Q
ok_map P Q goes (Ok x) p = goes x p
ok_map P Q goes (Err e) p = tt

err_map : {X E : Type 0} (P Q : E → Type 0) → ((e : E) → P e → Q e) → (r : Result X E) → IfErr r P → IfErr r Q
err_map P Q goes (Ok x) p = tt
err_map P Q goes (Err e) p = goes e p

pub returns-in-Ok-clause-made : goal.returns-in-Ok-clause-made
returns-in-Ok-clause-made g c =
    let tells = g.H.Host.tells in
    let seen = g.H.Host.seen in
    let old = c.args.tree in
    let mid = c.backup.new.tree in
    let name = c.args.name.now in
    let part = c.in-Ok.part in
    ok_map (λ next. Steps tells (part ∷ []) (step_label c.args.number c.args.count (backup_text name (revision_at mid.db name))) mid next)
    (λ next. Continues tells seen (backup_step c.args.count (c.args.number, name)) old next)
    (λ next steps. one_continues tells seen c.args.count c.args.number name old mid c.backup.ensures.asked c.stands.ensures.tree part c.in-Ok.ensures.part next steps) c.make_backup.result c.make_backup.ensures.made

pub returns-in-Ok-clause-acted : goal.returns-in-Ok-clause-acted
returns-in-Ok-clause-acted g c =
    let tells = g.H.Host.tells in
    let seen = g.H.Host.seen in
    let old = c.args.tree in
    let mid = c.backup.new.tree in
    let name = c.args.name.now in
    let part = c.in-Ok.part in
    err_map (λ acted. (rest : Volume → Run) → Performs tells seen (λ t. stepping mid.db (part ∷ []) (step_label c.args.number c.args.count (backup_text name (revision_at mid.db name))) (rest t) t) 0 mid.seen no_devices no_devices acted.ending acted.state)
    (λ acted. (rest : List Object → Volume → Run) → Performs tells seen (λ t. backup_step c.args.count (c.args.number, name) rest old.db t) 0 old.seen no_devices no_devices acted.ending acted.state)
    (λ acted near. one_acted tells seen c.args.count c.args.number name old mid c.backup.ensures.asked c.stands.ensures.tree part c.in-Ok.ensures.part acted.ending acted.state near) c.make_backup.result c.make_backup.ensures.acted

pub returns-in-Err-clause-acted : goal.returns-in-Err-clause-acted
returns-in-Err-clause-acted g c = λ rest.
    let tells = g.H.Host.tells in
    let seen = g.H.Host.seen in
    let old = c.args.tree in
    let name = c.args.name.now in
    let fault = c.in-Err.fault in
    c.fault_ends.ensures (λ t. backup_step c.args.count (c.args.number, name) rest old.db t) old c.backup.ensures.asked c.in-Err.ensures.cause
    (one_fault tells seen c.args.count c.args.number name old c.backup.new.tree c.backup.ensures.asked c.stands.ensures.tree fault rest
    (λ t. unanswered (λ (p : Part). p) fault (package_backup name old.db (tree_in old)) (c.in-Err.ensures.part t)))
