use Rattle.std.proofs.Common.{◌≡◌, ◌∙◌, ap, sym, subst, length, Option, List}
use Rattle.std.specs.Prelude.{IfSome}
use Rattle.std.specs.List.{enumerate_from}
use Rattle.tl_model.specs.Volume.{Volume}
use Rattle.tl_journal_text.specs.Stand.{tree_of}
use Rattle.tl_entry.specs.declared.object.Object.{Object}
use Rattle.tl_backup.specs.Asked.{tree_in}
use Rattle.tl_backup.specs.declared.error.BackupError.{BackupError}
use Rattle.tl_command.specs.Runs.{refused}
use Rattle.tl_command.specs.Steps.{running}
use Rattle.tl_command.proofs.Databases.{same_tree}
use Rattle.tl_backups.specs.Backing.{nothing_left, backup_step, checked_run, packages_fault, unless_fault}
use Rattle.tl_backups.specs.Faults.{refusal_of}
use Rattle.tl_backups.proofs.Continuing.{behind}
use Rattle.tl_backups.proofs.Packages.{checked_refused}
use Rattle.tl_backups.proofs.backing.back_up_checked.Goals as goal

pub returns-in-Ok : goal.returns-in-Ok
returns-in-Ok g c =
    let old = c.args.tree in
    let mid = c.check_packages.new.tree in
    let names = c.args.packages.now in
    let asked = c.check_packages.ensures.asked in
    let tree : Volume = tree_of old.seen.present.held in
    behind g.H.Host.tells g.H.Host.seen old mid asked c.stands.ensures.tree (λ t. checked_run names t old.db) (λ t. running (backup_step (length names)) (enumerate_from 1 names) nothing_left mid.db t)
    c.back_up_all.result.ending c.back_up_all.result.state
    (λ t. ap (λ (o : Option BackupError). unless_fault o (running (backup_step (length names)) (enumerate_from 1 names) nothing_left old.db tree)) (c.in-Ok.ensures.fault t)
    ∙ ap (λ (db : List Object). running (backup_step (length names)) (enumerate_from 1 names) nothing_left db tree) (sym asked.db)) c.back_up_all.ensures

pub returns-in-Err : goal.returns-in-Err
returns-in-Err g c =
    let old = c.args.tree in
    let names = c.args.packages.now in
    let fault = c.in-Err.fault in
    c.fault_ends.ensures (λ t. checked_run names t old.db) old c.check_packages.ensures.asked c.in-Err.ensures.cause
    (λ told t stood. subst (λ (v : Volume). IfSome (refusal_of fault) (λ refusal. checked_run names v old.db ≡ refused refusal)) (same_tree old.seen t (c.stands.ensures.tree told) stood)
    (checked_refused fault (packages_fault names old.db (tree_in old)) (running (backup_step (length names)) (enumerate_from 1 names) nothing_left old.db (tree_in old)) (c.in-Err.ensures.fault told)))
