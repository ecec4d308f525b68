use Rattle.std.proofs.Common.{◌≡◌, ◌∙◌, ap, sym, subst, List, Result}
use Rattle.std.specs.Prelude.{IfSome}
use Rattle.tl_model.specs.Volume.{Volume}
use Rattle.tl_journal_text.specs.Stand.{tree_of}
use Rattle.tl_file.specs.declared.file.FileBytes.{FileBytes}
use Rattle.tl_entry.specs.declared.object.Object.{Object}
use Rattle.tl_command.specs.Runs.{refused}
use Rattle.tl_command.proofs.Databases.{same_tree}
use Rattle.tl_backups.proofs.Continuing.{behind}
use Rattle.tl_restore.specs.Restored.{entry_and_files, restored}
use Rattle.tl_restore.specs.Restoring.{returned, returned_from, unread_refusal}
use Rattle.tl_restore.specs.declared.reading.RestoreError.{RestoreError}
use Rattle.tl_restore.proofs.EndLaws.{unread_refused}
use Rattle.tl_restore.proofs.restoring.restore_from.Goals as goal

pub returns-in-Ok : goal.returns-in-Ok
returns-in-Ok g c =
    let old = c.args.tree in
    let mid = c.read_backup.new.tree in
    let name = c.args.name.now in
    let revision = c.args.revision in
    let back = entry_and_files c.in-Ok.back in
    let tree : Volume = tree_of old.seen.present.held in
    let asked = c.read_backup.ensures.asked in
    behind g.H.Host.tells g.H.Host.seen old mid asked c.stands.ensures.tree (λ t. returned_from name revision (restored name revision t) t old.db) (λ t. returned name revision back t mid.db)
    c.bring_back.result.ending c.bring_back.result.state
    (λ t. ap (λ (r : Result (Object × List FileBytes) RestoreError). returned_from name revision r tree old.db) (c.in-Ok.ensures.restored t) ∙ ap (λ (db : List Object). returned name revision back tree db) (sym asked.db))
    c.bring_back.ensures

pub returns-in-Err : goal.returns-in-Err
returns-in-Err g c =
    let old = c.args.tree in
    let name = c.args.name.now in
    let revision = c.args.revision in
    let fault = c.in-Err.fault in
    let tree : Volume = tree_of old.seen.present.held in
    c.unread_ends.ensures (λ t. returned_from name revision (restored name revision t) t old.db) old c.read_backup.ensures.asked c.in-Err.ensures.cause
    (λ told t stood. subst (λ (v : Volume). IfSome (unread_refusal name revision fault) (λ refusal. returned_from name revision (restored name revision v) v old.db ≡ refused refusal)) (same_tree old.seen t (c.stands.ensures.tree told) stood)
    (unread_refused entry_and_files name revision fault (restored name revision tree) tree old.db (c.in-Err.ensures.restored told)))
