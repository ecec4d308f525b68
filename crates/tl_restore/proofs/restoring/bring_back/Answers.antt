use Rattle.std.proofs.Common.{◌≡◌, ◌∙◌, ap, sym, subst, List, Option}
use Rattle.std.specs.Prelude.{IfSome}
use Rattle.tl_model.specs.Volume.{Volume}
use Rattle.tl_journal_text.specs.Stand.{tree_of}
use Rattle.tl_entry.specs.declared.object.Object.{Object}
use Rattle.tl_backup.specs.Asked.{IsAsked}
use Rattle.tl_coming.specs.declared.error.ComingError.{ComingError}
use Rattle.tl_command.specs.Runs.{refused}
use Rattle.tl_command.proofs.Databases.{same_tree}
use Rattle.tl_backups.proofs.Continuing.{behind}
use Rattle.tl_restore.specs.Restored.{entry_and_files}
use Rattle.tl_restore.specs.Restoring.{coming_refusal, paths_fault, return_fault, returned, returning, unless_coming}
use Rattle.tl_restore.proofs.EndLaws.{as_asked, coming_refused}
use Rattle.tl_restore.proofs.restoring.bring_back.Goals as goal

pub put_back-requires-clause-free : goal.put_back-requires-clause-free
put_back-requires-clause-free g c = ap (λ (db : List Object). paths_fault db c.args.back.entry) c.refuse_return.ensures.asked.db ∙ c.in-Ok.ensures.paths

pub returns-in-Ok : goal.returns-in-Ok
returns-in-Ok g c =
    let old = c.args.tree in
    let mid = c.refuse_return.new.tree in
    let name = c.args.name.now in
    let revision = c.args.revision in
    let back = entry_and_files c.args.back in
    let tree : Volume = tree_of old.seen.present.held in
    let asked : IsAsked g.H.Host.tells old mid = as_asked g.H.Host.tells old mid c.refuse_return.ensures.asked in
    behind g.H.Host.tells g.H.Host.seen old mid asked c.stands.ensures.tree (λ t. returned name revision back t old.db) (λ t. returning name revision back t mid.db)
    c.put_back.result.ending c.put_back.result.state
    (λ t. ap (λ (o : Option ComingError). unless_coming o (returning name revision back tree old.db)) (c.in-Ok.ensures.ok t) ∙ ap (λ (db : List Object). returning name revision back tree db) (sym asked.db))
    c.put_back.ensures

pub returns-in-Err : goal.returns-in-Err
returns-in-Err g c =
    let old = c.args.tree in
    let name = c.args.name.now in
    let revision = c.args.revision in
    let back = entry_and_files c.args.back in
    let fault = c.in-Err.fault in
    let tree : Volume = tree_of old.seen.present.held in
    c.coming_ends.ensures (λ t. returned name revision back t old.db) old (as_asked g.H.Host.tells old c.refuse_return.new.tree c.refuse_return.ensures.asked) c.in-Err.ensures.cause
    (λ told t stood. subst (λ (v : Volume). IfSome (coming_refusal fault) (λ refusal. returned name revision back v old.db ≡ refused refusal)) (same_tree old.seen t (c.stands.ensures.tree told) stood)
    (coming_refused fault (return_fault old.db tree back.0) (returning name revision back tree old.db) (c.in-Err.ensures.fault told)))
