use Rattle.std.proofs.Common.{◌≡◌, ◌∙◌, ap, sym, subst, List}
use Rattle.std.specs.Prelude.{IfSome}
use Rattle.std.specs.Option.{option_copied}
use Rattle.tl_model.specs.Volume.{Volume}
use Rattle.tl_backup.specs.Asked.{tree_in}
use Rattle.tl_backup.specs.Listed.{listed}
use Rattle.tl_backup.specs.declared.names.Backup.{Backup}
use Rattle.tl_command.specs.Runs.{refused, saying}
use Rattle.tl_command.proofs.Databases.{same_tree}
use Rattle.tl_backups.specs.Faults.{refusal_of}
use Rattle.tl_restore.specs.Listing.{backup_lines, said_backups}
use Rattle.tl_restore.proofs.Lines.{listing_refused}
use Rattle.tl_restore.proofs.listing.say_backups.Goals as goal

pub returns-in-Ok : goal.returns-in-Ok
returns-in-Ok g c =
    let old = c.args.tree in
    let name = option_copied c.args.name in
    c.say_lines.ensures (λ t. said_backups (listed name t)) old c.list.ensures.asked
    (λ told t stood.
    ap (λ (v : Volume). said_backups (listed name v)) (sym (same_tree old.seen t (c.stands.ensures.tree told) stood))
    ∙ ap said_backups (c.in-Ok.ensures.list told) ∙ ap (λ (l : List Backup). saying (backup_lines l)) (sym c.deref.ensures.value))

pub returns-in-Err : goal.returns-in-Err
returns-in-Err g c =
    let old = c.args.tree in
    let name = option_copied c.args.name in
    let fault = c.in-Err.fault in
    c.fault_ends.ensures (λ t. said_backups (listed name t)) old c.list.ensures.asked c.in-Err.ensures.cause
    (λ told t stood. subst (λ (v : Volume). IfSome (refusal_of fault) (λ refusal. said_backups (listed name v) ≡ refused refusal)) (same_tree old.seen t (c.stands.ensures.tree told) stood)
    (listing_refused fault (listed name (tree_in old)) (c.in-Err.ensures.list told)))
