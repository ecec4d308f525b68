use Rattle.std.proofs.Common.{◌≡◌, ◌+◌, ◌∙◌, ap, sym, List, Ok, Some, Vec, Global, drop, map}
use Rattle.std.specs.Bool.{IsTrue}
use Rattle.tl_model.specs.Volume.{Volume}
use Rattle.tl_entry.specs.declared.object.Object.{Object}
use Rattle.tl_tree.specs.declared.change.Part.{Part}
use Rattle.tl_backup.specs.Asked.{tree_in}
use Rattle.tl_backup.specs.Autobackup.{backups_of, revision_at, with_parts}
use Rattle.tl_backup.specs.Form.{backup_by, installed}
use Rattle.tl_backup.specs.Frames.{package_backup}
use Rattle.tl_backup.proofs.Adding.{backed_fault, backed_named, backed_step, with-none}
use Rattle.tl_backup.proofs.Making.{asked_join, asked_start, asked_tree, caused_join, fault_on}
use Rattle.tl_backup.proofs.added.backups_of.Goals as goal

pub loop-name-init : goal.loop-name-init
loop-name-init g c =
    let old = c.args.tree.now in
    let all = backups_of c.args.names.now old.db (tree_in old) in (
      asked_start _ _,
      (λ t. sym (ap (λ (l : List Part). with_parts (Ok l) all) c.new-parts.ensures.items ∙ with-none all)),
      ap (map backup_by) c.new-parts.ensures.items,
    )

pub loop-name-preserved : goal.loop-name-preserved
loop-name-preserved g c =
    let old = c.args.tree.now in
    let loop = c.loop-name.tree in
    let names = c.args.names.now in
    let item = c.name-item.result in
    let part = c.in-Ok.part in
    let made : IsTrue g.H.Host.tells → package_backup item old.db (tree_in old) ≡ Ok part =
    λ t. sym (ap (λ (db : List Object). package_backup item db (tree_in loop)) c.loop-name.invariant.0.db ∙ ap (λ (v : Volume). package_backup item old.db v) (asked_tree _ _ _ c.loop-name.invariant.0 t))
    ∙ c.in-Ok.ensures.part t in (
      asked_join _ _ _ _ c.loop-name.invariant.0 c.backup.ensures.asked,
      (λ t. backed_step names old.db (tree_in old) c.loop-name.parts.items c.loop-name.name-index item c.loop-name-test.true c.name-item.is (c.loop-name.invariant.1 t) part (made t)
          ∙ ap (λ (l : List Part). with_parts (Ok l) (backups_of (drop (c.loop-name.name-index + 1) names) old.db (tree_in old))) (sym c.in_ok-push_part-in-Ok.ensures)),
      backed_named (revision_at old.db) names c.loop-name.parts.items c.push_part.new.parts.items c.loop-name.name-index item part c.loop-name-test.true c.name-item.is c.loop-name.invariant.2
          (c.in-Ok.ensures.named ∙ ap (λ (db : List Object). Some (installed (revision_at db) item)) c.loop-name.invariant.0.db) c.in_ok-push_part-in-Ok.ensures,
    )

pub returns-in-Err-clause-asked : goal.returns-in-Err-clause-asked
returns-in-Err-clause-asked g c = asked_join _ _ _ _ c.loop-name.invariant.0 c.backup.ensures.asked

pub returns-in-Err-clause-cause : goal.returns-in-Err-clause-cause
returns-in-Err-clause-cause g c = caused_join g.H.Host.tells c.args.tree.now c.loop-name.tree c.backup.new.tree c.in-Err.fault c.loop-name.invariant.0 c.in-Err.ensures.cause

pub returns-in-Err-clause-parts : goal.returns-in-Err-clause-parts
returns-in-Err-clause-parts g c t =
    let old = c.args.tree.now in
    let loop = c.loop-name.tree in
    let item = c.name-item.result in
    fault_on (λ (p : Part). p) (λ (parts : Vec Part Global). parts.items) c.in-Err.fault (package_backup item loop.db (tree_in loop)) (backups_of c.args.names.now old.db (tree_in old))
    (λ is. backed_fault c.args.names.now old.db (tree_in old) c.loop-name.parts.items c.loop-name.name-index item c.loop-name-test.true c.name-item.is (c.loop-name.invariant.1 t) c.in-Err.fault
    (sym (ap (λ (db : List Object). package_backup item db (tree_in loop)) c.loop-name.invariant.0.db ∙ ap (λ (v : Volume). package_backup item old.db v) (asked_tree _ _ _ c.loop-name.invariant.0 t)) ∙ is))
    (c.in-Err.ensures.part t)

pub returns-in_err-push_part-in-Ok-clause-asked : goal.returns-in_err-push_part-in-Ok-clause-asked
returns-in_err-push_part-in-Ok-clause-asked g c = asked_join _ _ _ _ c.loop-name.invariant.0 c.backup.ensures.asked
