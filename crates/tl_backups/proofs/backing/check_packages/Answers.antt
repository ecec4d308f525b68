use Rattle.std.proofs.Common.{◌≡◌, ◌∙◌, ap, sym, subst, None, Option, List}
use Rattle.tl_model.specs.Volume.{Volume}
use Rattle.tl_entry.specs.declared.object.Object.{Object}
use Rattle.tl_backup.specs.Asked.{tree_in}
use Rattle.tl_backup.specs.declared.error.BackupError.{BackupError}
use Rattle.tl_backup.proofs.Making.{asked_join, asked_tree}
use Rattle.tl_backups.specs.Backing.{IsChecked, installed_fault, fault_or, fault_among, size_fault, files_fault}
use Rattle.tl_backups.proofs.backing.check_packages.Goals as goal

pub returns-clause-asked : goal.returns-clause-asked
returns-clause-asked g c = asked_join _ _ _ _ c.check_all_missing.ensures.asked c.check_all_large.ensures.asked

pub returns-clause-fault : goal.returns-clause-fault
returns-clause-fault g c t =
    let old = c.args.tree.now in
    let tree = tree_in old in
    let mid = c.check_all_missing.new.tree in
    let names = c.args.packages.now in
    let asked = c.check_all_missing.ensures.asked in
    let result = c.check_all_large.result in
    let absent : fault_among (installed_fault old.db) names ≡ None = sym (ap (λ (db : List Object). fault_among (installed_fault db) names) c.db.ensures) ∙ c.in_ok-check_all_installed.ensures.fault in
    let missing : fault_among (files_fault old.db tree) names ≡ None = c.in_ok-check_all_missing.ensures.fault t in
    let large : Option BackupError = fault_among (size_fault old.db tree) names in
    subst (λ (o : Option BackupError). IsChecked result o)
    (sym (ap (λ (o : Option BackupError). fault_or o (fault_or (fault_among (files_fault old.db tree) names) large)) absent ∙ ap (λ (o : Option BackupError). fault_or o large) missing))
    (subst (λ (v : Volume). IsChecked result (fault_among (size_fault old.db v) names)) (asked_tree _ _ _ asked t)
    (subst (λ (db : List Object). IsChecked result (fault_among (size_fault db (tree_in mid)) names)) asked.db (c.check_all_large.ensures.fault t)))
