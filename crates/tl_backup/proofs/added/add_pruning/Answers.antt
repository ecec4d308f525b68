use Rattle.std.proofs.Common.{◌≡◌, ◌∙◌, List, subst}
use Rattle.std.specs.List.{flat_map}
use Rattle.tl_entry.specs.declared.object.Object.{Object}
use Rattle.tl_backup.specs.Autobackup.{gone_of}
use Rattle.tl_backup.specs.Form.{AreAt}
use Rattle.tl_backup.specs.declared.names.Backup.{Backup}
use Rattle.tl_backup.proofs.Adding.{of_added}
use Rattle.tl_backup.proofs.added.add_pruning.Goals as goal

pub returns-clause-form : goal.returns-clause-form
returns-clause-form g c =
    let db = c.args.tree.now.db in
    let names = c.args.names.now in
    let backups = c.in_ok-backups.backups.items in
    let gone = c.in_ok-gone.gone.items in
    let same : c.db.result.now ≡ db = c.db.ensures ∙ c.list.ensures.asked.db in
    let left : AreAt gone (flat_map (gone_of c.args.keep db backups) names) =
    subst (λ (d : List Object). AreAt gone (flat_map (gone_of c.args.keep d backups) names)) same
    (subst (λ (b : List Backup). AreAt gone (flat_map (gone_of c.args.keep c.db.result.now b) names)) c.deref.ensures.value c.in_ok-gone.ensures.named) in
    of_added c.args.keep names db backups c.args.parts.items gone c.append.new.self.items c.requires.names c.in_ok-backups.ensures.apart c.requires.named left c.in_ok-append.ensures.items
