use Rattle.std.proofs.Common.{sym, subst}
use Rattle.tl_backup.specs.Autobackup.{revision_at}
use Rattle.tl_backup.specs.Form.{AreOfBackups}
use Rattle.tl_backup.proofs.Adding.{of_none, of_written}
use Rattle.tl_backup.proofs.Making.{asked_join}
use Rattle.tl_backup.proofs.added.autobackup.Goals as goal

pub returns-then-eq-clause-form : goal.returns-then-eq-clause-form
returns-then-eq-clause-form g c = subst AreOfBackups (sym c.new.ensures.items) of_none

pub returns-in-Some-clause-asked : goal.returns-in-Some-clause-asked
returns-in-Some-clause-asked g c = asked_join _ _ _ _ c.backups_of.ensures.asked c.add_pruning.ensures.asked

pub returns-clause-form : goal.returns-clause-form
returns-clause-form g c = of_written (revision_at c.args.tree.now.db) c.args.names.now c.in_ok-parts.parts.items c.requires c.in_ok-parts.ensures.named
