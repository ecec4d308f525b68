use Rattle.std.proofs.Common.{List, ℕ, subst}
use Rattle.tl_tree.specs.Planted.{database_text}
use Rattle.tl_command.specs.Endings.{no_devices}
use Rattle.tl_command.specs.Performs.{Performs}
use Rattle.tl_command.specs.Runs.{over_database}
use Rattle.tl_backups.specs.Backing.{backup_run}
use Rattle.tl_packages.specs.Remove.{remove_run}
use Rattle.tl_settings.specs.Settings.{option_run}
use Rattle.tl_tool.proofs.Acts.{acts_as}
use Rattle.tl_tool.proofs.acting.act_alone.Goals as goal

pub returns-in-Setting : goal.returns-in-Setting
returns-in-Setting g c = acts_as g.H.Host.tells g.H.Host.seen c.args.action _ c.args.formats c.args.session c.option.result.ending c.option.result.state c.in-Setting.is (λ repositories outside.
    subst (λ (values : List (List ℕ)). Performs g.H.Host.tells g.H.Host.seen (λ tree. over_database (option_run c.in-Setting.name values tree) (database_text tree)) 0 c.args.session no_devices no_devices
    c.option.result.ending c.option.result.state) c.as_slice-in-Setting.ensures c.option.ensures)

pub returns-in-Remove : goal.returns-in-Remove
returns-in-Remove g c = acts_as g.H.Host.tells g.H.Host.seen c.args.action _ c.args.formats c.args.session c.remove.result.ending c.remove.result.state c.in-Remove.is (λ repositories outside.
    subst (λ (names : List (List ℕ)). Performs g.H.Host.tells g.H.Host.seen (λ tree. over_database (remove_run names c.in-Remove.force c.args.formats tree) (database_text tree)) 0 c.args.session no_devices no_devices
    c.remove.result.ending c.remove.result.state) c.as_slice.ensures c.remove.ensures)

pub returns-in-Backup : goal.returns-in-Backup
returns-in-Backup g c = acts_as g.H.Host.tells g.H.Host.seen c.args.action _ c.args.formats c.args.session c.backup.result.ending c.backup.result.state c.in-Backup.is (λ repositories outside.
    subst (λ (names : List (List ℕ)). Performs g.H.Host.tells g.H.Host.seen (λ tree. over_database (backup_run names c.in-Backup.all tree) (database_text tree)) 0 c.args.session no_devices no_devices
    c.backup.result.ending c.backup.result.state) c.as_slice-in-Backup.ensures c.backup.ensures)
