use Rattle.std.proofs.Common.{◌≡◌, ◌∙◌, subst}
use Rattle.std.specs.Prelude.{IfSome}
use Rattle.tl_backup.specs.declared.error.BackupError.{BackupError}
use Rattle.tl_command.specs.Endings.{no_devices}
use Rattle.tl_command.specs.Runs.{refused}
use Rattle.tl_command.proofs.Databases.{performs_unread}
use Rattle.tl_backups.specs.Faults.{refusal_of}
use Rattle.tl_backups.proofs.faults.fault_ends.Goals as goal

pub returns-in-NotInstalled : goal.returns-in-NotInstalled
returns-in-NotInstalled g c command old asked cause is =
    c.refuse_asked.ensures command old asked
    (λ t v stood. subst (λ (f : BackupError). IfSome (refusal_of f) (λ refusal. command v ≡ refused refusal)) c.in-NotInstalled.is (is t v stood))

pub returns-in-FileMissing : goal.returns-in-FileMissing
returns-in-FileMissing g c command old asked cause is =
    c.refuse_asked-in-FileMissing.ensures command old asked
    (λ t v stood. subst (λ (f : BackupError). IfSome (refusal_of f) (λ refusal. command v ≡ refused refusal)) c.in-FileMissing.is (is t v stood))

pub returns-in-TooLarge : goal.returns-in-TooLarge
returns-in-TooLarge g c command old asked cause is =
    c.refuse_asked-in-TooLarge.ensures command old asked
    (λ t v stood. subst (λ (f : BackupError). IfSome (refusal_of f) (λ refusal. command v ≡ refused refusal)) c.in-TooLarge.is (is t v stood))

pub returns-in-HostFault : goal.returns-in-HostFault
returns-in-HostFault g c command old asked cause is =
    performs_unread g.H.Host.tells g.H.Host.seen old.seen no_devices no_devices command c.into_host.result c.args.tree.seen (c.into_host.ensures ∙ c.release.ensures) asked.quiet asked.later (cause c.in-HostFault.is)

pub returns-in-NoMemory : goal.returns-in-NoMemory
returns-in-NoMemory g c command old asked cause is = c.give_up_asked.ensures command old asked
