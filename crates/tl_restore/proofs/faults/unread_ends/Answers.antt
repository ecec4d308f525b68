use Rattle.std.proofs.Common.{◌≡◌, subst}
use Rattle.std.specs.Prelude.{IfSome}
use Rattle.tl_command.specs.Runs.{refused}
use Rattle.tl_restore.specs.Restoring.{unread_refusal}
use Rattle.tl_restore.specs.declared.reading.RestoreError.{RestoreError}
use Rattle.tl_restore.proofs.faults.unread_ends.Goals as goal

pub returns-in-NoBackup : goal.returns-in-NoBackup
returns-in-NoBackup g c command old asked cause is =
    c.no_backup_ends.ensures command old asked
    (λ t v stood. subst (λ (f : RestoreError). IfSome (unread_refusal c.args.name.now c.args.revision f) (λ refusal. command v ≡ refused refusal)) c.in-NoBackup.is (is t v stood))

pub returns-in-TooLarge : goal.returns-in-TooLarge
returns-in-TooLarge g c command old asked cause is =
    c.refuse_asked.ensures command old asked
    (λ t v stood. subst (λ (f : RestoreError). IfSome (unread_refusal c.args.name.now c.args.revision f) (λ refusal. command v ≡ refused refusal)) c.in-TooLarge.is (is t v stood))

pub returns-in-BadFrame : goal.returns-in-BadFrame
returns-in-BadFrame g c command old asked cause is =
    c.bad_frame_ends.ensures command old asked
    (λ t v stood. subst (λ (f : RestoreError). IfSome (unread_refusal c.args.name.now c.args.revision f) (λ refusal. command v ≡ refused refusal)) c.in-BadFrame.is (is t v stood))

pub returns-in-FrameEntry : goal.returns-in-FrameEntry
returns-in-FrameEntry g c command old asked cause is =
    c.frame_entry_ends.ensures command old asked
    (λ t v stood. subst (λ (f : RestoreError). IfSome (unread_refusal c.args.name.now c.args.revision f) (λ refusal. command v ≡ refused refusal)) c.in-FrameEntry.is (is t v stood))

pub returns-in-HostFault : goal.returns-in-HostFault
returns-in-HostFault g c command old asked cause is = c.host_ends.ensures command old asked (cause c.in-HostFault.is)

pub returns-in-NoMemory : goal.returns-in-NoMemory
returns-in-NoMemory g c command old asked cause is = c.give_up_asked.ensures command old asked
