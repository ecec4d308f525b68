use Rattle.std.proofs.Common.{◌≡◌, ◌∙◌, subst}
use Rattle.std.specs.Prelude.{IfSome}
use Rattle.tl_command.specs.Endings.{no_devices}
use Rattle.tl_command.specs.Runs.{refused}
use Rattle.tl_command.proofs.Databases.{performs_unread}
use Rattle.tl_master.specs.declared.error.MasterError.{MasterError}
use Rattle.tl_sources.specs.Expand.{refusal_of}
use Rattle.tl_sources.proofs.faults.fault_ends.Goals as goal

pub returns-in-BadMarks : goal.returns-in-BadMarks
returns-in-BadMarks g c command old asked cause is =
    c.refuse_asked.ensures command old asked
    (λ t v stood. subst (λ (f : MasterError). IfSome (refusal_of c.args.name.now f) (λ refusal. command v ≡ refused refusal)) c.in-BadMarks.is (is t v stood))

pub returns-in-BadSource : goal.returns-in-BadSource
returns-in-BadSource g c command old asked cause is =
    c.refuse_asked-in-BadSource.ensures command old asked
    (λ t v stood. subst (λ (f : MasterError). IfSome (refusal_of c.args.name.now f) (λ refusal. command v ≡ refused refusal)) c.in-BadSource.is (is t v stood))

pub returns-in-UnsetVariable : goal.returns-in-UnsetVariable
returns-in-UnsetVariable g c command old asked cause is =
    c.refuse_asked-in-UnsetVariable.ensures command old asked
    (λ t v stood. subst (λ (f : MasterError). IfSome (refusal_of c.args.name.now f) (λ refusal. command v ≡ refused refusal)) c.in-UnsetVariable.is (is t v stood))

pub returns-in-BadPath : goal.returns-in-BadPath
returns-in-BadPath g c command old asked cause is =
    c.refuse_asked-in-BadPath.ensures command old asked
    (λ t v stood. subst (λ (f : MasterError). IfSome (refusal_of c.args.name.now f) (λ refusal. command v ≡ refused refusal)) c.in-BadPath.is (is t v stood))

pub returns-in-Regexp : goal.returns-in-Regexp
returns-in-Regexp g c command old asked cause is =
    c.refuse_asked-in-Regexp.ensures command old asked
    (λ t v stood. subst (λ (f : MasterError). IfSome (refusal_of c.args.name.now f) (λ refusal. command v ≡ refused refusal)) c.in-Regexp.is (is t v stood))

pub returns-in-NoSource : goal.returns-in-NoSource
returns-in-NoSource g c command old asked cause is =
    c.refuse_name.ensures command old asked
    (λ t v stood. subst (λ (f : MasterError). IfSome (refusal_of c.args.name.now f) (λ refusal. command v ≡ refused refusal)) c.in-NoSource.is (is t v stood))

pub returns-in-TooLarge : goal.returns-in-TooLarge
returns-in-TooLarge g c command old asked cause is =
    c.refuse_asked-in-TooLarge.ensures command old asked
    (λ t v stood. subst (λ (f : MasterError). IfSome (refusal_of c.args.name.now f) (λ refusal. command v ≡ refused refusal)) c.in-TooLarge.is (is t v stood))

pub returns-in-HostFault : goal.returns-in-HostFault
returns-in-HostFault g c command old asked cause is =
    performs_unread g.H.Host.tells g.H.Host.seen old.seen no_devices no_devices command c.into_host.result c.args.tree.seen (c.into_host.ensures ∙ c.release.ensures) asked.quiet asked.later (cause c.in-HostFault.is)

pub returns-in-NoMemory : goal.returns-in-NoMemory
returns-in-NoMemory g c command old asked cause is = c.give_up_asked.ensures command old asked
