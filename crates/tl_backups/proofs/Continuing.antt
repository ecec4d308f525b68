-- A part of a command behind calls that change nothing, and planned steps.
use Rattle.std.proofs.Common.{◌≡◌, Bool, Some, Result, Err, sym, subst}
use Rattle.std.specs.Prelude.{IfSome}
use Rattle.tl_model.specs.Volume.{Volume}
use Rattle.tl_model.specs.Seen.{Seen, Told}
use Rattle.tl_journal_text.specs.Stand.{stand, tree_of}
use Rattle.tl_tree.specs.Planted.{Planted}
use Rattle.tl_backup.specs.Asked.{Answers, IsAsked}
use Rattle.tl_backup.specs.declared.error.BackupError.{BackupError}
use Rattle.tl_backup.specs.declared.error.BackupError.TheVariants as faults
use Rattle.tl_command.specs.declared.ending.Ending.{Ending}
use Rattle.tl_command.specs.Endings.{no_devices}
use Rattle.tl_command.specs.Performs.{Performs}
use Rattle.tl_command.specs.Runs.{Run}
use Rattle.tl_command.proofs.Databases.{same_tree}
use Rattle.tl_command.proofs.Joins.{advances_quiet, performs_quiet, performs_same}
use Rattle.tl_backups.specs.Faults.{refusal_of}

-- a run over the same tree, behind calls that change nothing
pub behind : {T : Type 0} (tells : Bool) (seen : T → Seen) (old mid : Planted) (asked : IsAsked tells old mid) (stands : Told tells (stand old.seen.present.held ≡ Some (tree_of old.seen.present.held)))
    (first last : Volume → Run) (ending : Ending) (state : Result Seen T) → Told tells (first (tree_of old.seen.present.held) ≡ last (tree_of old.seen.present.held))
    → Performs tells seen last 0 mid.seen no_devices no_devices ending state → Performs tells seen first 0 old.seen no_devices no_devices ending state
behind tells seen old mid asked stands first last ending state same performs =
    performs_same tells seen 0 old.seen no_devices no_devices ending state last first
    (λ t tree stood. subst (λ (v : Volume). last v ≡ first v) (same_tree old.seen tree (stands t) stood) (sym (same t)))
    (performs_quiet tells seen 0 old.seen no_devices no_devices ending state last mid.seen (advances_quiet tells old.seen mid.seen asked.quiet asked.later) performs)

-- what wasn't answered has a refusal, or another cause
pub unanswered : {X Y : Type 0} (view : X → Y) (fault : BackupError) (given : Result Y BackupError) → Answers view (Err fault) given → IfSome (refusal_of fault) (λ _. given ≡ Err fault)
unanswered view (faults.NotInstalled name) given is = is
unanswered view (faults.FileMissing path) given is = is
unanswered view (faults.TooLarge what limit) given is = is
unanswered view faults.HostFault given is = tt
unanswered view faults.NoMemory given is = tt
