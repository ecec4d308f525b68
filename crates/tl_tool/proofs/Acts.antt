-- A command that reads less than the whole outside, as one over all of it.
use Rattle.std.proofs.Common.{◌≡◌, Bool, true, false, not, ◌&&◌, ◌||◌, List, Option, Some, None, Result, inr, refl, sym, subst, arith}
use Rattle.std.specs.Prelude.{IsTrue, IsSome}
use Rattle.tl_model.specs.Volume.{Volume}
use Rattle.tl_model.specs.Devices.{ShelfSeen, SourceSeen, RegexpsSeen, Outside}
use Rattle.tl_model.specs.Seen.{Seen}
use Rattle.tl_tree.specs.Planted.{database_text}
use Rattle.tl_action.specs.declared.command.Action.{Action}
use Rattle.tl_action.specs.declared.command.Action.TheVariants as actions
use Rattle.tl_action.specs.declared.command.Command.{Command}
use Rattle.tl_action.specs.declared.command.Repository.{Repository}
use Rattle.tl_words.specs.declared.faults.Fault.{Fault}
use Rattle.tl_command.specs.declared.ending.Ending.{Ending}
use Rattle.tl_command.specs.declared.ending.Ending.TheVariants.{Done, Refused, HostFault, ShelfFault, InputFault, NoMemory}
use Rattle.tl_command.specs.Endings.{no_devices, IsCarried, IsCaused}
use Rattle.tl_command.specs.Performs.{Performs}
use Rattle.tl_command.specs.Runs.{Run, over_database}
use Rattle.tl_command.proofs.Joins.{performs_alone, performs_fewer}
use Rattle.tl_install.specs.Install.{install_run}
use Rattle.tl_update.specs.Update.{update_run}
use Rattle.tl_show.specs.Candidates.{candidates_run}
use Rattle.tl_show.specs.Info.{info_run}
use Rattle.tl_show.specs.Opening.{over_offer}
use Rattle.tl_show.specs.Search.{search_run}
use Rattle.tl_tool.specs.Acts.{Acts, ActsAlone, ActsMatching, ActsOver}
use Rattle.tl_tool.specs.Commands.{action_run, act_of, install_ask, update_ask, reads_repositories, reads_input, tells_all}
use Rattle.tl_tool.specs.Outsides.{faults_of, over_shelf, shelf_faults}
use Rattle.tl_tool.specs.Top.{AnswersWords}

pub both : (a b : Bool) → (a && b) ≡ true → (a ≡ true) × (b ≡ true)
both true b is = (refl, is)
both false b is = absurd (cc)

-- where all that an action reads tells what it holds, the host does
pub tells_all-host : (action : Action) (shelf input host : Bool) → IsTrue (tells_all action shelf input host) → IsTrue host
tells_all-host action shelf input host told =
    let parts = both (not (reads_repositories action) || shelf) ((not (reads_input action) || input) && host) told in
    (both (not (reads_input action) || input) host parts.1).1

-- an action that was carried out as this one, which it is
pub acts_as : {T : Type 0} (host : Bool) (seen : T → Seen) (action this : Action) (formats : Bool) (first : Seen) (ending : Ending) (state : Result Seen T)
    → action ≡ this → ActsAlone host seen this formats first ending state → ActsAlone host seen action formats first ending state
acts_as host seen action this formats first ending state is acts = subst (λ (a : Action). ActsAlone host seen a formats first ending state) (sym is) acts

-- a command that reads neither repositories nor the input, and compiles no patterns
pub acts-alone : {T : Type 0} (shelf host : Bool) (seen : T → Seen) (command : Command) (first : Seen) (old : ShelfSeen) (regexps : RegexpsSeen) (ending : Ending) (state : Result Seen T)
    → ActsAlone host seen command.action command.formats first ending state → Acts shelf host seen command first old old regexps ending state
acts-alone shelf host seen command first old regexps ending state performs outside input same later =
    performs_fewer (tells_all command.action shelf input host) host (tells_all-host command.action shelf input host) seen 0 first (shelf_faults old) (shelf_faults old) ending state (act_of command outside)
    (performs_alone host seen 0 first (shelf_faults old) (shelf_faults old) ending state (act_of command outside) (performs command.repositories outside))

told_over : (action : Action) (shelf input host : Bool) → reads_repositories action ≡ true → IsTrue (tells_all action shelf input host) → IsTrue (shelf && host)
told_over action shelf input host over told =
    let parts = both (not (reads_repositories action) || shelf) ((not (reads_input action) || input) && host) told in
    let of_shelf : shelf ≡ true = subst (λ b. (not b || shelf) ≡ true) over parts.0 in
    subst (λ b. (b && host) ≡ true) (sym of_shelf) (both (not (reads_input action) || input) host parts.1).1

-- an action that reads repositories was carried out as this one, which it is
pub over_as : {T : Type 0} (shelf host : Bool) (seen : T → Seen) (action this : Action) (repositories : List Repository) (formats : Bool) (first : Seen) (old new : ShelfSeen) (ending : Ending)
    (state : Result Seen T) → action ≡ this → ActsOver shelf host seen this repositories formats first old new ending state → ActsOver shelf host seen action repositories formats first old new ending state
over_as shelf host seen action this repositories formats first old new ending state is acts =
    subst (λ (a : Action). ActsOver shelf host seen a repositories formats first old new ending state) (sym is) acts

-- what holds of an action's run over the repositories alone holds of it over all that is outside
over_shelf-run : (P : (Volume → Run) → Type 0) (action : Action) (repositories : List Repository) (formats : Bool) (outside : Outside) (old : ShelfSeen) → reads_repositories action ≡ true
    → outside.repositories ≡ old.repositories → P (action_run action repositories formats (over_shelf old)) → P (action_run action repositories formats outside)
over_shelf-run P (actions.Info name) repositories formats outside old over same p = subst (λ volumes. P (over_offer repositories volumes (info_run name))) (sym same) p
over_shelf-run P (actions.Search word) repositories formats outside old over same p = subst (λ volumes. P (over_offer repositories volumes (search_run word))) (sym same) p
over_shelf-run P (actions.Candidates name) repositories formats outside old over same p = subst (λ volumes. P (over_offer repositories volumes (candidates_run name))) (sym same) p
over_shelf-run P (actions.Install names no_depends no_depends_at_all reinstall) repositories formats outside old over same p =
    subst (λ volumes. P (λ tree. over_database (install_run names (install_ask no_depends no_depends_at_all reinstall) formats repositories volumes tree) (database_text tree))) (sym same) p
over_shelf-run P (actions.Update names every no_auto_install no_auto_remove reinstall_forced) repositories formats outside old over same p =
    subst (λ volumes. P (λ tree. over_database (update_run names (update_ask every no_auto_install no_auto_remove reinstall_forced) formats repositories volumes tree) (database_text tree))) (sym same) p
over_shelf-run P (actions.Expand name) repositories formats outside old over same p = absurd (cc)
over_shelf-run P _ repositories formats outside old over same p = p

-- a command that compiles patterns, and reads neither repositories nor the input
pub acts-matching : {T : Type 0} (shelf host : Bool) (seen : T → Seen) (command : Command) (first : Seen) (old : ShelfSeen) (regexps : RegexpsSeen) (ending : Ending) (state : Result Seen T)
    → ActsMatching host seen command.action first regexps ending state → Acts shelf host seen command first old old regexps ending state
acts-matching shelf host seen command first old regexps ending state performs outside input same later =
    performs_fewer (tells_all command.action shelf input host) host (tells_all-host command.action shelf input host) seen 0 first (shelf_faults old) (shelf_faults old) ending state (act_of command outside)
    (performs_alone host seen 0 first (shelf_faults old) (shelf_faults old) ending state (act_of command outside) (performs command.repositories command.formats outside later))

-- an action that compiles patterns was carried out as this one, which it is
pub matches_as : {T : Type 0} (host : Bool) (seen : T → Seen) (action this : Action) (first : Seen) (regexps : RegexpsSeen) (ending : Ending) (state : Result Seen T)
    → action ≡ this → ActsMatching host seen this first regexps ending state → ActsMatching host seen action first regexps ending state
matches_as host seen action this first regexps ending state is acts = subst (λ (a : Action). ActsMatching host seen a first regexps ending state) (sym is) acts

-- a command that reads repositories and not the input
pub acts-over : {T : Type 0} (shelf host : Bool) (seen : T → Seen) (command : Command) (first : Seen) (old new : ShelfSeen) (regexps : RegexpsSeen) (ending : Ending) (state : Result Seen T) → reads_repositories command.action ≡ true
    → ActsOver shelf host seen command.action command.repositories command.formats first old new ending state → Acts shelf host seen command first old new regexps ending state
acts-over shelf host seen command first old new regexps ending state over performs outside input same later =
    performs_fewer (tells_all command.action shelf input host) (shelf && host) (told_over command.action shelf input host over) seen 0 first (shelf_faults old) (shelf_faults new) ending state (act_of command outside)
    (over_shelf-run (λ run. Performs (shelf && host) seen run 0 first (shelf_faults old) (shelf_faults new) ending state) command.action command.repositories command.formats outside old over same performs)

-- the cause of an ending of a command that is given no input, beside any
pub caused-beside : (ending : Ending) (first last : Seen) (old new : ShelfSeen) (left lost : SourceSeen) → IsCaused ending first last (shelf_faults old) (shelf_faults new)
    → IsCaused ending first last (faults_of old left) (faults_of new lost)
caused-beside Done first last old new left lost cause = cause
caused-beside (Refused refusal) first last old new left lost cause = cause
caused-beside HostFault first last old new left lost cause = cause
caused-beside ShelfFault first last old new left lost cause = cause
caused-beside InputFault first last old new left lost cause = absurd (omega (arith, cause))
caused-beside NoMemory first last old new left lost cause = cause

-- words may end for want of memory, whatever their fault
pub answers-no_memory : (tells : Bool) (fault : Option Fault) (first : Seen) → AnswersWords tells fault NoMemory first first
answers-no_memory tells (Some fault) first = record { ending = inr (inr refl); names = λ t. (refl, refl) }
answers-no_memory tells None first = record { ending = λ none. none; names = λ t. tt }

-- a volume that stood for a tree and wasn't recovered: nothing was carried out or refused
pub failed-apart : {A : Type 0} (stood : Option Volume) (ending : Ending) → ((tree : Volume) → stood ≡ Some tree → ending ≡ HostFault) → IsSome stood → IsCarried ending → A
failed-apart None ending fault some carried = absurd (cc)
failed-apart (Some tree) ending fault some carried = absurd (subst IsCarried (fault tree refl) carried)
