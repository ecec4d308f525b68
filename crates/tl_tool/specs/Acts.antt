-- What carrying a command out over a shelf does.
use Rattle.std.specs.Prelude.{◌≡◌, ◌&&◌, Bool, List, Result, Some}
use Rattle.tl_model.specs.Volume.{Volume}
use Rattle.tl_model.specs.Devices.{ShelfSeen, RegexpsSeen, Outside}
use Rattle.tl_model.specs.Seen.{Seen, Told}
use Rattle.tl_journal_text.specs.Stand.{stand}
use Rattle.tl_action.specs.declared.command.Action.{Action}
use Rattle.tl_action.specs.declared.command.Command.{Command}
use Rattle.tl_action.specs.declared.command.Repository.{Repository}
use Rattle.tl_auto.specs.Pushing.{KeepsVerdicts}
use Rattle.tl_command.specs.declared.ending.Ending.{Ending}
use Rattle.tl_command.specs.Endings.{no_devices}
use Rattle.tl_command.specs.Performs.{Performs}
use Rattle.tl_command.specs.Whole.{Runs}
use Rattle.tl_tool.specs.Commands.{action_run, act_of, tells_all}
use Rattle.tl_tool.specs.Outsides.{over_shelf, shelf_faults}

-- a command was carried out over a shelf that was seen as old before and as new after, with a maker of patterns that is seen so after it,
-- whatever else is outside, and whatever verdicts come later; input says whether the input tells what is left
abbrev pub Acts : {T : Type 0} → Bool → Bool → (T → Seen) → Command → Seen → ShelfSeen → ShelfSeen → RegexpsSeen → Ending → Result Seen T → Type 0
Acts shelf host seen command first old new regexps ending state = (outside : Outside) (input : Bool) → outside.repositories ≡ old.repositories
    → KeepsVerdicts regexps.verdicts outside.verdicts → Performs (tells_all command.action shelf input host) seen (act_of command outside) 0 first (shelf_faults old) (shelf_faults new) ending state

-- an action was carried out, with formats or without, that reads neither repositories nor the input, whatever is outside
abbrev pub ActsAlone : {T : Type 0} → Bool → (T → Seen) → Action → Bool → Seen → Ending → Result Seen T → Type 0
ActsAlone host seen action formats first ending state = (repositories : List Repository) (outside : Outside)
    → Performs host seen (action_run action repositories formats outside) 0 first no_devices no_devices ending state

-- an action was carried out that compiles patterns and reads neither repositories nor the input, with a maker of patterns that is seen
-- so after it, whatever verdicts come later
abbrev pub ActsMatching : {T : Type 0} → Bool → (T → Seen) → Action → Seen → RegexpsSeen → Ending → Result Seen T → Type 0
ActsMatching host seen action first regexps ending state = (repositories : List Repository) (formats : Bool) (outside : Outside)
    → KeepsVerdicts regexps.verdicts outside.verdicts → Performs host seen (action_run action repositories formats outside) 0 first no_devices no_devices ending state

-- an action was carried out with these repositories over a shelf that was seen as old before and as new after
abbrev pub ActsOver : {T : Type 0} → Bool → Bool → (T → Seen) → Action → List Repository → Bool → Seen → ShelfSeen → ShelfSeen → Ending → Result Seen T → Type 0
ActsOver shelf host seen action repositories formats first old new ending state =
    Performs (shelf && host) seen (action_run action repositories formats (over_shelf old)) 0 first (shelf_faults old) (shelf_faults new) ending state

-- the run of a command was made from first to last, whatever else is outside, and whatever verdicts come later
abbrev pub MakesRun : Bool → Bool → Command → Ending → Seen → Seen → ShelfSeen → RegexpsSeen → Type 0
MakesRun shelf host command ending first last old regexps = (outside : Outside) (input : Bool) → outside.repositories ≡ old.repositories
    → KeepsVerdicts regexps.verdicts outside.verdicts → Told (tells_all command.action shelf input host) ((tree : Volume) → stand first.present.held ≡ Some tree → Runs (act_of command outside tree) ending first last tree)
