-- What a command does that finds verdicts on patterns on its way.
use Rattle.std.specs.Prelude.{◌≡◌, ℕ, Bool, Result, Some}
use Rattle.tl_model.specs.Devices.{Verdicts, RegexpsSeen}
use Rattle.tl_model.specs.Seen.{Seen, Told}
use Rattle.tl_model.specs.Volume.{Volume}
use Rattle.tl_journal_text.specs.Stand.{stand}
use Rattle.tl_auto.specs.Pushing.{KeepsVerdicts, KeepsRegexps}
use Rattle.tl_refusal.specs.declared.refusal.Refusal.{Refusal}
use Rattle.tl_refusal.specs.declared.refusal.Refusal.TheVariants.{Regexp}
use Rattle.tl_command.specs.declared.ending.Ending.{Ending}
use Rattle.tl_command.specs.declared.ending.Ending.TheVariants.{Refused}
use Rattle.tl_command.specs.Endings.{no_devices}
use Rattle.tl_command.specs.Performs.{Performs}
use Rattle.tl_command.specs.Runs.{Run}
use Rattle.tl_master.specs.Answers.{IsKindCause}

-- a pattern is refused for its size only where so many such refusals rose to so many
abbrev pub IsSizeRefusal : ℕ → ℕ → Refusal → Type 0
IsSizeRefusal before now (Regexp name line kind) = IsKindCause before now kind
IsSizeRefusal before now _ = Unit {0}

-- the same of an ending
abbrev pub IsSizeEnding : ℕ → ℕ → Ending → Type 0
IsSizeEnding before now (Refused refusal) = IsSizeRefusal before now refusal
IsSizeEnding before now _ = Unit {0}

-- a command was carried out whose run is a function of verdicts on patterns: of those that stand after it, and of any that keep these. No
-- verdict is changed, and where the host tells and the volume stands for a tree, a pattern is refused for its size only where the count
-- of such refusals rose
pub record PerformsBy {T : Type 0} (tells : Bool) (seen : T → Seen) (command : Verdicts → Volume → Run) (first : Seen) (before after : RegexpsSeen)
    (ending : Ending) (state : Result Seen T) : Type 0 where
  pub performs : (later : Verdicts) → KeepsVerdicts after.verdicts later → Performs tells seen (command later) 0 first no_devices no_devices ending state
  pub regexps : KeepsRegexps before after
  pub size : Told tells ((tree : Volume) → stand first.present.held ≡ Some tree → IsSizeEnding before.refusals after.refusals ending)
