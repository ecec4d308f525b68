-- What words come to.
use Rattle.std.specs.Prelude.{◌≡◌, Bool, Option, Some, None}
use Rattle.tl_model.specs.Seen.{Seen, Told}
use Rattle.tl_words.specs.declared.faults.Fault.{Fault}
use Rattle.tl_refusal.specs.declared.refusal.Refusal.TheVariants.{BadWords}
use Rattle.tl_command.specs.declared.ending.Ending.{Ending}
use Rattle.tl_command.specs.Endings.{IsWordless}
use Rattle.tl_command.specs.Whole.{IsRefusalOr}

-- what words end as: those with a fault as its refusal, or by a fault of the host or for want of memory; those without one never as such
-- a refusal
abbrev pub IsEndingOf : Option Fault → Ending → Type 0
IsEndingOf (Some fault) ending = IsRefusalOr (BadWords fault.at fault.kind) ending
IsEndingOf None ending = IsWordless ending → ⊥

-- no name has changed or been touched, where words have a fault
abbrev pub KeepsNames : Option Fault → Seen → Seen → Type 0
KeepsNames (Some fault) first last = (last.present.held ≡ first.present.held) × (last.present.touched ≡ first.present.touched)
KeepsNames None first last = Unit {0}

-- what words come to by their fault alone: over any host the ending, and where the host tells, the names
pub record AnswersWords (tells : Bool) (fault : Option Fault) (answer : Ending) (first last : Seen) : Type 0 where
  pub ending : IsEndingOf fault answer
  pub names : Told tells (KeepsNames fault first last)
