-- Why a plan by which packages come has no refusal.
use Rattle.std.specs.Prelude.{◌≡◌, Bool, Some}
use Rattle.tl_model.specs.Seen.{Seen, Told}
use Rattle.tl_model.specs.Volume.{Volume}
use Rattle.tl_journal_text.specs.Stand.{stand}
use Rattle.tl_coming.specs.Asked.{IsFree}
use Rattle.tl_coming.specs.declared.error.ComingError.{ComingError}
use Rattle.tl_coming.specs.declared.error.ComingError.TheVariants.{HostFault}
use Rattle.tl_refusal.specs.declared.refusal.Refusal.{Refusal}
use Rattle.tl_command.specs.Endings.{IsOfWords}
use Rattle.tl_command.specs.Runs.{Run, refused}
use Rattle.tl_install.specs.Install.{refused_plan}
use Rattle.tl_install.specs.declared.ending.Free.{Free}
use Rattle.tl_install.specs.declared.ending.Free.TheVariants.{Host, Memory}

-- an error of a plan is refused so, and not for words: the plan answers it
pub record RefusesPlan (error : ComingError) (refusal : Refusal) : Type 0 where
  pub plain : IsOfWords refusal → ⊥
  pub is : refused_plan error ≡ refused refusal
  pub answered : IsFree error → ⊥

-- an error of a plan that isn't refused
abbrev pub IsFreeOf : ComingError → Free → Type 0
IsFreeOf error Host = error ≡ HostFault
IsFreeOf error Memory = Unit {0}

-- a command that has no plan for this error is the run that refuses it, where the devices tell and it is refused
abbrev pub EndsPlan : Bool → (Volume → Run) → Seen → ComingError → Type 0
EndsPlan tells command first error =
    (refusal : Refusal) → RefusesPlan error refusal
    → Told tells ((tree : Volume) → stand first.present.held ≡ Some tree → command tree ≡ refused refusal)
