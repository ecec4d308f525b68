-- A fault of a package's pattern, as a fault of a master.
use Rattle.std.proofs.Common.{◌≡◌, ℕ, List, Result, Err}
use Rattle.tl_model.specs.Devices.{Verdicts, RegexpsSeen}
use Rattle.tl_auto.specs.Pushing as judges
use Rattle.tl_auto.specs.declared.error.AutoError.{AutoError}
use Rattle.tl_auto.specs.declared.error.AutoError.TheVariants.{UnsetVariable, BadPath, Syntax, Size, NoMemory}
use Rattle.tl_master.specs.Answers.{Answers, IsSizeCause, Judges}
use Rattle.tl_master.specs.Sources.{pattern_fault}
use Rattle.tl_master.specs.declared.error.MasterError.{MasterError}
use Rattle.tl_master.specs.declared.error.MasterError.TheVariants.{HostFault}

fault_answers : {A B T U : Type 0} (view : T → A) (other : U → B) (name : List ℕ) (fault : AutoError) (wanted : Result A AutoError) (given : Result B MasterError) → ((f : AutoError) → wanted ≡ Err f → given ≡ Err (pattern_fault name f))
    → judges.IsAnswered view wanted (Err fault) → Answers other (Err (pattern_fault name fault)) given
fault_answers view other name (UnsetVariable line) wanted given goes is = goes (UnsetVariable line) is
fault_answers view other name (BadPath line) wanted given goes is = goes (BadPath line) is
fault_answers view other name (Syntax line) wanted given goes is = goes (Syntax line) is
fault_answers view other name (Size line) wanted given goes is = goes (Size line) is
fault_answers view other name NoMemory wanted given goes is = tt

fault_size : (before now : ℕ) (name : List ℕ) (fault : AutoError) → judges.IsSizeCause before now fault → IsSizeCause before now (pattern_fault name fault)
fault_size before now name (UnsetVariable line) cause = tt
fault_size before now name (BadPath line) cause = tt
fault_size before now name (Syntax line) cause = tt
fault_size before now name (Size line) cause = cause
fault_size before now name NoMemory cause = tt

no_host_fault : (name : List ℕ) (fault : AutoError) → pattern_fault name fault ≡ HostFault → ⊥
no_host_fault name (UnsetVariable line) is = cc
no_host_fault name (BadPath line) is = cc
no_host_fault name (Syntax line) is = cc
no_host_fault name (Size line) is = cc
no_host_fault name NoMemory is = cc

-- what ends at a fault of a package's pattern
pub fault_judged : {A B T U : Type 0} (view : T → A) (other : U → B) (name : List ℕ) (fault : AutoError) (wanted : Verdicts → Result A AutoError) (given : Verdicts → Result B MasterError) (before after : RegexpsSeen)
    → ((verdicts : Verdicts) (f : AutoError) → wanted verdicts ≡ Err f → given verdicts ≡ Err (pattern_fault name f))
    → judges.Judges view wanted before after (Err fault) → Judges other given before after (Err (pattern_fault name fault))
fault_judged view other name fault wanted given before after goes judged = record {
  answered = λ later keeps. fault_answers view other name fault (wanted later) (given later) (goes later) (judged.answered later keeps);
  own = no_host_fault name fault;
  regexps = judged.regexps;
  size = fault_size before.refusals after.refusals name fault judged.size;
}
