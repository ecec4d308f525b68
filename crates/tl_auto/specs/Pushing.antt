-- What calls answer by verdicts that are found on the way, and what they leave of the maker of regular expressions.
use Rattle.std.specs.Prelude.{◌≡◌, ℕ, ◌≤◌, List, ◌++◌, Option, Some, IfSome, IfErr, Result, Ok, Err}
use Rattle.std.specs.FinMap as finite
use Rattle.tl_model.specs.Causes.{Rose}
use Rattle.tl_model.specs.Devices.{Verdicts, RegexpsSeen}
use Rattle.tl_pattern.specs.declared.pattern.PlacedPattern.{PlacedPattern}
use Rattle.tl_auto.specs.declared.error.AutoError.{AutoError}
use Rattle.tl_auto.specs.declared.error.AutoError.TheVariants.{UnsetVariable, BadPath, Syntax, Size, NoMemory}
use Rattle.tl_auto.specs.Variables.{Setting}
use Rattle.tl_auto.specs.Wanted.{Wanted}
use Rattle.tl_auto.specs.Effective.{all_compiled}

-- each verdict still stands
abbrev pub KeepsVerdicts : Verdicts → Verdicts → Type 0
KeepsVerdicts old new = (text : List ℕ) → IfSome (finite.get old text) (λ verdict. finite.get new text ≡ Some verdict)

-- each verdict still stands, and the count of refusals for size didn't fall
pub record KeepsRegexps (old new : RegexpsSeen) : Type 0 where
  pub verdicts : KeepsVerdicts old.verdicts new.verdicts
  pub later : old.refusals ≤ new.refusals

-- a refusal for size comes only where the count of these rose
abbrev pub IsSizeCause : ℕ → ℕ → AutoError → Type 0
IsSizeCause before now (UnsetVariable line) = Unit {0}
IsSizeCause before now (BadPath line) = Unit {0}
IsSizeCause before now (Syntax line) = Unit {0}
IsSizeCause before now (Size line) = Rose before now
IsSizeCause before now NoMemory = Unit {0}

-- an answer is the one that was to be given; want of memory may come in place of any
abbrev pub IsAnswered : {V T : Type 0} → (T → V) → Result V AutoError → Result T AutoError → Type 0
IsAnswered view wanted (Ok value) = wanted ≡ Ok (view value)
IsAnswered view wanted (Err (UnsetVariable line)) = wanted ≡ Err (UnsetVariable line)
IsAnswered view wanted (Err (BadPath line)) = wanted ≡ Err (BadPath line)
IsAnswered view wanted (Err (Syntax line)) = wanted ≡ Err (Syntax line)
IsAnswered view wanted (Err (Size line)) = wanted ≡ Err (Size line)
IsAnswered view wanted (Err NoMemory) = Unit {0}

-- what a call answers: what was to be given by the verdicts that stand after the call, and by any that keep these
pub record Judges {V T : Type 0} (view : T → V) (wanted : Verdicts → Result V AutoError) (old new : RegexpsSeen) (answer : Result T AutoError) : Type 0 where
  pub answered : (later : Verdicts) → KeepsVerdicts new.verdicts later → IsAnswered view (wanted later) answer
  pub regexps : KeepsRegexps old new
  pub size : IfErr answer (IsSizeCause old.refusals new.refusals)

-- some patterns, and others behind them, if there are any
abbrev pub behind_patterns : List PlacedPattern → Result (List PlacedPattern) AutoError → Result (List PlacedPattern) AutoError
behind_patterns front (Ok patterns) = Ok (front ++ patterns)
behind_patterns front (Err fault) = Err fault

-- what a call that adds the patterns that are wanted to some others answers and leaves
abbrev pub Pushes : {T : Type 0} → Setting → List Wanted → List PlacedPattern → List PlacedPattern → RegexpsSeen → RegexpsSeen → Result T AutoError → Type 0
Pushes setting wanted before now old new answer =
    Judges (λ _. now) (λ verdicts. behind_patterns before (all_compiled verdicts setting wanted)) old new answer
