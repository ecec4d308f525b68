-- What is answered of a pattern.
use Rattle.std.specs.Prelude.{◌≡◌, ℕ, List, Option, None, Some, Result, Ok, Err, MatchResult}
use Rattle.tl_model.specs.Devices.{Verdict, Read, Syntax, Size, RegexpsSeen}
use Rattle.tl_regexp.specs.Answers.{Answers}
use Rattle.tl_regexp.specs.declared.regexp.RegexpError.{RegexpError}
use Rattle.tl_regexp.specs.declared.regexp.RegexpError.TheVariants as regexp
use Rattle.tl_pattern.specs.declared.kind.PatternKind.{PatternKind}
use Rattle.tl_pattern.specs.declared.kind.PatternKind.TheVariants.{F, D, T, R}
use Rattle.tl_pattern.specs.declared.error.PatternError.{PatternError}
use Rattle.tl_pattern.specs.declared.error.PatternError.TheVariants as errors
use Rattle.tl_pattern.specs.Form.{HasForm}

-- why a text is no pattern where it is no regular expression
abbrev pub of_regexp : RegexpError → PatternError
of_regexp regexp.Syntax = errors.Syntax
of_regexp regexp.Size = errors.Size
of_regexp regexp.NoMemory = errors.NoMemory

-- the cause of each refusal but want of memory: the text hasn't the form; or it is a regular expression
abbrev pub IsPatternErrorOf : PatternKind → List ℕ → PatternError → Type 0
IsPatternErrorOf kind text errors.BadPath = ¬ (HasForm kind text)
IsPatternErrorOf kind text errors.Syntax = (kind ≡ R) × HasForm kind text
IsPatternErrorOf kind text errors.Size = (kind ≡ R) × HasForm kind text
IsPatternErrorOf kind text errors.NoMemory = Unit {0}

-- the cause of each refusal of a form that holds or not: it doesn't hold; want of memory has none
abbrev pub IsFormError : Type 0 → PatternError → Type 0
IsFormError form errors.BadPath = ¬ form
IsFormError form errors.Syntax = ⊥
IsFormError form errors.Size = ⊥
IsFormError form errors.NoMemory = Unit {0}

-- the verdict that an answer gives on a regular expression
abbrev pub regexp_verdict : {P : Type 0} → Result P PatternError → Option Verdict
regexp_verdict (Ok pattern) = Some Read
regexp_verdict (Err errors.BadPath) = None
regexp_verdict (Err errors.Syntax) = Some Syntax
regexp_verdict (Err errors.Size) = Some Size
regexp_verdict (Err errors.NoMemory) = None

-- the verdict that an answer gives: none on another kind
abbrev pub verdict_by : {P : Type 0} → PatternKind → Result P PatternError → Option Verdict
verdict_by F answer = None
verdict_by D answer = None
verdict_by T answer = None
verdict_by R answer = regexp_verdict answer

-- what is answered of a pattern, and what the maker of regular expressions is seen as before and afterwards: an answer but want of
-- memory is as the text's form has it, and a regular expression has its verdict
pub record Compiles {P : Type 0} (kind : PatternKind) (text : List ℕ) (old new : RegexpsSeen) (answer : Result P PatternError) : Type 0 where
  pub form : MatchResult answer (λ _. HasForm kind text) (IsPatternErrorOf kind text)
  pub verdict : Answers text old new (verdict_by kind answer)
