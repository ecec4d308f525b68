-- The effective patterns of a section, or what is wrong with the first that is no pattern.
use Rattle.std.specs.Prelude.{ℕ, ◌&&◌, nat_le, Bool, if◌then◌else◌, List, [], ◌∷◌, ◌++◌, length, Option, None, Some, is_some, unwrap_or, Result, Ok, Err}
use Rattle.std.specs.Str.{is_utf8}
use Rattle.std.specs.List.{list_all}
use Rattle.std.specs.FinMap as finite
use Rattle.tl_model.specs.Devices.{Verdict, Verdicts, Read, Syntax, Size}
use Rattle.tl_model.specs.Words.{fields}
use Rattle.tl_path.specs.Components.{components}
use Rattle.tl_regexp.specs.Finds.{reading}
use Rattle.tl_pattern.specs.Form.{folder_of, is_path, is_component, has_plain_folder}
use Rattle.tl_pattern.specs.declared.kind.PatternKind.{PatternKind}
use Rattle.tl_pattern.specs.declared.kind.PatternKind.TheVariants.{F, D, T, R}
use Rattle.tl_pattern.specs.declared.pattern.PlacedPattern.{PlacedPattern}
use Rattle.tl_srctext.specs.declared.fields.SourceFields.{SourceFields}
use Rattle.tl_auto.specs.declared.error.AutoError.{AutoError}
use Rattle.tl_auto.specs.declared.error.AutoError.TheVariants as errors
use Rattle.tl_auto.specs.declared.section.Section.{Section}
use Rattle.tl_auto.specs.Variables.{Setting, replaced}
use Rattle.tl_auto.specs.Wanted.{Wanted, platform_in, wanted_in}

-- whether a text has the form of a kind
abbrev pub is_formed : PatternKind → List ℕ → Bool
is_formed F text = is_path text && has_plain_folder (components text)
is_formed D text = is_path (folder_of text)
is_formed T text = nat_le 2 (length (fields text)) && list_all is_component (fields text)
is_formed R text = is_utf8 text

-- the verdict on a regular expression: the one that stands, else by whether the grammar reads it
abbrev pub judged : Verdicts → List ℕ → Verdict
judged verdicts text = unwrap_or (finite.get verdicts text) (if is_some (reading text) then Read else Syntax)

-- the verdict on a text of a kind
abbrev pub verdict_on : Verdicts → PatternKind → List ℕ → Verdict
verdict_on verdicts F text = Read
verdict_on verdicts D text = Read
verdict_on verdicts T text = Read
verdict_on verdicts R text = judged verdicts text

-- a pattern of a line, by the verdict on it
abbrev pub by_verdict : ℕ → PlacedPattern → Verdict → Result PlacedPattern AutoError
by_verdict line pattern Read = Ok pattern
by_verdict line pattern Syntax = Err (errors.Syntax line)
by_verdict line pattern Size = Err (errors.Size line)

-- the pattern that is wanted, with its text
abbrev pub placed_with : Wanted → List ℕ → PlacedPattern
placed_with wanted text = record { positive = wanted.positive; pattern = record { kind = wanted.kind; text = text } }

-- the pattern of a text that has its form
abbrev pub formed : Verdicts → Wanted → List ℕ → Result PlacedPattern AutoError
formed verdicts wanted text = if is_formed wanted.kind text then by_verdict wanted.line (placed_with wanted text) (verdict_on verdicts wanted.kind text)
    else Err (errors.BadPath wanted.line)

-- the pattern of a text whose variables were replaced, if each is set
abbrev pub behind_values : Verdicts → Wanted → Option (List ℕ) → Result PlacedPattern AutoError
behind_values verdicts wanted None = Err (errors.UnsetVariable wanted.line)
behind_values verdicts wanted (Some text) = formed verdicts wanted (text ++ wanted.suffix)

-- the pattern that is wanted
abbrev pub compiled : Verdicts → Setting → Wanted → Result PlacedPattern AutoError
compiled verdicts setting wanted = behind_values verdicts wanted (replaced setting wanted.text)

-- a pattern before some others, if there is each
abbrev pub before_others : Result PlacedPattern AutoError → Result (List PlacedPattern) AutoError → Result (List PlacedPattern) AutoError
before_others (Err fault) others = Err fault
before_others (Ok pattern) (Err fault) = Err fault
before_others (Ok pattern) (Ok patterns) = Ok (pattern ∷ patterns)

-- the patterns that are wanted, or the first fault among them
abbrev pub all_compiled : Verdicts → Setting → List Wanted → Result (List PlacedPattern) AutoError
all_compiled verdicts setting [] = Ok []
all_compiled verdicts setting (w ∷ ws) = before_others (compiled verdicts setting w) (all_compiled verdicts setting ws)

-- what variables stand for in a section
abbrev pub setting_in : SourceFields → Section → List (List ℕ) → Setting
setting_in source section platforms = record { source = source; platform = platform_in section platforms }

-- the effective patterns of a section, or the first fault among them
unfoldable pub effective : Verdicts → SourceFields → Section → List (List ℕ) → Result (List PlacedPattern) AutoError
effective verdicts source section platforms =
    all_compiled verdicts (setting_in source section platforms) (wanted_in source section (platform_in section platforms))
