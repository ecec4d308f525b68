-- What a regular expression finds: the grammar reads it between `^` and `$`.
use Rattle.std.specs.Prelude.{◌≡◌, ℕ, ◌<◌, ◌≤◌, Bool, false, List, [], ◌∷◌, ◌++◌, All, Option, None, Some, IsSomeAnd, IfSome, is_some}
use Rattle.std.specs.Str.{chars}
use Rattle.tl_model.specs.Devices.{Verdict, Read, Syntax, Size}
use Rattle.regex.specs.Patterns.{Re, find_str, default_config}
use Rattle.regex.specs.Strings.{regex_source, regex_config, IsReadFromSource}
use Rattle.regex.specs.declared.string.regex.Regex.{Regex}
use Rattle.regex_syntax.specs.Grammar.{Names, read}
use Rattle.regex_syntax.specs.Brackets.{Nested}

-- a text between `^` and `$`
abbrev pub anchored : List ℕ → List ℕ
anchored text = 94 ∷ text ++ 36 ∷ []

-- what the grammar reads in the text between `^` and `$`: a pattern, how deep it nests, and the names of its groups
abbrev pub reading : List ℕ → Option (Nested Re × Names)
reading text = read default_config (chars (anchored text))

-- whether what was read is found in a path
abbrev pub is_found : Option (Nested Re × Names) → List ℕ → Bool
is_found None path = false
is_found (Some found) path = is_some (find_str found.0.value path 0)

-- whether the regular expression finds the whole path
unfoldable pub finds : List ℕ → List ℕ → Bool
finds text path = is_found (reading text) path

-- the grammar reads a pattern, no deeper than the limit
abbrev pub IsRead : List ℕ → Type 0
IsRead text = IsSomeAnd (reading text) (λ found. found.0.depth ≤ default_config.nest_limit)

-- the grammar reads no pattern, or only one that is deeper than the limit
abbrev pub IsNotRead : List ℕ → Type 0
IsNotRead text = IfSome (reading text) (λ found. default_config.nest_limit < found.0.depth)

-- where a verdict may stand on a text
abbrev pub MayStand : List ℕ → Verdict → Type 0
MayStand text Read = IsRead text
MayStand text Syntax = IsNotRead text
MayStand text Size = Unit {0}

-- the compiled pattern is that of the text between `^` and `$`
pub record IsOf (text : List ℕ) (regex : Regex) : Type 0 where
  pub source : regex_source regex ≡ anchored text
  pub config : regex_config regex ≡ default_config
  pub read : IsReadFromSource regex

-- a search for the pattern says of each path what the regular expression does
abbrev pub FindsAs : List ℕ → Re → Type 0
FindsAs text re = (path : List ℕ) → All (λ b. b < 256) path → is_some (find_str re path 0) ≡ finds text path
