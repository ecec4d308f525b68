-- Why a text is no glob.
use Rattle.std.specs.Prelude.{◌≡◌, ℕ, ◌<◌, List, [], length}
use Rattle.tl_glob.specs.declared.glob.GlobError.{GlobError}
use Rattle.tl_glob.specs.declared.glob.GlobError.TheVariants.{Empty, NoMemory}

-- the text is empty; memory is asked for where it isn't
abbrev pub IsGlobErrorOf : List ℕ → GlobError → Type 0
IsGlobErrorOf text Empty = text ≡ []
IsGlobErrorOf text NoMemory = 0 < length text
