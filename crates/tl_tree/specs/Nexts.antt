-- The names behind those below the journal's folder.
use Rattle.std.specs.Prelude.{◌≡◌, ◌⊎◌, Option, Some, None, IsSome, codes}
use Rattle.tl_model.specs.Volume.{Name, Volume, at, IsBefore, IsNext}

-- the first name behind all names below the journal's folder
abbrev pub behind : Name
behind = codes "tlpkg/journal0"

-- the least name from that one on; None where there is none
abbrev pub IsNextFrom : Volume → Option Name → Type 0
IsNextFrom volume found = (IsSome (at volume behind) × (found ≡ Some behind)) ⊎ ((at volume behind ≡ None) × IsNext volume (Some behind) found)

-- a name is that one or comes after it
abbrev pub IsFrom : Name → Type 0
IsFrom name = (name ≡ behind) ⊎ IsBefore behind name
