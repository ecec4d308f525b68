-- The files that a device in memory is made of.
use Rattle.std.specs.Prelude.{◌≡◌, List, [], ◌∷◌, ◌++◌, None, IsSome}
use Rattle.std.specs.FinMap as map
use Rattle.tl_model.specs.Volume.{Name, Volume, at}
use Rattle.tl_file.specs.declared.file.FileBytes.{FileBytes}
use Rattle.tl_memhost.specs.declared.given.MemError.{MemError}
use Rattle.tl_memhost.specs.declared.given.MemError.TheVariants.{Repeated, NoMemory}

-- what these files hold
abbrev pub given : List FileBytes → Volume
given [] = map.empty
given (f ∷ fs) = map.insert (given fs) f.path f.bytes

-- no two of them have one path
abbrev pub AreApart : List FileBytes → Type 0
AreApart [] = Unit {0}
AreApart (f ∷ fs) = (at (given fs) f.path ≡ None) × AreApart fs

-- a path is that of the first file whose path an earlier one has
pub record IsRepeated (files : List FileBytes) (path : Name) : Type 0 where
  pub earlier : List FileBytes
  pub file : FileBytes
  pub later : List FileBytes
  pub split : files ≡ earlier ++ file ∷ later
  pub is : path ≡ file.path
  pub apart : AreApart earlier
  pub again : IsSome (at (given earlier) path)

-- why files aren't taken
abbrev pub IsRefusal : List FileBytes → MemError → Type 0
IsRefusal files (Repeated path) = IsRepeated files path
IsRefusal files NoMemory = Unit {0}
