-- The repositories that a shelf in memory is made of.
use Rattle.std.specs.Prelude.{◌≡◌, List, ◌∷◌, ◌++◌, Vec}
use Rattle.std.specs.declared.alloc.Global.{Global}
use Rattle.std.specs.List.{AllByRecursion}
use Rattle.tl_model.specs.Volume.{Name}
use Rattle.tl_file.specs.declared.file.FileBytes.{FileBytes}
use Rattle.tl_memhost.specs.declared.given.MemError.{MemError}
use Rattle.tl_memhost.specs.declared.given.MemError.TheVariants.{Repeated, NoMemory}
use Rattle.tl_memhost.specs.Given.{AreApart, IsRepeated}

-- in each of them no two files have one path
abbrev pub EachApart : List (Vec FileBytes Global) → Type 0
EachApart repos = AllByRecursion (λ (files : Vec FileBytes Global). AreApart files.items) repos

-- a path is that of the first file, in the first repository with such a file, whose path an earlier one has
pub record IsRepeatedIn (repos : List (Vec FileBytes Global)) (path : Name) : Type 0 where
  pub earlier : List (Vec FileBytes Global)
  pub files : Vec FileBytes Global
  pub later : List (Vec FileBytes Global)
  pub split : repos ≡ earlier ++ files ∷ later
  pub apart : EachApart earlier
  pub repeated : IsRepeated files.items path

-- why repositories aren't taken
abbrev pub IsShelfRefusal : List (Vec FileBytes Global) → MemError → Type 0
IsShelfRefusal repos (Repeated path) = IsRepeatedIn repos path
IsShelfRefusal repos NoMemory = Unit {0}
