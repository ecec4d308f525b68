-- What each error says of the text that was read.
use Rattle.std.specs.Prelude.{◌≡◌, ℕ, true, false, List, Some}
use Rattle.tl_path.specs.declared.error.PathError.{PathError}
use Rattle.tl_path.specs.declared.error.PathError.TheVariants.{BadPath, NoMemory}
use Rattle.tl_path.specs.declared.error.NameError.{NameError}
use Rattle.tl_path.specs.declared.error.NameError.TheVariants.{BadName, NoMemory as NoNameMemory}
use Rattle.tl_path.specs.declared.error.TagError.{TagError}
use Rattle.tl_path.specs.declared.error.TagError.TheVariants.{NotTag, NoMemory as NoTagMemory}
use Rattle.tl_path.specs.declared.error.PlatformsError.{PlatformsError}
use Rattle.tl_path.specs.declared.error.PlatformsError.TheVariants.{BadPlatforms, NoMemory as NoPlatformsMemory}
use Rattle.tl_path.specs.Path.{IsPath, path_fault, fault}
use Rattle.tl_path.specs.Names.{is_name, is_tag, IsLongestNameFront}
use Rattle.tl_path.specs.Platforms.{IsFirstBadWord}

-- the text's first fault; memory is asked for where the text is a path
abbrev pub IsPathErrorOf : List ℕ → PathError → Type 0
IsPathErrorOf text (BadPath at kind) = path_fault text ≡ Some (fault kind at)
IsPathErrorOf text NoMemory = IsPath text

-- the text is no name, and its longest front that a name begins with too has this length
abbrev pub IsNameErrorOf : List ℕ → NameError → Type 0
IsNameErrorOf text (BadName at) = (is_name text ≡ false) × IsLongestNameFront text at
IsNameErrorOf text NoNameMemory = is_name text ≡ true

-- the text is no tag; memory is asked for where it is one
abbrev pub IsTagErrorOf : List ℕ → TagError → Type 0
IsTagErrorOf text NotTag = is_tag text ≡ false
IsTagErrorOf text NoTagMemory = is_tag text ≡ true

-- a word can't be kept, and it begins there; want of memory has no cause in the text
abbrev pub IsPlatformsErrorOf : List ℕ → PlatformsError → Type 0
IsPlatformsErrorOf text (BadPlatforms at) = IsFirstBadWord text at
IsPlatformsErrorOf text NoPlatformsMemory = Unit {0}
