-- The words for categories and checks.
use Rattle.std.specs.Prelude.{ℕ, List, [], ◌∷◌, codes}
use Rattle.tl_path.specs.declared.kinds.Category.{Category}
use Rattle.tl_path.specs.declared.kinds.Category.TheVariants.{Package, TLCore, ConTeXt, Collection, Scheme}
use Rattle.tl_path.specs.declared.kinds.Check.{Check}
use Rattle.tl_path.specs.declared.kinds.Check.TheVariants.{Files, Depends, Duplicates, Executes, All as AllChecks}

-- a category as it is written
abbrev pub category_text : Category → List ℕ
category_text Package = codes "Package"
category_text TLCore = codes "TLCore"
category_text ConTeXt = codes "ConTeXt"
category_text Collection = codes "Collection"
category_text Scheme = codes "Scheme"

-- each category once
abbrev pub all_categories : List Category
all_categories = Package ∷ TLCore ∷ ConTeXt ∷ Collection ∷ Scheme ∷ []

-- the word for a check
abbrev pub check_word : Check → List ℕ
check_word Files = codes "files"
check_word Depends = codes "depends"
check_word Duplicates = codes "duplicates"
check_word Executes = codes "executes"
check_word AllChecks = codes "all"

-- each check once
abbrev pub all_checks : List Check
all_checks = Files ∷ Depends ∷ Duplicates ∷ Executes ∷ AllChecks ∷ []
