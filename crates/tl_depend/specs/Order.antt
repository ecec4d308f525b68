-- The order in which packages are installed.
use Rattle.std.specs.Prelude.{◌≡◌, ℕ, Bool, true, false, List, ◌++◌, filter, IsPermutation, IsSorted, Option, Some, None}
use Rattle.std.specs.Ordering.{nat_cmp}
use Rattle.std.specs.Cmp.Lexicographic.{slice_cmp}
use Rattle.tl_path.specs.declared.kinds.Category.{Category}
use Rattle.tl_path.specs.declared.kinds.Category.TheVariants.{Package, TLCore, ConTeXt, Collection, Scheme}
use Rattle.tl_entry.specs.declared.object.Object.{Object}
use Rattle.tl_db.specs.Entries.{entry_of}
use Rattle.tl_depend.specs.declared.ordering.Rank.{Rank}
use Rattle.tl_depend.specs.declared.ordering.Rank.TheVariants as rank

-- the rank of a category: schemes stand above collections, and these above all others
abbrev pub category_rank : Category → Rank
category_rank Package = rank.Member
category_rank TLCore = rank.Member
category_rank ConTeXt = rank.Member
category_rank Collection = rank.Collection
category_rank Scheme = rank.Scheme

-- the rank of an entry; that of one that isn't there is the least
abbrev pub entry_rank : Option Object → Rank
entry_rank None = rank.Member
entry_rank (Some entry) = category_rank entry.category

-- whether two ranks are one
abbrev pub same_rank : Rank → Rank → Bool
same_rank rank.Member rank.Member = true
same_rank rank.Collection rank.Collection = true
same_rank rank.Scheme rank.Scheme = true
same_rank _ _ = false

-- the names of a rank among some
abbrev pub of_rank : List Object → Rank → List (List ℕ) → List (List ℕ)
of_rank db wanted names = filter (λ name. same_rank (entry_rank (entry_of name db)) wanted) names

-- names in order: those of no collection and no scheme, then the collections, then the schemes, each in the order of their bytes
pub record IsInstallOrder (db : List Object) (names ordered : List (List ℕ)) : Type 0 where
  pub sorted : List (List ℕ)
  pub same : IsPermutation names sorted
  pub rising : IsSorted (slice_cmp nat_cmp) sorted
  pub groups : ordered ≡ of_rank db rank.Member sorted ++ (of_rank db rank.Collection sorted ++ of_rank db rank.Scheme sorted)
