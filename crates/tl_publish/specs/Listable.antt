-- Which names of a tree are listed.
use Rattle.std.specs.Prelude.{◌≡◌, ◌≢◌, ◌&&◌, not, bytes_eq, Bool, true, List, Option, filter, find}
use Rattle.std.specs.List.{AllByRecursion, list_any}
use Rattle.std.specs.List.Sorted.{IsStrictlySortedBy}
use Rattle.std.specs.Ordering.{nat_cmp}
use Rattle.std.specs.Cmp.Lexicographic.{slice_cmp}
use Rattle.tl_model.specs.Volume.{Name}
use Rattle.tl_path.specs.Path.{IsPath}
use Rattle.tl_path.specs.Components.{is_below}
use Rattle.tl_lsr.specs.Items.{folder}
use Rattle.tl_lsr.specs.Lists.{list_path}

-- whether a name is below the folder and isn't the list itself
abbrev pub is_inside : Name → Bool
is_inside name = is_below name folder && not (bytes_eq name list_path)

-- whether none of some names is below a name
abbrev pub is_lowest : List Name → Name → Bool
is_lowest names name = not (list_any (λ other. is_below other name) names)

-- the names that are listed of some: those below the folder, other than the list itself, that have no other name below them
abbrev pub listable : List Name → List Name
listable names = filter (is_lowest names) (filter is_inside names)

-- the first of some names that is below the list
abbrev pub occupant : List Name → Option Name
occupant names = find (λ name. is_below name list_path) names

-- names are paths below the folder, none the list itself, in order and each once
pub record AreInside (names : List Name) : Type 0 where
  pub form : AllByRecursion IsPath names
  pub inside : AllByRecursion (λ name. is_below name folder ≡ true) names
  pub others : AllByRecursion (λ name. name ≢ list_path) names
  pub rising : IsStrictlySortedBy (slice_cmp nat_cmp) names
