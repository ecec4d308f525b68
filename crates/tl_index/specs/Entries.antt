-- An index is seen as the list of its entries, each of whose paths is greater than the one before it.
use Rattle.std.specs.Prelude.{◌≡◌, ℕ, ◌+◌, ◌==◌, ◌&&◌, not, Bool, true, if◌then◌else◌, List, [], ◌∷◌, length, drop, filter, Option, None, Some}
use Rattle.std.specs.List.{list_any}
use Rattle.std.specs.Ordering.{nat_cmp}
use Rattle.std.specs.declared.cmp.Ordering.{Ordering}
use Rattle.std.specs.Cmp.Lexicographic.{slice_cmp}
use Rattle.std.specs.BTreeSet.{replace_key}
use Rattle.tl_model.specs.Volume.{same_name}
use Rattle.tl_path.specs.Components.{is_below}
use Rattle.tl_entry.specs.Rising.{has_key}
use Rattle.tl_index.specs.declared.hit.Hit.{Hit}
use Rattle.tl_index.specs.declared.hit.Leaf.{Leaf}

-- an entry's path
abbrev pub path_of : Hit → List ℕ
path_of hit = hit.path

-- the order of entries: that of their paths' bytes
abbrev pub by_path : Hit → Hit → Ordering
by_path a b = slice_cmp nat_cmp a.path b.path

-- entries with a path's leaf: in its place, or in place of the path's leaf before
abbrev pub with_leaf : List ℕ → Leaf → List Hit → List Hit
with_leaf path leaf hits = replace_key by_path hits (record { path = path; leaf = leaf })

-- whether a path is among entries
abbrev pub has : List ℕ → List Hit → Bool
has path hits = has_key path_of path hits

-- entries without a path
abbrev pub without : List ℕ → List Hit → List Hit
without path hits = filter (λ (h : Hit). not (same_name h.path path)) hits

-- a path's leaf; None where it isn't among the entries
abbrev pub leaf_of : List ℕ → List Hit → Option Leaf
leaf_of path [] = None
leaf_of path (h ∷ hits) = if same_name h.path path then Some h.leaf else leaf_of path hits

-- whether a path is directly in a directory: below it, and behind its '/' there is no other
abbrev pub is_directly_in : List ℕ → List ℕ → Bool
is_directly_in path dir = is_below path dir && not (list_any (λ b. b == 47) (drop (length dir + 1) path))
