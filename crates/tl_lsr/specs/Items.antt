-- The names that stand in directories, and the text that lists them.
use Rattle.std.specs.Prelude.{ℕ, ◌==◌, if◌then◌else◌, List, [], ◌∷◌, ◌++◌, drop, fold, codes}
use Rattle.std.specs.Ordering.{nat_cmp}
use Rattle.std.specs.Cmp.Lexicographic.{slice_cmp}
use Rattle.std.specs.BTreeSet.{insert_key}
use Rattle.tl_path.specs.Components.{components}

-- the folder whose files are listed
abbrev pub folder : List ℕ
folder = codes "texmf-dist"

-- the path of a name in a directory
abbrev pub path_in : List ℕ → List ℕ → List ℕ
path_in dir name = dir ++ 47 ∷ name

-- a name that stands directly in a directory: the directory, a line end and the name, so that items in the order of their bytes are in
-- the order of their directories, and in each directory in the order of the names
abbrev pub item : List ℕ → List ℕ → List ℕ
item dir name = dir ++ 10 ∷ name

-- the directory of an item: what stands before its first line end
abbrev pub dir_of : List ℕ → List ℕ
dir_of [] = []
dir_of (b ∷ it) = if b == 10 then [] else b ∷ dir_of it

-- the name of an item: what stands behind its first line end
abbrev pub name_of : List ℕ → List ℕ
name_of [] = []
name_of (b ∷ it) = if b == 10 then it else name_of it

-- the items of names each of which stands in the one before it, the first one in a directory
abbrev pub items_below : List ℕ → List (List ℕ) → List (List ℕ)
items_below dir [] = []
items_below dir (name ∷ names) = item dir name ∷ items_below (path_in dir name) names

-- the items of a path below the folder: its own and those of the directories above it
abbrev pub items_of : List ℕ → List (List ℕ)
items_of path = items_below folder (drop 1 (components path))

-- items in order, with those of a path, each once
abbrev pub with_items : List (List ℕ) → List ℕ → List (List ℕ)
with_items items path = fold (insert_key (slice_cmp nat_cmp)) items (items_of path)

-- the items of some paths in order, each once
abbrev pub all_items : List (List ℕ) → List (List ℕ)
all_items paths = fold with_items [] paths
