-- The paths of a master: those that are there and those that have a mark.
use Rattle.std.specs.Prelude.{ℕ, nat_lt, true, false, if◌then◌else◌, List, [], ◌∷◌, ◌++◌, map, filter, fold, take, drop, length, Result, Ok, Err}
use Rattle.std.specs.Option.{unwrap_or}
use Rattle.std.specs.List.{prefix_len}
use Rattle.std.specs.FinMap.{keys}
use Rattle.std.specs.Str.{bytes_eq}
use Rattle.tl_model.specs.Volume.{Name, Volume, at}
use Rattle.tl_path.specs.Reserved.{is_reserved}
use Rattle.tl_kind.specs.Quantities.{limit_of}
use Rattle.tl_kind.specs.declared.quantity.What.TheVariants.{Files}
use Rattle.tl_entry.specs.Rising.{comes_before}
use Rattle.tl_index.specs.Entries.{with_leaf}
use Rattle.tl_index.specs.declared.hit.Hit.{Hit}
use Rattle.tl_index.specs.declared.hit.Leaf.{Leaf}
use Rattle.tl_marks.specs.Form.{may_be_marked}
use Rattle.tl_marks.specs.declared.marks.MarkedPath.{MarkedPath}
use Rattle.tl_master.specs.declared.error.MasterError.{MasterError}
use Rattle.tl_master.specs.declared.error.MasterError.TheVariants.{TooLarge}

-- the names of a tree that may have a mark: those that aren't reserved, and those of sources; a tree may have no more names than the limit
abbrev pub names_in : Volume → Result (List Name) MasterError
names_in tree = if nat_lt (limit_of Files) (length (keys tree)) then Err (TooLarge Files (limit_of Files)) else Ok (filter may_be_marked (keys tree))

-- a marked path that isn't there
abbrev pub gone : MarkedPath → MarkedPath
gone marked = record { lives = false; mark = marked.mark; path = marked.path }

-- how many marked paths come before a name
abbrev pub count_before : Name → List MarkedPath → ℕ
count_before name marks = prefix_len (λ (m : MarkedPath). comes_before m.path name) marks

-- the mark of a name, where it is the first of some marked paths; 0 where it is not
abbrev pub first_mark : Name → List MarkedPath → ℕ
first_mark name [] = 0
first_mark name (m ∷ marks) = if bytes_eq m.path name then m.mark else 0

-- marked paths without the first one, where that is a name
abbrev pub behind_first : Name → List MarkedPath → List MarkedPath
behind_first name [] = []
behind_first name (m ∷ marks) = if bytes_eq m.path name then marks else m ∷ marks

-- a name that is there, with its mark
abbrev pub living : Name → List MarkedPath → MarkedPath
living name marks = record { lives = true; mark = first_mark name marks; path = name }

-- rising names that are there and rising marked paths, in one rising list: each name lives, whatever its mark's line says, and has mark 0
-- where it has none; each marked path that is no such name is gone
abbrev pub merged : List Name → List MarkedPath → List MarkedPath
merged [] marks = map gone marks
merged (name ∷ names) marks =
    let count = count_before name marks in let others = drop count marks in
    map gone (take count marks) ++ living name others ∷ merged names (behind_first name others)

-- the size of a path: the length of its file, 0 where it is gone
abbrev pub size_in : Volume → MarkedPath → ℕ
size_in tree marked = if marked.lives then length (unwrap_or (at tree marked.path) []) else 0

-- what an index says of a path
abbrev pub leaf_in : Volume → MarkedPath → Leaf
leaf_in tree marked = record { size = size_in tree marked; mark = marked.mark; lives = marked.lives }

-- an index with one more path, unless that is reserved
abbrev pub indexed : Volume → List Hit → MarkedPath → List Hit
indexed tree index marked = if is_reserved marked.path then index else with_leaf marked.path (leaf_in tree marked) index

-- the index of listed paths: each that isn't reserved, with its size and its mark
abbrev pub index_of : Volume → List MarkedPath → List Hit
index_of tree listing = fold (indexed tree) [] listing
