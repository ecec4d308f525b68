-- Which collection or scheme needs a name.
use Rattle.std.specs.Prelude.{ℕ, ◌&&◌, not, Bool, true, false, List, find, Option, option_map}
use Rattle.std.specs.Str.{bytes_eq}
use Rattle.std.specs.List.{list_any}
use Rattle.tl_model.specs.Words.{fields}
use Rattle.tl_path.specs.declared.kinds.Category.{Category}
use Rattle.tl_path.specs.declared.kinds.Category.TheVariants.{Package, TLCore, ConTeXt, Collection, Scheme}
use Rattle.tl_entry.specs.Rising.{has_key}
use Rattle.tl_entry.specs.declared.object.Object.{Object}
use Rattle.tl_db.specs.Options.{option_value}
use Rattle.tl_db.specs.declared.options.TreeOption.TheVariants.{Platforms}
use Rattle.tl_depend.specs.Names.{named_by}

-- the platforms of a tree: the words of its option
abbrev pub tree_platforms : List Object → List (List ℕ)
tree_platforms db = fields (option_value Platforms db)

-- whether a category is that of a collection or a scheme
abbrev pub is_meta : Category → Bool
is_meta Package = false
is_meta TLCore = false
is_meta ConTeXt = false
is_meta Collection = true
is_meta Scheme = true

-- whether a depend stands for a name on some platforms
abbrev pub stands_for : List (List ℕ) → List ℕ → List ℕ → Bool
stands_for platforms name depend = has_key (λ n. n) name (named_by platforms depend)

-- whether an entry is a collection or a scheme that isn't among those that leave and has a depend for a name
abbrev pub needs_name : List (List ℕ) → List ℕ → List (List ℕ) → Object → Bool
needs_name platforms name leaving entry =
    (is_meta entry.category && not (list_any (bytes_eq entry.name) leaving)) && list_any (stands_for platforms name) entry.depends

-- the name of the first entry of a tree that needs a name, on the platforms of the tree
abbrev pub needed_by : List Object → List ℕ → List (List ℕ) → Option (List ℕ)
needed_by db name leaving = option_map (λ (entry : Object). entry.name) (find (needs_name (tree_platforms db) name leaving) db)
