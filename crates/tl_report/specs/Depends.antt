-- The depends that stand for names which no entry has.
use Rattle.std.specs.Prelude.{ℕ, Bool, not, ◌&&◌, List, map, filter}
use Rattle.std.specs.List.{list_any, flat_map}
use Rattle.tl_path.specs.Names.{is_name}
use Rattle.tl_entry.specs.declared.object.Object.{Object}
use Rattle.tl_entry.specs.Rising.{has_key}
use Rattle.tl_depend.specs.Names.{named_by}
use Rattle.tl_depend.specs.Needed.{tree_platforms}
use Rattle.tl_report.specs.Lines.{line_of}
use Rattle.tl_report.specs.declared.lines.Finding.TheVariants.{Depends}

-- whether no entry has a name
abbrev pub is_absent : List Object → List ℕ → Bool
is_absent db name = not (has_key (λ (o : Object). o.name) name db)

-- whether a text is a name that no entry has
abbrev pub is_absent_name : List Object → List ℕ → Bool
is_absent_name db text = is_name text && is_absent db text

-- whether a depend stands for a name that no entry has, on some platforms
abbrev pub is_unmet : List Object → List (List ℕ) → List ℕ → Bool
is_unmet db platforms depend = list_any (is_absent db) (named_by platforms depend)

-- a line for each depend of an entry that stands for a name which no entry has
abbrev pub unmet_lines : List Object → List (List ℕ) → Object → List (List ℕ)
unmet_lines db platforms o = map (line_of Depends o.name) (filter (is_unmet db platforms) o.depends)

-- those of all entries, on the platforms of the tree
abbrev pub depend_lines : List Object → List (List ℕ)
depend_lines db = flat_map (unmet_lines db (tree_platforms db)) db
