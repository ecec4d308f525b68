-- Which formats have to be made anew where a database changes.
use Rattle.std.specs.Prelude.{◌≡◌, ℕ, Bool, true, false, not, ◌||◌, if◌then◌else◌, List, [], ◌∷◌, ◌++◌, fold, bytes_eq, codes, Option, Some, None, Result, Ok, Err}
use Rattle.std.specs.List.{flat_map, list_any}
use Rattle.tl_entry.specs.declared.object.Object.{Object}
use Rattle.tl_object.specs.Writing.{object_text}
use Rattle.tl_execute.specs.Executes.{read_execute}
use Rattle.tl_execute.specs.declared.execute.Execute.{Execute}
use Rattle.tl_execute.specs.declared.execute.Execute.TheVariants.{Map, Format, Hyphen}
use Rattle.tl_execute.specs.declared.execute.ExecuteKind.{ExecuteKind}
use Rattle.tl_db.specs.Entries.{entry_of}

-- whether two entries have one text, or both are absent
abbrev pub is_same : Option Object → Option Object → Bool
is_same None None = true
is_same None (Some b) = false
is_same (Some a) None = false
is_same (Some a) (Some b) = bytes_eq (object_text a) (object_text b)

-- whether the entry with a name isn't the same in two databases
abbrev pub is_changed : List Object → List Object → List ℕ → Bool
is_changed old new name = not (is_same (entry_of name old) (entry_of name new))

-- the name of a format that isn't disabled, where its own entry has changed or that of one of its triggers
abbrev pub stale_in : (List ℕ → Bool) → Bool → Execute → List (List ℕ)
stale_in changed own (Map kind file) = []
stale_in changed own (Format name engine options patterns true triggers) = []
stale_in changed own (Format name engine options patterns false triggers) = if own || list_any changed triggers then name ∷ [] else []
stale_in changed own (Hyphen name file left right synonyms dat def lua patterns exceptions special) = []

-- the same of an execute's reading; one that doesn't read says no format
abbrev pub stale_read : (List ℕ → Bool) → Bool → Result Execute ExecuteKind → List (List ℕ)
stale_read changed own (Ok execute) = stale_in changed own execute
stale_read changed own (Err kind) = []

-- the formats to be made anew that some executes of an entry name
abbrev pub stale_among : (List ℕ → Bool) → Bool → List (List ℕ) → List (List ℕ)
stale_among changed own executes = flat_map (λ text. stale_read changed own (read_execute text)) executes

-- those that an entry names
abbrev pub stale_by : (List ℕ → Bool) → Object → List (List ℕ)
stale_by changed entry = stale_among changed (changed entry.name) entry.executes

-- names with one more, unless it is there
abbrev pub with_format : List (List ℕ) → List ℕ → List (List ℕ)
with_format names name = if list_any (bytes_eq name) names then names else names ++ name ∷ []

-- names with more, each once
abbrev pub with_formats : List (List ℕ) → List (List ℕ) → List (List ℕ)
with_formats names more = fold with_format names more

-- the names of the formats to be made anew where one database becomes another: for its entries in name order and their executes in order,
-- each name once, at its first place
abbrev pub stale : List Object → List Object → List (List ℕ)
stale old new = with_formats [] (flat_map (stale_by (is_changed old new)) new)

-- each name at which two databases differ is among these
abbrev pub HasChanges : List Object → List Object → List (List ℕ) → Type 0
HasChanges old new names = (name : List ℕ) → is_changed old new name ≡ true → list_any (bytes_eq name) names ≡ true

-- the line that says a format
abbrev pub format_line : List ℕ → List ℕ
format_line name = codes "format " ++ (name ++ 10 ∷ [])

-- the lines that say some formats
abbrev pub format_lines : List (List ℕ) → List ℕ
format_lines names = flat_map format_line names
