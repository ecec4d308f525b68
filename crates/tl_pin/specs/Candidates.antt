-- Which repository gives a package, and the entries that the repositories and a tree have together.
use Rattle.std.specs.Prelude.{ℕ, ◌+◌, ◌||◌, if◌then◌else◌, Bool, List, [], ◌∷◌, ◌++◌, codes, Option, Some, None, option_map, slice_get}
use Rattle.std.specs.List.{list_any, filter_map}
use Rattle.std.specs.Str.{bytes_eq}
use Rattle.tl_glob.specs.Matches.{is_match}
use Rattle.tl_entry.specs.declared.object.Object.{Object}
use Rattle.tl_entry.specs.Rising.{has_key}
use Rattle.tl_db.specs.declared.repo.Repo.{Repo}
use Rattle.tl_db.specs.Entries.{entry_of}
use Rattle.tl_pin.specs.declared.line.PinLine.{PinLine}

-- the place of the first repository with a tag, where this many stand before these, and the entry that it has for a name; None where
-- it has none or there is no such repository
abbrev pub entry_under : ℕ → List Repo → List ℕ → List ℕ → Option (ℕ × Object)
entry_under before [] tag name = None
entry_under before (repo ∷ repos) tag name =
    if bytes_eq repo.tag tag then option_map (λ entry. (before, entry)) (entry_of name repo.db) else entry_under (before + 1) repos tag name

-- whether a pin has a glob for a name
abbrev pub has_glob_for : List ℕ → PinLine → Bool
has_glob_for name pin = list_any (λ glob. is_match glob name) pin.globs

-- what a pin offers for a name: the place of its repository and the entry there, where it has a glob for the name
abbrev pub offer : List Repo → List ℕ → PinLine → Option (ℕ × Object)
offer repos name pin = if has_glob_for name pin then entry_under 0 repos pin.tag name else None

-- the pin behind all others, which has a glob for every name
abbrev pub main_pin : PinLine
main_pin = record { tag = codes "main"; globs = codes "*" ∷ [] }

-- a name's candidate: the first offer of the pins and the one behind them
abbrev pub candidate_of : List PinLine → List Repo → List ℕ → Option (ℕ × Object)
candidate_of pins repos name = slice_get (filter_map (offer repos name) (pins ++ main_pin ∷ [])) 0

-- the entry of a candidate, or another where there is none
abbrev pub entry_or : Option (ℕ × Object) → Option Object → Option Object
entry_or None other = other
entry_or (Some candidate) other = Some candidate.1

-- the entry of a name in the view: its candidate's, or the installed one where it has no candidate
abbrev pub view_entry : List PinLine → List Repo → List Object → List ℕ → Option Object
view_entry pins repos installed name = entry_or (candidate_of pins repos name) (entry_of name installed)

-- whether a repository or a tree has an entry with a name
abbrev pub is_known : List Repo → List Object → List ℕ → Bool
is_known repos installed name =
    list_any (λ (repo : Repo). has_key (λ (o : Object). o.name) name repo.db) repos || has_key (λ (o : Object). o.name) name installed
