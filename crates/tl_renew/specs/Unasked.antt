-- What comes and leaves for the collections of a tree, though no one asked for it.
use Rattle.std.specs.Prelude.{ℕ, ◌&&◌, not, Bool, if◌then◌else◌, List, [], ◌++◌, length, filter, Some, None, is_some}
use Rattle.std.specs.List.{flat_map}
use Rattle.tl_entry.specs.declared.object.Object.{Object}
use Rattle.tl_db.specs.Entries.{entry_of}
use Rattle.tl_db.specs.declared.repo.Repo.{Repo}
use Rattle.tl_pin.specs.declared.line.PinLine.{PinLine}
use Rattle.tl_pin.specs.Candidates.{candidate_of, entry_or, view_entry}
use Rattle.tl_depend.specs.Names.{named_of}
use Rattle.tl_depend.specs.Needed.{tree_platforms}
use Rattle.tl_plan.specs.Removal.{is_among, is_collection, is_protected}
use Rattle.tl_bring.specs.Coming.{known_entries, may_come, parts_in}
use Rattle.tl_bring.specs.Reached.{reached_by, all_named}

-- the names for which the depends of an installed entry stand, where it is a collection
abbrev pub named_installed : List (List ℕ) → Object → List (List ℕ)
named_installed platforms entry = if is_collection entry.category then named_of platforms (Some entry) else []

-- the names for which the depends of an installed entry's candidate stand, where the installed one is a collection
abbrev pub named_newly : List PinLine → List Repo → List (List ℕ) → Object → List (List ℕ)
named_newly pins repos platforms entry =
    if is_collection entry.category then named_of platforms (entry_or (candidate_of pins repos entry.name) None) else []

-- the names that the installed collections name
abbrev pub collected : List Object → List (List ℕ)
collected db = flat_map (named_installed (tree_platforms db)) db

-- the names that the candidates of installed collections name
abbrev pub newly_collected : List PinLine → List Repo → List Object → List (List ℕ)
newly_collected pins repos db = flat_map (named_newly pins repos (tree_platforms db)) db

-- whether a package was removed though it is one of these names, unless such ones are installed again
abbrev pub is_forced : List Object → List (List ℕ) → Bool → List ℕ → Bool
is_forced db named again name = not again && (is_among name named && not (is_some (entry_of name db)))

-- whether a package may come that no one asked for
abbrev pub may_come_unasked : List PinLine → List Repo → List Object → List (List ℕ) → Bool → List ℕ → Bool
may_come_unasked pins repos db named again name = may_come pins repos db name && not (is_forced db named again name)

-- some names, and those that they reach in the view
abbrev pub reached_in_view : List PinLine → List Repo → List Object → List (List ℕ) → List (List ℕ)
reached_in_view pins repos db roots =
    let platforms = tree_platforms db in
    reached_by (length (all_named platforms (known_entries repos db))) (λ name. named_of platforms (view_entry pins repos db name)) roots

-- the names of the packages that come though no one asked for them: those that a collection's candidate names, and what these reach
abbrev pub auto_installed : List PinLine → List Repo → List Object → Bool → List (List ℕ)
auto_installed pins repos db again =
    let comes = may_come_unasked pins repos db (collected db) again in
    filter comes (reached_in_view pins repos db (filter comes (newly_collected pins repos db)))

-- whether an installed package may leave: no repository gives it, and the tree doesn't keep its name for itself
abbrev pub may_leave : List PinLine → List Repo → List Object → List ℕ → Bool
may_leave pins repos db name = not (is_protected name) && (is_some (entry_of name db) && not (is_some (candidate_of pins repos name)))

-- some names, and those of their binary parts that may leave
abbrev pub with_leaving : List PinLine → List Repo → List Object → List (List ℕ) → List (List ℕ)
with_leaving pins repos db leaving =
    leaving ++ filter (may_leave pins repos db) (parts_in (view_entry pins repos db) (tree_platforms db) leaving)

-- the names of the packages that leave: those that an installed collection names, and their binary parts
abbrev pub auto_removed : List PinLine → List Repo → List Object → List (List ℕ)
auto_removed pins repos db = with_leaving pins repos db (filter (may_leave pins repos db) (collected db))
