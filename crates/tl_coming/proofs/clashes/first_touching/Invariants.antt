use Rattle.std.proofs.Common.{◌≡◌, drop, map}
use Rattle.std.specs.Prelude.{find, option_map}
use Rattle.std.specs.List.{list_any}
use Rattle.tl_path.specs.Components.{is_touching}
use Rattle.tl_entry.specs.FilePaths.{listed_paths}
use Rattle.tl_tree.specs.Owners.{name_of}
use Rattle.tl_coming.proofs.clashes.first_touching.Given as goal

abbrev pub invariant-loop-entry : goal.invariant-loop-entry
invariant-loop-entry l = option_map name_of (find (λ o. list_any (is_touching l.path) (listed_paths o)) (map (λ e. e.now) (drop l.entry-index l.entries)))
    ≡ option_map name_of (find (λ o. list_any (is_touching l.path) (listed_paths o)) (map (λ e. e.now) l.entries))
