use Rattle.std.proofs.Common.{◌≡◌, ℕ, ◌++◌, ◌∷◌, ◌-◌, [], List, true, false, sym, ap, subst, ◌∙◌, arith, rules, Some, None, take, drop, length, get_or, filter, not, ◌==◌, ◌+◌, ◌<◌}
use Rattle.std.specs.List.{list_any}
use Rattle.tl_path.specs.Components.{is_below}
use Rattle.tl_entry.specs.Rising.{is_rising, comes_before}
use Rattle.tl_index.specs.declared.hit.Hit.{Hit}
use Rattle.tl_index.specs.declared.hit.Leaf.{Leaf}
use Rattle.tl_index.specs.Entries.{path_of, has, without, with_leaf, leaf_of, is_directly_in}
use Rattle.tl_index.specs.Fronts.{begins, IsFirstFrom, IsStretch}
use Rattle.tl_index.specs.Folders.{Knows, IsIndex}
use Rattle.tl_index.proofs.FolderLemmas.{on_ok, knows_both}
use Rattle.tl_index.proofs.index.learn.Goals as goal

pub returns-clause-ok : goal.returns-clause-ok
returns-clause-ok c = on_ok c.add_all.result
    (λ added. knows_both c.args.folders.now c.add_all.new.self c.args.hits.now c.args.path.now c.in_common-from.result c.requires.known.knows c.add_all.ensures.keeps c.in_common-from.ensures
    (λ folder front le. added folder (subst (λ (t : List ℕ). begins (folder ++ 47 ∷ []) t ≡ true) (sym c.bytes.ensures.bytes) front) le))
    c.add_all.ensures.ok
