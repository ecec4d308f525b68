use Rattle.std.proofs.Common.{◌≡◌, ℕ, ◌++◌, ◌∷◌, ◌-◌, [], List, true, false, sym, ap, subst, ◌∙◌, arith, rules, Some, None, take, drop, length, get_or, filter, not, ◌==◌, ◌+◌, ◌<◌}
use Rattle.std.specs.List.{list_any}
use Rattle.tl_path.specs.Components.{is_below}
use Rattle.tl_entry.specs.Rising.{is_rising, comes_before}
use Rattle.tl_index.specs.declared.hit.Hit.{Hit}
use Rattle.tl_index.specs.declared.hit.Leaf.{Leaf}
use Rattle.tl_index.specs.Entries.{path_of, has, without, with_leaf, leaf_of, is_directly_in}
use Rattle.tl_index.specs.Fronts.{begins, IsFirstFrom, IsStretch}
use Rattle.tl_index.specs.Folders.{Knows, IsIndex}
use Rattle.tl_index.proofs.FrontLemmas.{last_before}
use Rattle.tl_index.proofs.index.place_of.Goals as goal

pub returns-then-comes_before : goal.returns-then-comes_before
returns-then-comes_before c =
    let before : comes_before c.in-Some.last.now.path c.args.path.now ≡ true = search rules in
    last_before c.args.path.now c.args.hits.now c.in-Some.last.now c.in-Some.ensures.value c.requires before
