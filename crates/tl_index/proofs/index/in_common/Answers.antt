use Rattle.std.proofs.Common.{◌≡◌, ℕ, ◌++◌, ◌∷◌, ◌-◌, [], List, true, false, sym, ap, subst, ◌∙◌, arith, rules, Some, None, take, drop, length, get_or, filter, not, ◌==◌, ◌+◌, ◌<◌}
use Rattle.std.specs.List.{list_any}
use Rattle.tl_path.specs.Components.{is_below}
use Rattle.tl_entry.specs.Rising.{is_rising, comes_before}
use Rattle.tl_index.specs.declared.hit.Hit.{Hit}
use Rattle.tl_index.specs.declared.hit.Leaf.{Leaf}
use Rattle.tl_index.specs.Entries.{path_of, has, without, with_leaf, leaf_of, is_directly_in}
use Rattle.tl_index.specs.Fronts.{begins, IsFirstFrom, IsStretch}
use Rattle.tl_index.specs.Folders.{Knows, IsIndex}
use Rattle.tl_index.proofs.FolderLemmas.{any_at, shared_folder}
use Rattle.tl_index.proofs.index.in_common.Goals as goal

pub returns : goal.returns
returns c folder front lt =
    let path = c.args.path.now in
    let item = get_or c.args.hits.now (c.args.at - 1) c.index-hits-at.result in
    let n = c.shared.result in
    let same : take n item.path ≡ take n path =
    ap (take n) (sym c.bytes.ensures.bytes) ∙ c.shared.ensures.2 ∙ ap (take n) c.bytes-2.ensures.bytes in
    let here : begins (folder ++ 47 ∷ []) item.path ≡ true = shared_folder folder path item.path n front lt same in
    any_at (λ (h : Hit). begins (folder ++ 47 ∷ []) h.path) c.args.hits.now (c.args.at - 1) c.index-hits-at.result (omega arith) here
