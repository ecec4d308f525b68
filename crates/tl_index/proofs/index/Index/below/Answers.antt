use Rattle.std.proofs.Common.{◌≡◌, ℕ, ◌++◌, ◌∷◌, ◌-◌, [], List, true, false, sym, ap, subst, ◌∙◌, arith, rules, Some, None, take, drop, length, get_or, filter, not, ◌==◌, ◌+◌, ◌<◌}
use Rattle.std.specs.List.{list_any}
use Rattle.tl_path.specs.Components.{is_below}
use Rattle.tl_entry.specs.Rising.{is_rising, comes_before}
use Rattle.tl_index.specs.declared.hit.Hit.{Hit}
use Rattle.tl_index.specs.declared.hit.Leaf.{Leaf}
use Rattle.tl_index.specs.Entries.{path_of, has, without, with_leaf, leaf_of, is_directly_in}
use Rattle.tl_index.specs.Fronts.{begins, IsFirstFrom, IsStretch}
use Rattle.tl_index.specs.Folders.{Knows, IsIndex}
use Rattle.tl_index.proofs.FrontLemmas.{below_stretch}
use Rattle.tl_index.proofs.index.Index.below.Goals as goal

pub returns : goal.returns
returns c =
    let dir = c.args.dir.now in
    let now = c.args.self.now in
    let low = c.in_ok-low.low in
    let high = c.in_ok-low.high in
    let stretch : IsStretch (dir ++ 47 ∷ []) now low high = subst (λ (t : List ℕ). IsStretch (t ++ 47 ∷ []) now low high) c.bytes.ensures.bytes c.in_ok-low.ensures in
    c.in_ok-copy.ensures ∙ ap (λ (xs : List Hit). take (high - low) (drop low xs)) (c.deref.ensures.value ∙ c.self.view_is) ∙ sym (below_stretch dir now low high stretch)
