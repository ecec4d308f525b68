use Rattle.std.proofs.Common.{◌≡◌, ℕ, ◌++◌, ◌∷◌, ◌-◌, [], List, true, false, sym, ap, subst, ◌∙◌, arith, rules, Some, None, take, drop, length, get_or, filter, not, ◌==◌, ◌+◌, ◌<◌}
use Rattle.std.specs.List.{list_any}
use Rattle.tl_path.specs.Components.{is_below}
use Rattle.tl_entry.specs.Rising.{is_rising, comes_before}
use Rattle.tl_index.specs.declared.hit.Hit.{Hit}
use Rattle.tl_index.specs.declared.hit.Leaf.{Leaf}
use Rattle.tl_index.specs.Entries.{path_of, has, without, with_leaf, leaf_of, is_directly_in}
use Rattle.tl_index.specs.Fronts.{begins, IsFirstFrom, IsStretch}
use Rattle.tl_index.specs.Folders.{Knows, IsIndex}
use Rattle.tl_index.proofs.EntryLemmas.{here_of_has, leaf_here, leaf_none, first_below}
use Rattle.tl_index.proofs.index.Index.get.Goals as goal

pub returns-then-is_at : goal.returns-then-is_at
returns-then-is_at c =
    let path = c.args.path.now in
    let e = c.self.inside.entries.items in
    let at = c.first_from-at.result in
    let first : IsFirstFrom path e at = subst (λ (xs : List Hit). IsFirstFrom path xs at) c.deref.ensures.value (subst (λ (t : List ℕ). IsFirstFrom t c.deref.result.now at) c.bytes.ensures.bytes c.first_from-at.ensures) in
    let there : has path e ≡ true = ap (has path) (sym c.deref-2.ensures.value) ∙ sym c.is_at.ensures.there ∙ c.if-is_at.true in
    let here = here_of_has path e at c.self.invariant.rising first there in
    ap (λ (h : Hit). Some h.leaf) c.index.ensures ∙ sym (leaf_here path e at c.index.result.now here.inside (first_below path e at first) (here.is c.index.result.now)) ∙ ap (leaf_of path) c.self.view_is

pub returns-else-is_at : goal.returns-else-is_at
returns-else-is_at c =
    let path = c.args.path.now in
    let e = c.self.inside.entries.items in
    let none : has path e ≡ false = ap (has path) (sym c.deref-2.ensures.value) ∙ sym c.is_at.ensures.there ∙ c.if-is_at.false in
    sym (ap (leaf_of path) (sym c.self.view_is) ∙ leaf_none path e none)
