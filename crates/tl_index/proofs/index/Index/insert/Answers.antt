use Rattle.std.proofs.Common.{◌≡◌, ℕ, ◌++◌, ◌∷◌, ◌-◌, [], List, true, false, sym, ap, subst, ◌∙◌, arith, rules, Some, None, take, drop, length, get_or, set, filter, not, ◌==◌, ◌+◌, ◌<◌}
use Rattle.std.specs.List.{list_any}
use Rattle.tl_path.specs.Components.{is_below}
use Rattle.tl_entry.specs.Rising.{is_rising, comes_before}
use Rattle.tl_index.specs.declared.hit.Hit.{Hit}
use Rattle.tl_index.specs.declared.hit.Leaf.{Leaf}
use Rattle.tl_index.specs.Entries.{path_of, has, without, with_leaf, leaf_of, is_directly_in}
use Rattle.tl_index.specs.Fronts.{begins, IsFirstFrom, IsStretch}
use Rattle.tl_index.specs.Folders.{Knows, IsIndex}
use Rattle.std.specs.List.{insert}
use Rattle.tl_index.proofs.EntryLemmas.{here_of_has, set_at, first_below}
use Rattle.tl_index.proofs.FolderLemmas.{index_set, index_kept, index_put, put_is}
use Rattle.tl_index.proofs.index.Index.insert.Goals as goal

abbrev hit_of : List ℕ → Leaf → Hit
hit_of path leaf = record { path = path; leaf = leaf }

pub invariant_of-self : goal.invariant_of-self
invariant_of-self c =
    let path = c.args.path in
    let e = c.self.inside.entries.items in
    let at = c.place_of-at.result in
    let first : IsFirstFrom path e at = subst (λ (xs : List Hit). IsFirstFrom path xs at) c.deref.ensures.value c.place_of-at.ensures in
    let there : has path e ≡ true = ap (has path) (sym c.deref-2.ensures.value) ∙ sym c.is_at.ensures.there ∙ c.if-is_at.true in
    let here = here_of_has path e at c.self.invariant.rising first there in
    index_set c.self.inside.folders e at (record { path = c.index_mut.result.now.path; leaf = c.args.leaf }) c.index_mut.result.now c.self.invariant here.inside
    (sym (ap (λ (h : Hit). h.path) c.index_mut.ensures.value))

pub returns-then-is_at-clause-ok : goal.returns-then-is_at-clause-ok
returns-then-is_at-clause-ok c =
    let path = c.args.path in
    let e = c.self.inside.entries.items in
    let at = c.place_of-at.result in
    let first : IsFirstFrom path e at = subst (λ (xs : List Hit). IsFirstFrom path xs at) c.deref.ensures.value c.place_of-at.ensures in
    let there : has path e ≡ true = ap (has path) (sym c.deref-2.ensures.value) ∙ sym c.is_at.ensures.there ∙ c.if-is_at.true in
    let here = here_of_has path e at c.self.invariant.rising first there in
    let same : c.index_mut.result.now.path ≡ path = ap (λ (h : Hit). h.path) c.index_mut.ensures.value ∙ here.is c.index_mut.result.now in
    ap (λ (p : List ℕ). set e at (hit_of p c.args.leaf)) same
    ∙ sym (set_at (hit_of path c.args.leaf) e at c.index_mut.result.now here.inside (first_below path e at first) (here.is c.index_mut.result.now))
    ∙ ap (with_leaf path c.args.leaf) c.self.view_is

pub invariant_of-self-in_err-learn : goal.invariant_of-self-in_err-learn
invariant_of-self-in_err-learn c = index_kept c.self.inside.folders c.learn.new.folders c.self.inside.entries.items c.self.invariant c.learn.ensures.keeps

pub invariant_of-self-in_err-insert : goal.invariant_of-self-in_err-insert
invariant_of-self-in_err-insert c =
    subst (λ (xs : List Hit). IsIndex c.learn.new.folders xs) (sym c.in_err-insert.ensures.items)
    (index_kept c.self.inside.folders c.learn.new.folders c.self.inside.entries.items c.self.invariant c.learn.ensures.keeps)

pub invariant_of-self-2 : goal.invariant_of-self-2
invariant_of-self-2 c =
    let path = c.args.path in
    let e = c.self.inside.entries.items in
    let at = c.place_of-at.result in
    let first : IsFirstFrom path e at = subst (λ (xs : List Hit). IsFirstFrom path xs at) c.deref.ensures.value c.place_of-at.ensures in
    let none : has path e ≡ false = ap (has path) (sym c.deref-2.ensures.value) ∙ sym c.is_at.ensures.there ∙ c.if-is_at.false in
    index_put c.learn.new.folders e c.insert.new.self.items at (hit_of path c.args.leaf)
    (index_kept c.self.inside.folders c.learn.new.folders e c.self.invariant c.learn.ensures.keeps) first none c.in_ok-learn.ensures.ok c.in_ok-insert.ensures.items

pub returns-clause-ok : goal.returns-clause-ok
returns-clause-ok c =
    let path = c.args.path in
    let e = c.self.inside.entries.items in
    let at = c.place_of-at.result in
    let first : IsFirstFrom path e at = subst (λ (xs : List Hit). IsFirstFrom path xs at) c.deref.ensures.value c.place_of-at.ensures in
    let none : has path e ≡ false = ap (has path) (sym c.deref-2.ensures.value) ∙ sym c.is_at.ensures.there ∙ c.if-is_at.false in
    put_is e c.insert.new.self.items at (hit_of path c.args.leaf) c.self.invariant.rising first none c.in_ok-insert.ensures.items ∙ ap (with_leaf path c.args.leaf) c.self.view_is
