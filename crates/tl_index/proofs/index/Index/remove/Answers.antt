use Rattle.std.proofs.Common.{◌≡◌, ℕ, ◌++◌, ◌∷◌, ◌-◌, [], List, true, false, sym, ap, subst, ◌∙◌, arith, rules, Some, None, take, drop, length, get_or, filter, not, ◌==◌, ◌+◌, ◌<◌}
use Rattle.std.specs.List.{list_any, remove}
use Rattle.std.proofs.lemmas.Bool.{true≢false}
use Rattle.tl_path.specs.Components.{is_below}
use Rattle.tl_entry.specs.Rising.{is_rising, comes_before}
use Rattle.tl_index.specs.declared.hit.Hit.{Hit}
use Rattle.tl_index.specs.declared.hit.Leaf.{Leaf}
use Rattle.tl_index.specs.Entries.{path_of, has, without, with_leaf, leaf_of, is_directly_in}
use Rattle.tl_index.specs.Fronts.{begins, IsFirstFrom, IsStretch}
use Rattle.tl_index.specs.Folders.{Knows, IsIndex}
use Rattle.tl_index.proofs.EntryLemmas.{here_of_has, without_at, without_none, first_below}
use Rattle.tl_index.proofs.FolderLemmas.{index_without}
use Rattle.tl_index.proofs.index.Index.remove.Goals as goal

removed : (path : List ℕ) (e new : List Hit) (at : ℕ) → is_rising path_of e ≡ true → IsFirstFrom path e at → has path e ≡ true → new ≡ remove e at → new ≡ without path e
removed path [] new at up first there same = absurd (true≢false (sym there))
removed path (x ∷ e) new at up first there same =
    let here = here_of_has path (x ∷ e) at up first there in
    same ∙ sym (without_at path (x ∷ e) at x up here.inside (first_below path (x ∷ e) at first) (here.is x))

pub invariant_of-self : goal.invariant_of-self
invariant_of-self c =
    let path = c.args.path.now in
    let e = c.self.inside.entries.items in
    let at = c.first_from-at.result in
    let first : IsFirstFrom path e at = subst (λ (xs : List Hit). IsFirstFrom path xs at) c.deref.ensures.value (subst (λ (t : List ℕ). IsFirstFrom t c.deref.result.now at) c.bytes.ensures.bytes c.first_from-at.ensures) in
    let there : has path e ≡ true = ap (has path) (sym c.deref-2.ensures.value) ∙ sym c.is_at-is_there.ensures.there ∙ c.if-is_there.true in
    index_without c.self.inside.folders e c.remove.new.self.items path c.self.invariant (removed path e c.remove.new.self.items at c.self.invariant.rising first there c.remove.ensures.items)

pub returns-then-is_there-clause-left : goal.returns-then-is_there-clause-left
returns-then-is_there-clause-left c =
    let path = c.args.path.now in
    let e = c.self.inside.entries.items in
    let at = c.first_from-at.result in
    let first : IsFirstFrom path e at = subst (λ (xs : List Hit). IsFirstFrom path xs at) c.deref.ensures.value (subst (λ (t : List ℕ). IsFirstFrom t c.deref.result.now at) c.bytes.ensures.bytes c.first_from-at.ensures) in
    let there : has path e ≡ true = ap (has path) (sym c.deref-2.ensures.value) ∙ sym c.is_at-is_there.ensures.there ∙ c.if-is_there.true in
    removed path e c.remove.new.self.items at c.self.invariant.rising first there c.remove.ensures.items ∙ ap (without path) c.self.view_is

pub returns-else-is_there-clause-left : goal.returns-else-is_there-clause-left
returns-else-is_there-clause-left c =
    let path = c.args.path.now in
    let e = c.self.inside.entries.items in
    let none : has path e ≡ false = ap (has path) (sym c.deref-2.ensures.value) ∙ sym c.is_at-is_there.ensures.there ∙ c.if-is_there.false in
    without_none path c.args.self.now (ap (has path) (sym c.self.view_is) ∙ none)
