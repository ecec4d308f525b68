use Rattle.std.proofs.Common.{◌≡◌, ap, ℕ, List, subst, sym, ◌∙◌}
use Rattle.tl_index.specs.declared.hit.Hit.{Hit}
use Rattle.tl_index.specs.declared.index.Index.TheInside.{Inside}
use Rattle.tl_index.specs.Folders.{KnowsAll}
use Rattle.tl_index.proofs.SelectLemmas.{tree_done, bounds_order}
use Rattle.tl_index.proofs.index.Index.apply_tree.Goals as goal

pub range-key-items-requires : goal.range-key-items-requires
range-key-items-requires c = bounds_order c.args.words.now c.args.name.now c.in_ok-front.front c.in_ok-front.behind c.in_ok-front.ensures

pub returns : goal.returns
returns c =
    let keys = c.self-inside.inside.0.1.0.keys.keys in
    let same : keys ≡ c.self.inside.folders = ap (λ (inside : Inside). inside.folders) c.self-inside.view_is in
    let known : KnowsAll keys c.args.self.now =
    subst (λ (hits : List Hit). KnowsAll keys hits) c.self.view_is (subst (λ (k : List (List ℕ)). KnowsAll k c.self.inside.entries.items) (sym same) c.self.invariant.known) in
    tree_done c.args.positive c.args.self.now keys c.into_iter-key-iterator.result c.loop-key.key-iterator c.args.words.now c.args.name.now c.in_ok-front.front c.in_ok-front.behind
    c.args.places.now c.loop-key.places c.requires c.in_ok-front.ensures known (c.into_iter-key-iterator.ensures.into_iter_gives ∙ c.range-key-items.ensures.between tt) c.in-None.ensures.steps.0 c.loop-key.invariant
