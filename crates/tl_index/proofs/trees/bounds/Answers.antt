use Rattle.std.proofs.Common.{◌≡◌, ℕ, List, [], ◌∷◌, ◌++◌, ◌-◌, take, length, sym, ap, ◌∙◌}
use Rattle.tl_index.proofs.TreeLemmas.{bounds_of}
use Rattle.tl_index.proofs.trees.bounds.Goals as goal

pub returns : goal.returns
returns c =
    let text = c.in_ok-text.text.items in
    let name = c.args.name.now in
    let left = c.pop.new.self.items in
    let left_is : left ≡ take (length text - 1) text = c.pop.ensures.rest ∙ ap (λ n. take (n - 1) text) (sym c.deref.ensures.len ∙ ap length c.deref.ensures.value) in
    let front_is : c.in_ok-front.front ≡ name ++ 47 ∷ text = c.in_ok-front.ensures ∙ ap (λ (t : List ℕ). t ++ 47 ∷ c.deref.result.now) c.bytes.ensures.bytes ∙ ap (λ (t : List ℕ). name ++ 47 ∷ t) c.deref.ensures.value in
    let behind_is : c.in_ok-behind.behind ≡ name ++ 47 ∷ (left ++ 48 ∷ []) =
    c.in_ok-behind.ensures ∙ ap (λ (t : List ℕ). t ++ 47 ∷ c.deref-2.result.now) c.bytes-2.ensures.bytes ∙ ap (λ (t : List ℕ). name ++ 47 ∷ t) (c.deref-2.ensures.value ∙ c.in_ok-push.ensures.items) in
    bounds_of c.args.words.now name text left c.in_ok-front.front c.in_ok-behind.behind c.requires c.in_ok-text.ensures left_is front_is behind_is
