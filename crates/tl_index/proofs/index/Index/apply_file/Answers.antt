use Rattle.std.proofs.Common.{◌≡◌, ℕ, true, List, subst, sym, ap, ◌∙◌, arith}
use Rattle.tl_index.specs.declared.hit.Hit.{Hit}
use Rattle.tl_index.specs.Fronts.{IsStretch, is_within, plain_front}
use Rattle.tl_index.proofs.SelectLemmas.{walked_done, file_covered}
use Rattle.tl_index.proofs.index.Index.apply_file.Goals as goal

pub returns-clause-applied : goal.returns-clause-applied
returns-clause-applied g c =
    let pattern = c.args.placed.now.pattern in
    let now = c.args.self.now in
    let low = c.stretch-low.result.0 in
    let high = c.stretch-low.result.1 in
    let file = c.args.file.now in
    let stretch : IsStretch (plain_front file) now low high =
    subst (λ (t : List ℕ). IsStretch t now low high) (c.plain_front.ensures ∙ ap plain_front c.bytes.ensures.bytes)
    (subst (λ (xs : List Hit). IsStretch c.plain_front.result.now xs low high) (c.deref.ensures.value ∙ c.self.view_is) c.stretch-low.ensures) in
    let same : high ≡ c.loop-place.place = omega arith in
    walked_done pattern c.args.placed.now.positive now low c.loop-place.place c.args.places.now c.loop-place.places _ _
    (λ i d lt hit. subst (λ n. is_within low n i ≡ true) same (file_covered pattern file now low high c.requires.kind c.requires.file stretch i d lt hit)) c.loop-place.invariant
