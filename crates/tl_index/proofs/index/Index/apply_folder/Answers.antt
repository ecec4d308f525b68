use Rattle.std.proofs.Common.{ℕ, List, ◌++◌, ◌∷◌, [], subst}
use Rattle.tl_index.specs.Fronts.{IsStretch}
use Rattle.tl_index.proofs.FolderLemmas.{on_ok}
use Rattle.tl_index.proofs.SelectLemmas.{applied_below}
use Rattle.tl_index.proofs.index.Index.apply_folder.Goals as goal

pub returns : goal.returns
returns c =
    let now = c.args.self.now in
    let low = c.in_ok-low.low in
    let high = c.in_ok-low.high in
    let stretch : IsStretch (c.args.folder.now ++ 47 ∷ []) now low high = subst (λ (t : List ℕ). IsStretch (t ++ 47 ∷ []) now low high) c.bytes.ensures.bytes c.in_ok-low.ensures in
    on_ok c.set_all.result (λ set. applied_below c.args.folder.now c.args.positive now low high c.args.places.now c.set_all.new.self stretch set) c.set_all.ensures
