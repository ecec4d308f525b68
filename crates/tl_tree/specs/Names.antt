-- What a tree says of the names of its volume.
use Rattle.std.specs.Prelude.{◌≡◌, Bool, true, false, not, cond, None}
use Rattle.std.specs.FinMap as map
use Rattle.std.specs.FinMap.{slice_cmp-IsAntisymmetric, nat_cmp-IsAntisymmetric}
use Rattle.std.proofs.Common.{sym, ◌∙◌, ap}
use Rattle.tl_model.specs.Volume.{Name, Volume, at}
use Rattle.tl_journal_text.specs.Records.{is_ours}
use Rattle.tl_journal_text.specs.Stand.{tree_of}

-- what a tree holds: what its volume does, but nothing below the journal's folder
pub at-tree_of : (volume : Volume) (name : Name) → at (tree_of volume) name ≡ cond (not (is_ours name)) (at volume name) None
at-tree_of volume name =
    let keep : Name → Bool = λ n. not (is_ours n) in
    map.get-retain_keys volume keep name (λ x equal. ap (λ (n : Name). not (is_ours n)) (sym (slice_cmp-IsAntisymmetric nat_cmp-IsAntisymmetric name x equal)))

-- a name outside the journal's folder
pub at-tree_of-outside : (volume : Volume) (name : Name) → is_ours name ≡ false → at (tree_of volume) name ≡ at volume name
at-tree_of-outside volume name outside = at-tree_of volume name ∙ ap (λ b. cond (not b) (at volume name) None) outside

-- a name below it
pub at-tree_of-ours : (volume : Volume) (name : Name) → is_ours name ≡ true → at (tree_of volume) name ≡ None
at-tree_of-ours volume name ours = at-tree_of volume name ∙ ap (λ b. cond (not b) (at volume name) None) ours
