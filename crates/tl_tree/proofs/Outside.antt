-- An entry's files are outside the journal's folder.
use Rattle.std.proofs.Common.{◌≡◌, ◌⊎◌, Bool, true, false, cond, ◌||◌, ◌&&◌, List, [], ◌∷◌, ◌++◌, drop, Option, Some, None, refl, sym, ◌∙◌, ap, inl, inr}
use Rattle.std.specs.Prelude.{not, filter, bytes_eq}
use Rattle.std.proofs.lemmas.Bool.{cases_Bool, true≢false}
use Rattle.tl_model.specs.Volume.{Name}
use Rattle.tl_path.specs.Components.{is_below}
use Rattle.tl_path.specs.Reserved.{is_reserved, reserved_paths}
use Rattle.tl_path.proofs.Front.{is_below-begins}
use Rattle.tl_journal_text.specs.Records.{is_ours, is_outside}
use Rattle.tl_entry.specs.declared.object.Object.{Object}
use Rattle.tl_tree.specs.Changes.{own_of, listed}
use Rattle.tl_tree.specs.Staged.{AreOutside}
use Rattle.tl_tree.proofs.Order.{folder, ours_front}

left : (a b : Bool) → (a || b) ≡ false → (a ≡ false) × (b ≡ false)
left true b e = absurd (cc)
left false b e = (refl, e)

-- a name that isn't reserved
pub reserved_outside : (name : Name) → is_reserved name ≡ false → is_outside name ≡ true
unfolding is_reserved reserved_paths
reserved_outside name free =
    let touches = (left _ _ free).0 in
    let apart = left (bytes_eq name folder) (is_below name folder || is_below folder name) touches in
    let not_below = (left (is_below name folder) (is_below folder name) apart.1).0 in
    outside (bytes_eq name folder) apart.0 (cases_Bool (is_ours name)) not_below
  where
    below : is_ours name ≡ true → is_below name folder ≡ true
    below ours = ap (λ (n : Name). is_below n folder) (ours_front name ours) ∙ is_below-begins folder (folder ++ 47 ∷ drop 14 name)

    outside : (b : Bool) → b ≡ false → (is_ours name ≡ true) ⊎ (is_ours name ≡ false) → is_below name folder ≡ false → (not (is_ours name) && not b) ≡ true
    outside b same (inl ours) not_there = absurd (true≢false (sym (below ours) ∙ not_there))
    outside b same (inr apart) not_there = ap (λ a. not a && not b) apart ∙ ap not same

kept_outside : (n : Name) (rest : List Name) → AreOutside rest → (b : Bool) → is_reserved n ≡ b → AreOutside (cond (not b) (n ∷ rest) rest)
kept_outside n rest all true is = all
kept_outside n rest all false is = (reserved_outside n is, all)

filter_outside : (names : List Name) → AreOutside (filter (λ p. not (is_reserved p)) names)
filter_outside [] = tt
filter_outside (n ∷ names) = kept_outside n (filter (λ p. not (is_reserved p)) names) (filter_outside names) (is_reserved n) refl

-- the files of the entry with a name, if an entry has it
pub own_outside : (entry : Option Object) → AreOutside (own_of entry)
own_outside None = tt
own_outside (Some entry) = filter_outside (listed entry)

pub outside_append : (xs ys : List Name) → AreOutside xs → AreOutside ys → AreOutside (xs ++ ys)
outside_append [] ys far near = near
outside_append (x ∷ xs) ys far near = (far.0, outside_append xs ys far.1 near)
