-- What records do to volumes and their trees.
use Rattle.std.proofs.Common.{◌≡◌, ◌⊎◌, ℕ, true, false, List, [], ◌∷◌, Some, sym, ◌∙◌, ap, subst, inl, inr}
use Rattle.std.specs.List.{AllByRecursion}
use Rattle.std.specs.FinMap as map
use Rattle.std.proofs.lemmas.Bool.{true≢false}
use Rattle.tl_model.specs.Volume.{Name, Volume, at, same_volume, cases_name, SameBut, at-insert_here, at-insert_apart, at-remove_here, at-remove_apart}
use Rattle.tl_journal_text.specs.Records.{Record, Remove, Write, Fits, name_of, is_ours, IsAmong, after, after_one}
use Rattle.tl_journal_text.specs.Stand.{tree_of}
use Rattle.tl_journal_text.proofs.Targets.{target_outside}
use Rattle.tl_journal_text.proofs.Trees.{at_outside, at_ours, split}

pub fits_outside : (r : Record) → Fits r → is_ours (name_of r) ≡ false
fits_outside (Remove name) fits = target_outside name fits
fits_outside (Write name bytes) fits = target_outside name fits.0

-- a name below the journal's folder is none of the records'
pub ours_apart : (rs : List Record) → AllByRecursion Fits rs → (name : Name) → is_ours name ≡ true → IsAmong name rs → ⊥
ours_apart [] fits name ours among = among
ours_apart (r ∷ rs) fits name ours (inl is) = true≢false (sym ours ∙ ap is_ours is ∙ fits_outside r fits.0)
ours_apart (r ∷ rs) fits name ours (inr among) = ours_apart rs fits.1 name ours among

one_agrees : (r : Record) (v w : Volume) (q : Name) → at v q ≡ at w q → at (after_one r v) q ≡ at (after_one r w) q
one_agrees (Remove name) v w q is = elim (cases_name q name) [
  | inl same ↦ subst (λ (n : Name). at (map.remove v name) n ≡ at (map.remove w name) n) (sym same) (at-remove_here v name ∙ sym (at-remove_here w name))
  | inr ne ↦ at-remove_apart v name q ne ∙ is ∙ sym (at-remove_apart w name q ne)
]
one_agrees (Write name bytes) v w q is = elim (cases_name q name) [
  | inl same ↦ subst (λ (n : Name). at (map.insert v name bytes) n ≡ at (map.insert w name bytes) n) (sym same) (at-insert_here v name bytes ∙ sym (at-insert_here w name bytes))
  | inr ne ↦ at-insert_apart v name bytes q ne ∙ is ∙ sym (at-insert_apart w name bytes q ne)
]

one_settles : (r : Record) (v w : Volume) → at (after_one r v) (name_of r) ≡ at (after_one r w) (name_of r)
one_settles (Remove name) v w = at-remove_here v name ∙ sym (at-remove_here w name)
one_settles (Write name bytes) v w = at-insert_here v name bytes ∙ sym (at-insert_here w name bytes)

agrees_at : (rs : List Record) (v w : Volume) (q : Name) → (at v q ≡ at w q) ⊎ IsAmong q rs → at (after rs v) q ≡ at (after rs w) q
agrees_at [] v w q (inl is) = is
agrees_at [] v w q (inr none) = absurd none
agrees_at (r ∷ rs) v w q (inl is) = agrees_at rs (after_one r v) (after_one r w) q (inl (one_agrees r v w q is))
agrees_at (r ∷ rs) v w q (inr (inl same)) = agrees_at rs (after_one r v) (after_one r w) q (inl (subst (λ (n : Name). at (after_one r v) n ≡ at (after_one r w) n) (sym same) (one_settles r v w)))
agrees_at (r ∷ rs) v w q (inr (inr among)) = agrees_at rs (after_one r v) (after_one r w) q (inr among)

pub cases_among : (q : Name) (rs : List Record) → IsAmong q rs ⊎ (IsAmong q rs → ⊥)
cases_among q [] = inr (λ none. none)
cases_among q (r ∷ rs) = elim (cases_name q (name_of r)) [
  | inl is ↦ inl (inl is)
  | inr ne ↦ elim (cases_among q rs) [ inl among ↦ inl (inr among) | inr apart ↦ inr (elim [ inl is ↦ ne is | inr among ↦ apart among ]) ]
]

-- volumes that differ at names of the records alone are one after them
pub after_agrees : (rs : List Record) (v w : Volume) → ((q : Name) → (IsAmong q rs → ⊥) → at v q ≡ at w q) → after rs v ≡ after rs w
after_agrees rs v w is = same_volume (after rs v) (after rs w) (λ q. elim (cases_among q rs) [
  | inl among ↦ agrees_at rs v w q (inr among)
  | inr apart ↦ agrees_at rs v w q (inl (is q apart))
])

-- and so are the trees of volumes that also differ below the journal's folder
pub tree_agrees : (rs : List Record) (v w : Volume) → ((q : Name) → is_ours q ≡ false → (IsAmong q rs → ⊥) → at v q ≡ at w q) → after rs (tree_of v) ≡ after rs (tree_of w)
tree_agrees rs v w is = after_agrees rs (tree_of v) (tree_of w) (λ q apart. elim (split (is_ours q)) [
  | inl ours ↦ at_ours v q ours ∙ sym (at_ours w q ours)
  | inr out ↦ at_outside v q out ∙ is q out apart ∙ sym (at_outside w q out)
])

-- a record changes the tree as it changes the volume
pub tree_after_one : (r : Record) (v : Volume) → Fits r → tree_of (after_one r v) ≡ after_one r (tree_of v)
tree_after_one (Remove name) v fits = same_volume _ _ (λ q. elim (split (is_ours q)) [
  | inl ours ↦ at_ours (map.remove v name) q ours ∙ sym (at-remove_apart (tree_of v) name q (λ is. true≢false (sym ours ∙ ap is_ours is ∙ target_outside name fits)) ∙ at_ours v q ours)
  | inr out ↦ at_outside (map.remove v name) q out ∙ one_agrees (Remove name) v (tree_of v) q (sym (at_outside v q out))
])
tree_after_one (Write name bytes) v fits = same_volume _ _ (λ q. elim (split (is_ours q)) [
  | inl ours ↦ at_ours (map.insert v name bytes) q ours ∙ sym (at-insert_apart (tree_of v) name bytes q (λ is. true≢false (sym ours ∙ ap is_ours is ∙ target_outside name fits.0)) ∙ at_ours v q ours)
  | inr out ↦ at_outside (map.insert v name bytes) q out ∙ one_agrees (Write name bytes) v (tree_of v) q (sym (at_outside v q out))
])

pub same_but_join : (held mid new : Volume) (name : Name) → SameBut name held mid → SameBut name mid new → SameBut name held new
same_but_join held mid new name far near q ne = near q ne ∙ far q ne

-- a volume that differs at one name, which holds these bytes
pub inserted : (held new : Volume) (name : Name) (bytes : List ℕ) → SameBut name held new → at new name ≡ Some bytes → new ≡ map.insert held name bytes
inserted held new name bytes others is = same_volume new (map.insert held name bytes) (λ q. elim (cases_name q name) [
  | inl same ↦ subst (λ (n : Name). at new n ≡ at (map.insert held name bytes) n) (sym same) (is ∙ sym (at-insert_here held name bytes))
  | inr ne ↦ others q ne ∙ sym (at-insert_apart held name bytes q ne)
])
