-- A set of paths that is kept in an ordered set.
use Rattle.std.proofs.Common.{◌≡◌, Bool, true, false, cond, ◌||◌, ◌&&◌, List, [], ◌∷◌, ◌++◌, refl, sym, ◌∙◌, ap, inl, inr}
use Rattle.std.specs.Prelude.{not}
use Rattle.std.specs.FinSet as set
use Rattle.std.specs.FinMap.{slice_cmp-IsAntisymmetric, nat_cmp-IsAntisymmetric}
use Rattle.std.specs.Cmp.Lexicographic.{nat_list_cmp_total}
use Rattle.std.proofs.lemmas.Bool.{cases_Bool, true≢false, false_from_ne_true}
use Rattle.tl_model.specs.Volume.{Name, Names, same_name, same_name-is, same_name-refl}
use Rattle.tl_tree.specs.Staged.{has_name}

-- names as a set
abbrev pub set_of : List Name → Names
set_of names = set.from_list names

pub contains-set_of : (names : List Name) (name : Name) → set.contains (set_of names) name ≡ has_name name names
contains-set_of names name = set.contains-from_list nat_list_cmp_total names name

pub same_name-sym : (a b : Name) → same_name a b ≡ same_name b a
same_name-sym a b = elim (cases_Bool (same_name a b)) [
  | inl e ↦ e ∙ sym (ap (λ (n : Name). same_name n a) (sym (same_name-is a b e)) ∙ same_name-refl a)
  | inr e ↦ e ∙ sym (false_from_ne_true (same_name b a) (λ is. true≢false (sym (ap (λ (n : Name). same_name n b) (sym (same_name-is b a is)) ∙ same_name-refl b) ∙ e)))
]

same : (s t : Names) → ((name : Name) → set.contains s name ≡ set.contains t name) → s ≡ t
same s t is = set.same_set nat_list_cmp_total (slice_cmp-IsAntisymmetric nat_cmp-IsAntisymmetric) s t is

-- keys after one was taken out
pub taken_out : (old new : List Name) (path : Name) → ((name : Name) → has_name name new ≡ cond (same_name path name) false (has_name name old)) → set_of new ≡ set.remove (set_of old) path
taken_out old new path is = same _ _ (λ name.
    contains-set_of new name ∙ is name ∙ by (same_name path name) (has_name name old)
    ∙ ap (λ b. not b && has_name name old) (same_name-sym path name)
    ∙ ap (λ b. not (same_name name path) && b) (sym (contains-set_of old name))
    ∙ sym (set.contains-remove nat_list_cmp_total (set_of old) path name))
  where
    by : (b c : Bool) → cond b false c ≡ (not b && c)
    by true c = refl
    by false c = refl

-- keys after one was put in
pub put_in : (old new come : List Name) (path : Name) → ((name : Name) → has_name name new ≡ cond (same_name path name) true (has_name name old)) → set_of old ≡ set_of come → set_of new ≡ set_of (come ++ path ∷ [])
put_in old new come path is far = same _ _ (λ name.
    contains-set_of new name ∙ is name ∙ by (same_name path name) (has_name name old)
    ∙ ap (λ b. b || has_name name old) (same_name-sym path name)
    ∙ ap (λ b. same_name name path || b) (sym (contains-set_of old name) ∙ ap (λ (s : Names). set.contains s name) far)
    ∙ sym (set.contains-insert nat_list_cmp_total (set_of come) path name)
    ∙ ap (λ (s : Names). set.contains s name) (sym (set.from_list_push nat_list_cmp_total (slice_cmp-IsAntisymmetric nat_cmp-IsAntisymmetric) come path)))
  where
    by : (b c : Bool) → cond b true c ≡ (b || c)
    by true c = refl
    by false c = refl
