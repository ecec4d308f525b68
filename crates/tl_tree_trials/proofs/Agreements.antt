-- Changes that a step takes.
use Rattle.std.proofs.Common.{◌≡◌, ◌≢◌, ℕ, Bool, true, false, cond, ◌||◌, List, [], ◌∷◌, ◌++◌, Option, Some, None, refl, sym, ◌∙◌, ap, subst, inl, inr}
use Rattle.std.specs.Prelude.{codes, not, filter, find}
use Rattle.std.specs.Option.{option_map}
use Rattle.std.specs.List.{flat_map}
use Rattle.std.proofs.lemmas.Bool.{cases_Bool, true≢false, false_from_ne_true}
use Rattle.tl_model.specs.Volume.{Name, same_name, same_name-is, same_name-refl}
use Rattle.tl_model.specs.Acks.{IsLabel, acks}
use Rattle.tl_path.specs.Reserved.{is_reserved}
use Rattle.tl_entry.specs.Rising.{has_key}
use Rattle.tl_entry.specs.declared.object.Object.{Object}
use Rattle.tl_tree.specs.declared.change.Part.TheVariants.{Remove, Entry, Write, Erase, Later}
use Rattle.tl_tree.specs.Changes.{own}
use Rattle.tl_tree.specs.Staged.{has_name}
use Rattle.tl_tree.specs.Owners.{owner_of, name_of}
use Rattle.tl_tree.specs.Conditions.{IsChange}
use Rattle.tl_tree.proofs.Distinct.{neither_has, once-cons, once-nil}
use Rattle.tl_tree.proofs.Spoken.{free_loose}

apart : (a b : Name) → a ≢ b → same_name a b ≡ false
apart a b differ = false_from_ne_true _ (λ e. differ (same_name-is a b e))

abbrev pub label : List ℕ
label = codes "step 1/1 edit done" ++ 10 ∷ []

label_is : IsLabel label
unfolding acks
label_is = record { one = refl; whole = refl }

-- a package that is removed, and an entry of another
pub of_entries : (db : List Object) (removed : Name) (entry : Object) → removed ≢ entry.name → IsChange db (Remove removed ∷ Entry entry ∷ []) label
of_entries db removed entry differ = record {
  names = once-cons removed (entry.name ∷ []) (ap (λ b. b || false) (apart removed entry.name differ)) (once-cons entry.name [] refl once-nil);
  paths = once-nil;
  puts = (tt, (tt, tt));
  keeps = tt;
  beside = tt;
  label = label_is;
}

-- a path that no entry has isn't among the files of any of them
key_name : (path : Name) (names : List Name) → has_key (λ (p : Name). p) path names ≡ false → has_name path names ≡ false
key_name path [] none = refl
key_name path (n ∷ names) none = elim (cases_Bool (same_name n path)) [
  | inl e ↦ absurd (true≢false (sym (ap (λ b. b || has_key (λ (p : Name). p) path names) e) ∙ none))
  | inr e ↦
      ap (λ b. b || has_name path names) (apart path n (λ is. true≢false (sym (ap (λ (m : Name). same_name n m) is ∙ same_name-refl n) ∙ e)))
      ∙ key_name path names (sym (ap (λ b. b || has_key (λ (p : Name). p) path names) e) ∙ none)
]

pub unowned : (path : Name) (q : Object → Bool) (db : List Object) → owner_of path db ≡ None → has_name path (flat_map own (filter q db)) ≡ false
unowned path q [] none = refl
unowned path q (entry ∷ db) none = elim (cases_Bool (has_key (λ (p : Name). p) path (own entry))) [
  | inl e ↦
      let found = ap (λ b. option_map name_of (cond b (Some entry) (find (λ (o : Object). has_key (λ (p : Name). p) path (own o)) db))) e in
      absurd (cc (sym found ∙ none))
  | inr e ↦
      let rest : owner_of path db ≡ None = sym (ap (λ b. option_map name_of (cond b (Some entry) (find (λ (o : Object). has_key (λ (p : Name). p) path (own o)) db))) e) ∙ none in
      by (q entry) e (unowned path q db rest)
]
  where
    by : (b : Bool) → has_key (λ (p : Name). p) path (own entry) ≡ false → has_name path (flat_map own (filter q db)) ≡ false → has_name path (flat_map own (cond b (entry ∷ filter q db) (filter q db))) ≡ false
    by true e rest = neither_has path (own entry) (flat_map own (filter q db)) (key_name path (own entry) e) rest
    by false e rest = rest

-- files beside those of entries
pub of_files : (db : List Object) (written erased late : Name) (bytes : List ℕ) → is_reserved written ≡ false → is_reserved erased ≡ false → is_reserved late ≡ false
    → owner_of written db ≡ None → owner_of erased db ≡ None → owner_of late db ≡ None → written ≢ erased → written ≢ late → erased ≢ late
    → IsChange db (Write written bytes ∷ Erase erased ∷ Later (late ∷ []) ∷ []) label
of_files db written erased late bytes w e l no_w no_e no_l we wl el = let stays = λ (o : Object). not (has_name o.name []) in record {
  names = once-nil;
  paths = once-cons written (erased ∷ late ∷ []) (ap (λ b. b || (same_name written late || false)) (apart written erased we) ∙ ap (λ b. b || false) (apart written late wl))
      (once-cons erased (late ∷ []) (ap (λ b. b || false) (apart erased late el)) (once-cons late [] refl once-nil));
  puts = (tt, (tt, (tt, tt)));
  keeps = (unowned written stays db no_w, (unowned erased stays db no_e, (unowned late stays db no_l, tt)));
  beside = (free_loose written w, (free_loose erased e, (free_loose late l, tt)));
  label = label_is;
}
