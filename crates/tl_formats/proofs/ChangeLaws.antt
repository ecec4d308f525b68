-- The names at which databases may differ, step by step.
use Rattle.std.proofs.Common.{◌≡◌, ◌⊎◌, ◌||◌, not, ℕ, Bool, true, false, List, [], ◌∷◌, ◌++◌, Option, Some, None, refl, sym, ap, subst, ◌∙◌, inl, inr}
use Rattle.std.specs.Str.{bytes_eq}
use Rattle.std.specs.List.{list_any}
use Rattle.std.specs.Cmp.Lexicographic.{same_text}
use Rattle.std.proofs.lemmas.Bool.{cases_Bool, true≢false}
use Rattle.std.proofs.lemmas.List.Folds.{list_any-append}
use Rattle.std.proofs.lemmas.Map.Text.{is_eq-slice_cmp}
use Rattle.std.proofs.lemmas.Slice.Eq.{bytes_eq-Decides}
use Rattle.tl_model.specs.Volume.{Name, Volume}
use Rattle.tl_entry.specs.declared.object.Object.{Object}
use Rattle.tl_object.specs.Writing.{object_text}
use Rattle.tl_db.specs.Entries.{entry_of}
use Rattle.tl_tree.specs.Staged.{has_name}
use Rattle.tl_tree.specs.Changes.{entries_after}
use Rattle.tl_tree.specs.Conditions.{spoken_names}
use Rattle.tl_tree.specs.declared.change.Part.{Part}
use Rattle.tl_tree.proofs.Entering.{entry_of-after}
use Rattle.tl_trigger.specs.Stale.{is_same, is_changed, HasChanges}
use Rattle.tl_command.specs.Runs.{AreLabelled}
use Rattle.tl_formats.specs.Ending.{formats_end}

among : (name : Name) (names : List Name) → has_name name names ≡ list_any (bytes_eq name) names
among name [] = refl
among name (n ∷ names) = ap (λ b. b || has_name name names) (is_eq-slice_cmp name n) ∙ ap (λ b. bytes_eq name n || b) (among name names)

same_itself : (found : Option Object) → is_same found found ≡ true
same_itself None = refl
same_itself (Some entry) = (bytes_eq-Decides (object_text entry) (object_text entry)).1 refl

same_trans : (a b c : Option Object) → is_same a b ≡ true → is_same b c ≡ true → is_same a c ≡ true
same_trans None None c first second = second
same_trans None (Some b) c first second = absurd (true≢false (sym first))
same_trans (Some a) None c first second = absurd (true≢false (sym first))
same_trans (Some a) (Some b) None first second = absurd (true≢false (sym second))
same_trans (Some a) (Some b) (Some c) first second =
    subst (λ (text : List ℕ). bytes_eq text (object_text c) ≡ true) (sym (same_text (object_text a) (object_text b) (sym first))) second

not_changed : (b : Bool) → not b ≡ false → b ≡ true
not_changed true is = refl
not_changed false is = absurd (true≢false is)

-- nowhere, where nothing was done
pub changes_none : (db : List Object) (names : List Name) → HasChanges db db names
changes_none db names name changed = absurd (true≢false (sym changed ∙ ap not (same_itself (entry_of name db))))

-- only at the names of which a change speaks
pub changes_after : (parts : List Part) (db : List Object) → HasChanges db (entries_after parts db) (spoken_names parts)
changes_after parts db name changed = by (cases_Bool (list_any (bytes_eq name) (spoken_names parts)))
  where
    by : (list_any (bytes_eq name) (spoken_names parts) ≡ true) ⊎ (list_any (bytes_eq name) (spoken_names parts) ≡ false) → list_any (bytes_eq name) (spoken_names parts) ≡ true
    by (inl there) = there
    by (inr none) =
        absurd (true≢false (sym changed ∙ ap (λ (o : Option Object). not (is_same (entry_of name db) o)) (entry_of-after parts name db (among name (spoken_names parts) ∙ none)) ∙ ap not (same_itself (entry_of name db))))

or_first : (a b : Bool) → a ≡ true → (a || b) ≡ true
or_first true b is = refl
or_first false b is = absurd (true≢false (sym is))

or_second : (a b : Bool) → b ≡ true → (a || b) ≡ true
or_second true b is = refl
or_second false b is = is

-- at the names of one change and at those of the next
pub changes_join : (old mid new : List Object) (first second : List Name) → HasChanges old mid first → HasChanges mid new second → HasChanges old new (first ++ second)
changes_join old mid new first second far near name changed =
    list_any-append (bytes_eq name) first second ∙ by (cases_Bool (is_changed old mid name)) (cases_Bool (is_changed mid new name))
  where
    by : (is_changed old mid name ≡ true) ⊎ (is_changed old mid name ≡ false) → (is_changed mid new name ≡ true) ⊎ (is_changed mid new name ≡ false)
        → (list_any (bytes_eq name) first || list_any (bytes_eq name) second) ≡ true
    by (inl here) later = or_first (list_any (bytes_eq name) first) (list_any (bytes_eq name) second) (far name here)
    by (inr same) (inl here) = or_second (list_any (bytes_eq name) first) (list_any (bytes_eq name) second) (near name here)
    by (inr same) (inr again) =
        absurd (true≢false (sym changed ∙ ap not (same_trans (entry_of name old) (entry_of name mid) (entry_of name new)
        (not_changed (is_same (entry_of name old) (entry_of name mid)) same) (not_changed (is_same (entry_of name mid) (entry_of name new)) again))))

-- what is said of formats is no step
pub labelled-formats : (before : Option (List Object)) (db : List Object) (tree : Volume) → AreLabelled (formats_end before db tree).events
labelled-formats None db tree = tt
labelled-formats (Some old) db tree = tt
