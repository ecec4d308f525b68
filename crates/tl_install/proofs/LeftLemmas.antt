-- The packages of which a step of a plan speaks, and the entries that it leaves.
use Rattle.std.proofs.Common.{◌≡◌, ◌<◌, ◌+◌, ◌||◌, ℕ, Bool, true, false, List, [], ◌∷◌, ◌++◌, Option, Some, None, length, get_or, take, refl, sym, ap, subst, ◌∙◌, append_assoc}
use Rattle.std.specs.Prelude.{IfSome}
use Rattle.std.specs.List.{IsDistinct}
use Rattle.std.proofs.lemmas.Bool.{or_right}
use Rattle.std.proofs.lemmas.List.{flat_map_more, take_more}
use Rattle.std.proofs.lemmas.List.Concat.{flat_map-append}
use Rattle.std.proofs.lemmas.List.Folds.{list_any-append}
use Rattle.tl_model.specs.Volume.{Name, same_name}
use Rattle.tl_entry.specs.declared.object.Object.{Object}
use Rattle.tl_db.specs.declared.repo.Repo.{Repo}
use Rattle.tl_tree.specs.Changes.{entries_after, has_entries, is_entry}
use Rattle.tl_tree.specs.Conditions.{spoken_names, spoken_names_by}
use Rattle.tl_tree.specs.declared.change.Part.{Part}
use Rattle.tl_tree.proofs.Distinct.{IsPart, part-append, part-nil, part-same}
use Rattle.tl_backup.proofs.Changing.{entries-append}
use Rattle.tl_formats.specs.Ending.{before_of}
use Rattle.tl_formats.proofs.ChangeLaws.{changes_after, changes_join}
use Rattle.tl_trigger.specs.Stale.{HasChanges}
use Rattle.tl_coming.specs.Made.{made_by, made_parts, stream_of}
use Rattle.tl_coming.specs.Parts.{entry_at}
use Rattle.tl_coming.specs.declared.part.PlanPart.{PlanPart}
use Rattle.tl_coming.specs.declared.part.PlanPart.TheVariants.{Install, Update, Remove}
use Rattle.tl_install.specs.Left.{left_in, name_left, spoken_in}

-- what follows from what there is
pub some_map : {X : Type 0} (o : Option X) (P Q : X → Type 0) → ((x : X) → P x → Q x) → IfSome o P → IfSome o Q
some_map None P Q goes is = tt
some_map (Some x) P Q goes is = goes x is

module _ (repos : List Repo) where
  -- what a step does with one part more
  pub made_more : (step : List PlanPart) (i : ℕ) (part : PlanPart) → i < length step → part ≡ get_or step i part → made_parts repos (take i step) ++ made_by repos part ≡ made_parts repos (take (i + 1) step)
  made_more step i part lt is =
      flat_map_more (made_by repos) [] (take i step) part ∙ ap (λ (p : PlanPart). made_parts repos (take i step ++ p ∷ [])) is ∙ ap (made_parts repos) (sym (take_more step i part lt))

  -- the entries after one more part of a step
  pub after_one : (step : List PlanPart) (i : ℕ) (part : PlanPart) (db mid new : List Object) → i < length step → part ≡ get_or step i part → mid ≡ entries_after (made_parts repos (take i step)) db
      → new ≡ entries_after (made_by repos part) mid → new ≡ entries_after (made_parts repos (take (i + 1) step)) db
  after_one step i part db mid new lt is far near =
      near ∙ ap (entries_after (made_by repos part)) far ∙ sym (entries-append (made_parts repos (take i step)) (made_by repos part) db)
      ∙ ap (λ (ps : List Part). entries_after ps db) (made_more step i part lt is)

  -- the names of one part more
  pub spoken_more : (step : List PlanPart) (i : ℕ) (part : PlanPart) (start before after : List Name) → i < length step → part ≡ get_or step i part
      → before ≡ start ++ spoken_names (made_parts repos (take i step)) → after ≡ before ++ spoken_names (made_by repos part)
      → after ≡ start ++ spoken_names (made_parts repos (take (i + 1) step))
  spoken_more step i part start before after lt is far near =
      near ∙ ap (λ (l : List Name). l ++ spoken_names (made_by repos part)) far ∙ joined
    where
      joined : (start ++ spoken_names (made_parts repos (take i step))) ++ spoken_names (made_by repos part) ≡ start ++ spoken_names (made_parts repos (take (i + 1) step))
      joined =
          append_assoc start (spoken_names (made_parts repos (take i step))) (spoken_names (made_by repos part))
          ∙ ap (λ (l : List Name). start ++ l) (sym (flat_map-append spoken_names_by (made_parts repos (take i step)) (made_by repos part)) ∙ ap spoken_names (made_more step i part lt is))

  part_left : (part : PlanPart) → IsPart (name_left repos part) (spoken_names (made_by repos part))
  part_left (Install name repo) = part-nil (spoken_names (made_by repos (Install name repo)))
  part_left (Update name repo) = part-same (spoken_names (made_by repos (Update name repo)))
  part_left (Remove name) = part-same (name ∷ [])

  step_left : (step : List PlanPart) → IsPart (left_in repos step) (spoken_names (made_parts repos step))
  step_left [] = part-nil []
  step_left (part ∷ step) =
      subst (λ (l : List Name). IsPart (left_in repos (part ∷ step)) l) (sym (flat_map-append spoken_names_by (made_by repos part) (made_parts repos step)))
      (part-append (name_left repos part) (left_in repos step) (spoken_names (made_by repos part)) (spoken_names (made_parts repos step)) (part_left part) (step_left step))

  -- no package leaves or is replaced twice
  pub left_once : (step : List PlanPart) (names : List Name) → IsDistinct same_name (spoken_names (made_parts repos step)) → names ≡ left_in repos step → IsDistinct same_name names
  left_once step names once is = subst (IsDistinct same_name) (sym is) ((step_left step).once once)

  stream_speaks : (found : Option Object) → (spoken_names (stream_of found) ≡ [] → ⊥) → has_entries (stream_of found) ≡ true
  stream_speaks None some = absurd (some refl)
  stream_speaks (Some entry) some = refl

  part_speaks : (part : PlanPart) → (name_left repos part ≡ [] → ⊥) → has_entries (made_by repos part) ≡ true
  part_speaks (Install name repo) some = absurd (some refl)
  part_speaks (Update name repo) some = stream_speaks (entry_at repos repo name) some
  part_speaks (Remove name) some = refl

  or_left_true : (a b : Bool) → a ≡ true → (a || b) ≡ true
  or_left_true true b is = refl
  or_left_true false b is = absurd (cc)

  has_none : (name : Name) (names : List Name) → name ∷ names ≡ [] → ⊥
  has_none name names is = cc

  -- a step in which a package leaves or is replaced speaks of an entry
  pub left_speaks : (step : List PlanPart) → (left_in repos step ≡ [] → ⊥) → has_entries (made_parts repos step) ≡ true
  left_speaks [] some = absurd (some refl)
  left_speaks (part ∷ step) some = list_any-append is_entry (made_by repos part) (made_parts repos step) ∙ by (name_left repos part) refl (left_speaks step)
    where
      by : (names : List Name) → name_left repos part ≡ names → ((left_in repos step ≡ [] → ⊥) → has_entries (made_parts repos step) ≡ true) → (has_entries (made_by repos part) || has_entries (made_parts repos step)) ≡ true
      by [] is behind = or_right (has_entries (made_by repos part)) (has_entries (made_parts repos step)) (behind (λ none. some (ap (λ (l : List Name). l ++ left_in repos step) is ∙ none)))
      by (name ∷ names) is behind = or_left_true (has_entries (made_by repos part)) (has_entries (made_parts repos step)) (part_speaks part (λ none. absurd (has_none name names (sym is ∙ none))))

  -- one step more
  pub changes_more : (steps : List (List PlanPart)) (at : ℕ) (step : List PlanPart) (old mid new : List Object) → at < length steps → step ≡ get_or steps at step
      → HasChanges old mid (spoken_in repos (take at steps)) → new ≡ entries_after (made_parts repos step) mid → HasChanges old new (spoken_in repos (take (at + 1) steps))
  changes_more steps at step old mid new lt is far near =
      let spoken : List PlanPart → List Name = λ (s : List PlanPart). spoken_names (made_parts repos s) in
      let names : spoken_in repos (take at steps) ++ spoken step ≡ spoken_in repos (take (at + 1) steps) =
      flat_map_more spoken [] (take at steps) step ∙ ap (λ (s : List PlanPart). spoken_in repos (take at steps ++ s ∷ [])) is ∙ ap (spoken_in repos) (sym (take_more steps at step lt)) in
      subst (HasChanges old new) names
      (changes_join old mid new (spoken_in repos (take at steps)) (spoken step) far
      (subst (λ (db : List Object). HasChanges mid db (spoken step)) (sym near) (changes_after (made_parts repos step) mid)))

-- what is asked of the names behind all steps
pub before_changes : (formats : Bool) (old new : List Object) (names : List Name) (before : Option (List Object)) → before ≡ before_of formats old → HasChanges old new names
    → IfSome before (λ db. HasChanges db new names)
before_changes formats old new names before is changes = subst (λ (o : Option (List Object)). IfSome o (λ db. HasChanges db new names)) (sym is) (by formats)
  where
    by : (formats : Bool) → IfSome (before_of formats old) (λ db. HasChanges db new names)
    by false = tt
    by true = changes
