-- Bytes come for a step, which stands between two files or within one.
use Rattle.std.proofs.Common.{◌≡◌, ◌-◌, ◌≤◌, ℕ, Bool, true, List, [], ◌∷◌, ◌++◌, length, Option, refl, sym, ◌∙◌, ap, subst, arith}
use Rattle.tl_model.specs.Volume.{Names}
use Rattle.tl_model.specs.Seen.{Seen, Told}
use Rattle.tl_journal.specs.States.{Writes, coming as staged_with}
use Rattle.tl_journal.specs.Spent.{Stages}
use Rattle.tl_entry.specs.declared.object.Object.{Object}
use Rattle.tl_tree.specs.declared.change.Part.{Part}
use Rattle.tl_tree.specs.declared.step.Place.{Place}
use Rattle.tl_tree.specs.declared.step.Place.TheVariants.{Between, Within}
use Rattle.tl_tree.specs.Opened.{Opened, may_come, with_bytes, given}
use Rattle.tl_tree.specs.Under.{seen_of, seen_as, IsPlanned, IsUnderWay}
use Rattle.tl_tree.proofs.Givens.{with-nil}
use Rattle.tl_tree.proofs.Underway.{may_come_few, more_planned, under_more, more_given}

module _ (H : Type 0) (old : List Object) (parts : List Part) (label : List ℕ) (waiting : Names) (astray : Bool) (entries : Option (List Object)) (bytes : List ℕ) (place next : Place H) (tells : Bool)
    (may : may_come (length bytes) (seen_as place old parts label waiting astray) ≡ true)
    (is_planned : IsPlanned (seen_as place old parts label waiting astray) entries) (is_under : Told tells (IsUnderWay (seen_as place old parts label waiting astray))) where
  abbrev step_at : Place H → Opened
  step_at p = seen_as p old parts label waiting astray

  -- what more bytes make of a step
  pub record Adds : Type 0 where
    pub planned : IsPlanned (step_at next) entries
    pub under : Told tells (IsUnderWay (step_at next))
    pub given : Told tells (given (step_at next) ≡ with_bytes bytes (given (step_at place)))
    pub stages : Told tells (Stages (seen_of place) (seen_of next))

  -- none come between two files
  pub adds_between : (staging : Seen) → place ≡ Between staging → next ≡ Between staging → Adds
  adds_between staging is at =
      let same : next ≡ place = at ∙ sym is in
      let few : length bytes ≤ 0 = may_come_few (length bytes) (step_at (Between staging)) (subst (λ (p : Place H). may_come (length bytes) (step_at p) ≡ true) is may) in record {
        planned = subst (λ (p : Place H). IsPlanned (step_at p) entries) (sym same) is_planned;
        under = λ t. subst (λ (p : Place H). IsUnderWay (step_at p)) (sym same) (is_under t);
        given = λ t. ap (λ (p : Place H). given (step_at p)) same ∙ sym (ap (λ (l : List ℕ). with_bytes l (given (step_at place))) (none bytes few) ∙ with-nil (given (step_at place)));
        stages = λ t. subst (λ (p : Place H). Stages (seen_of place) (seen_of p)) (sym same) (is_under t).stages;
      }
    where
      none : (l : List ℕ) → length l ≤ 0 → l ≡ []
      none [] few = refl
      none (b ∷ l) few = absurd (omega arith)

  -- within a file
  pub adds_within : (writing more : Writes) → place ≡ Within writing → next ≡ Within more → more.left ≡ writing.left - length bytes
      → Told tells ((rest : List ℕ) → staged_with more rest ≡ staged_with writing (bytes ++ rest)) → Told tells (Stages writing.seen more.seen) → Adds
  adds_within writing more is at less staging stages =
      let within = step_at (Within writing) in
      let few : length bytes ≤ writing.left = may_come_few (length bytes) within (subst (λ (p : Place H). may_come (length bytes) (step_at p) ≡ true) is may) in
      let here : IsPlanned within entries = subst (λ (p : Place H). IsPlanned (step_at p) entries) is is_planned in
      let way : Told tells (IsUnderWay within) = λ t. subst (λ (p : Place H). IsUnderWay (step_at p)) is (is_under t) in record {
        planned = subst (λ (p : Place H). IsPlanned (step_at p) entries) (sym at) (more_planned within entries here more.seen more.left);
        under = λ t. subst (λ (p : Place H). IsUnderWay (step_at p)) (sym at) (under_more within (way t) bytes few more.seen more.left less (stages t) (staging t));
        given = λ t.
            ap (λ (p : Place H). given (step_at p)) at
            ∙ more_given within (way t) bytes few more.seen more.left less entries here (stages t) (staging t)
            ∙ ap (λ (p : Place H). with_bytes bytes (given (step_at p))) (sym is);
        stages = λ t. subst (λ (p : Place H). Stages (seen_of p) (seen_of next)) (sym is) (subst (λ (p : Place H). Stages writing.seen (seen_of p)) (sym at) (stages t));
      }
