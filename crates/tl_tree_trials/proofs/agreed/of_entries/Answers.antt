use Rattle.std.proofs.Common.{List, ℕ, [], ◌∷◌, ap, sym, subst, ◌∙◌}
use Rattle.std.proofs.lemmas.Result.{IfOk-weaker}
use Rattle.tl_tree.specs.declared.change.Part.{Part}
use Rattle.tl_tree.specs.Conditions.{IsChange, has_later}
use Rattle.tl_tree_trials.proofs.Agreements.{label}
use Rattle.tl_tree_trials.proofs.Agreements as agreements
use Rattle.tl_tree_trials.proofs.agreed.of_entries.Goals as goal

pub returns-clause-change : goal.returns-clause-change
returns-clause-change g c = IfOk-weaker c.labelled.result _ _ (λ change is db.
    subst (λ (l : List ℕ). IsChange db change.parts l) (sym is.1)
    (subst (λ (ps : List Part). IsChange db ps label) (sym (is.0 ∙ c.in_ok-from_array.ensures.items)) (agreements.of_entries db c.args.removed c.args.entry c.names_differ.ensures)))
    c.labelled.ensures

pub returns-clause-whole : goal.returns-clause-whole
returns-clause-whole g c = IfOk-weaker c.labelled.result _ _ (λ change is. ap has_later (is.0 ∙ c.in_ok-from_array.ensures.items)) c.labelled.ensures
