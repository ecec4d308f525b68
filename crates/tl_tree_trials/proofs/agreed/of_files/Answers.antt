use Rattle.std.proofs.Common.{List, ℕ, [], ◌∷◌, ap, sym, subst, ◌∙◌}
use Rattle.std.proofs.lemmas.Result.{IfOk-weaker}
use Rattle.tl_tree.specs.declared.change.Part.{Part}
use Rattle.tl_tree.specs.declared.change.Part.TheVariants.{Write, Erase, Later}
use Rattle.tl_tree.specs.Conditions.{IsChange}
use Rattle.tl_tree_trials.proofs.Agreements.{label}
use Rattle.tl_tree_trials.proofs.Agreements as agreements
use Rattle.tl_tree_trials.proofs.agreed.of_files.Goals as goal

pub returns : goal.returns
returns g c = IfOk-weaker c.labelled.result _ _ (λ change is.
    let files = c.args.files in
    let list : List (List ℕ) → List Part = λ ps. Write files.written.path files.written.bytes ∷ Erase files.erased ∷ Later ps ∷ [] in
    subst (λ (l : List ℕ). IsChange c.args.tree.now.db change.parts l) (sym is.1)
    (subst (λ (ps : List Part). IsChange c.args.tree.now.db ps label) (sym (is.0 ∙ c.in_ok-from_array.ensures.items ∙ ap list (c.new.ensures ∙ c.in_ok-later.ensures.items)))
    (agreements.of_files c.args.tree.now.db files.written.path files.erased files.later files.written.bytes c.free.ensures.unreserved c.free-2.ensures.unreserved c.free-3.ensures.unreserved
    c.free.ensures.unowned c.free-2.ensures.unowned c.free-3.ensures.unowned c.differ.ensures c.differ-2.ensures c.differ-3.ensures)))
    c.labelled.ensures
