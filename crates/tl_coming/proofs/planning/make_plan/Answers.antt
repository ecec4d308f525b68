use Rattle.std.proofs.Common.{◌≡◌, List, Option, None, Ok, ap, sym, subst, ◌∙◌, map}
use Rattle.tl_entry.specs.declared.object.Object.{Object}
use Rattle.tl_coming.specs.Asked.{tree_in, unless_fault}
use Rattle.tl_coming.specs.Cuts.{plan_cuts}
use Rattle.tl_coming.specs.Made.{AreChanges}
use Rattle.tl_coming.specs.Parts.{part_name}
use Rattle.tl_coming.specs.Planning.{plan_entries, plan_fault}
use Rattle.tl_coming.specs.Refused.{entries_fault}
use Rattle.tl_coming.specs.declared.error.ComingError.{ComingError}
use Rattle.tl_coming.specs.declared.part.PlanPart.{PlanPart}
use Rattle.tl_coming.proofs.MadeLaws.{changes_of}
use Rattle.tl_coming.proofs.planning.make_plan.Goals as goal

pub returns-in-Ok-clause-plan : goal.returns-in-Ok-clause-plan
returns-in-Ok-clause-plan g c t =
    let repos = c.args.repos.now in
    let plan = c.args.plan.items in
    let db = c.args.tree.now.db in
    let none : plan_fault repos db (tree_in c.args.tree.now) plan ≡ None = ap (plan_fault repos db (tree_in c.args.tree.now)) (sym c.deref.ensures.value) ∙ c.in-Ok.ensures.ok t in
    let steps : c.in_ok-plan_cuts-in-Ok.field-0.items ≡ plan_cuts repos db plan =
    c.in_ok-plan_cuts-in-Ok.ensures ∙ ap (λ (os : List Object). plan_cuts repos os c.deref-in-Ok.result.now) (c.db.ensures ∙ c.refuse_plan.ensures.asked.db)
    ∙ ap (plan_cuts repos db) c.deref-in-Ok.ensures.value in
    ap (λ (w : Option ComingError). unless_fault w (plan_cuts repos db plan)) none ∙ ap (λ (l : List (List PlanPart)). Ok l) (sym steps)

pub returns-in-Ok-clause-changes : goal.returns-in-Ok-clause-changes
returns-in-Ok-clause-changes g c =
    let repos = c.args.repos.now in
    let plan = c.args.plan.items in
    let db = c.args.tree.now.db in
    let steps : c.in_ok-plan_cuts-in-Ok.field-0.items ≡ plan_cuts repos db plan =
    c.in_ok-plan_cuts-in-Ok.ensures ∙ ap (λ (os : List Object). plan_cuts repos os c.deref-in-Ok.result.now) (c.db.ensures ∙ c.refuse_plan.ensures.asked.db)
    ∙ ap (plan_cuts repos db) c.deref-in-Ok.ensures.value in
    subst (AreChanges repos db) (sym steps)
    (changes_of repos db plan c.requires.named c.requires.given
    (subst (λ (l : List PlanPart). entries_fault db (map part_name l) (plan_entries repos l) ≡ None) c.deref.ensures.value c.in-Ok.ensures.entries))
