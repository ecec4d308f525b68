use Rattle.std.proofs.Common.{◌++◌, List, ℕ, ◌∙◌, ap, map}
use Rattle.tl_coming.specs.declared.part.PlanPart.{PlanPart}
use Rattle.tl_coming.specs.declared.part.PlanPart.TheVariants.{Remove}
use Rattle.tl_bring.specs.Installation.{arrivals}
use Rattle.tl_renew.specs.Updating.{left_names, update_plan}
use Rattle.tl_renew.proofs.updating.update_plan.Goals as goal

pub returns : goal.returns
unfolding update_plan
returns c =
    let pins = c.args.pins.now in
    let repos = c.args.repos.now in
    let db = c.args.db.now in
    let left : List PlanPart = map Remove (left_names pins repos db c.args.ask.now) in
    c.in_ok-push_arrivals.ensures
    ∙ ap (λ (plan : List PlanPart). plan ++ arrivals pins repos db c.deref-3.result.now)
    (c.in_ok-push_removals.ensures ∙ ap (λ (plan : List PlanPart). plan ++ map Remove c.in_ok-left.left.items) c.new-plan.ensures.items ∙ ap (λ (names : List (List ℕ)). map Remove names) c.in_ok-left.ensures)
    ∙ ap (λ (names : List (List ℕ)). left ++ arrivals pins repos db names) (c.deref-3.ensures.value ∙ c.in_ok-names.ensures)
