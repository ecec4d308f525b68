use Rattle.std.proofs.Common.{◌≡◌, ◌&&◌, [], List, Vec, Global, Result, Ok, Err, sym, ◌∙◌, ap, subst}
use Rattle.tl_model.specs.Volume.{Volume}
use Rattle.tl_entry.specs.declared.object.Object.{Object}
use Rattle.tl_command.specs.Performs.{Performs}
use Rattle.tl_command.proofs.Databases.{same_tree}
use Rattle.tl_command.proofs.Joins.{advances_fewer, advances_quiet, performs_quiet, performs_same}
use Rattle.tl_db.specs.declared.repo.Repo.{Repo}
use Rattle.tl_coming.specs.Asked.{tree_in}
use Rattle.tl_coming.specs.Made.{AreChanges}
use Rattle.tl_coming.specs.declared.error.ComingError.{ComingError}
use Rattle.tl_coming.specs.declared.part.PlanPart.{PlanPart}
use Rattle.tl_coming.specs.declared.part.PlanStep.{PlanStep}
use Rattle.tl_renew.specs.Updating.{update_of}
use Rattle.tl_fill.proofs.StepLemmas.{told_both}
use Rattle.tl_offer.specs.Offered.{counted_faults}
use Rattle.tl_install.specs.Install.{planned_run}
use Rattle.tl_install.specs.Steps.{plan_made}
use Rattle.tl_install.proofs.PlanAnswers.{answered}
use Rattle.tl_update.proofs.updating.update_offered.Goals as goal

pub make_steps-requires : goal.make_steps-requires
make_steps-requires g c =
    let db = c.plan_update.new.tree.db in
    subst (λ (ss : List (List PlanPart)). AreChanges c.deref-in-Ok.result.now db ss) (sym c.deref-in-Ok-2.ensures.value)
    (subst (λ (rs : List Repo). AreChanges rs db c.in-Ok.steps.items) (sym c.deref-in-Ok.ensures.value)
    (subst (λ (os : List Object). AreChanges c.args.offer.now.repos.items os c.in-Ok.steps.items) (sym c.in-Ok.ensures.asked.db)
    (subst (λ (rs : List Repo). AreChanges rs c.args.tree.db c.in-Ok.steps.items) c.deref.ensures.value c.in-Ok.ensures.changes)))

pub returns-in-Ok : goal.returns-in-Ok
returns-in-Ok g c =
    let tells = g.S.Shelf.tells && g.H.Host.tells in
    let seen = g.H.Host.seen in
    let shelf = g.S.Shelf.seen c.args.shelf.now in
    let volumes = shelf.repositories in
    let repos = c.args.offer.now.repos.items in
    let pins = c.args.offer.now.pins in
    let names = c.args.names.now in
    let ask = c.args.ask.now in
    let formats = c.args.formats in
    let old = c.args.tree in
    let new = c.plan_update.new.tree in
    let steps = c.in-Ok.steps.items in
    let e = c.in-Ok.ensures in
    let before = counted_faults shelf.faults in
    let after = counted_faults (g.S.Shelf.seen c.make_steps.new.shelf).faults in
    let ending = c.make_steps.result.ending in
    let state = c.make_steps.result.state in
    performs_same tells seen 0 old.seen before after ending state (λ t. plan_made volumes repos formats steps old.db t) (λ t. planned_run volumes repos formats (update_of pins repos old.db t names ask) old.db t)
    (λ told t stood.
    let host = (told_both g.S.Shelf.tells g.H.Host.tells told).1 in
    sym (ap (λ (r : Result (List (List PlanPart)) ComingError). planned_run volumes repos formats r old.db t)
    (ap (λ (v : Volume). update_of pins repos old.db v names ask) (sym (same_tree old.seen t (c.stands.ensures.tree host) stood)) ∙ subst (λ (rs : List Repo). update_of pins rs old.db (tree_in old) names ask ≡ Ok steps) c.deref.ensures.value (e.plan host))))
    (performs_quiet tells seen 0 old.seen before after ending state (λ t. plan_made volumes repos formats steps old.db t) new.seen
    (advances_fewer tells g.H.Host.tells (λ t. (told_both g.S.Shelf.tells g.H.Host.tells t).1) (λ _. []) old.seen new.seen (advances_quiet g.H.Host.tells old.seen new.seen e.asked.quiet e.asked.later))
    (subst (λ (os : List Object). Performs tells seen (λ t. plan_made volumes repos formats steps os t) 0 new.seen before after ending state) e.asked.db
    (subst (λ (rs : List Repo). Performs tells seen (λ t. plan_made volumes rs formats steps new.db t) 0 new.seen before after ending state) c.deref-in-Ok.ensures.value
    (subst (λ (ss : List (List PlanPart)). Performs tells seen (λ t. plan_made volumes c.deref-in-Ok.result.now formats ss new.db t) 0 new.seen before after ending state) c.deref-in-Ok-2.ensures.value
    c.make_steps.ensures))))

pub returns-in-Err : goal.returns-in-Err
returns-in-Err g c =
    let tells = g.S.Shelf.tells && g.H.Host.tells in
    let shelf = g.S.Shelf.seen c.args.shelf.now in
    let volumes = shelf.repositories in
    let repos = c.args.offer.now.repos.items in
    let pins = c.args.offer.now.pins in
    let names = c.args.names.now in
    let ask = c.args.ask.now in
    let formats = c.args.formats in
    let old = c.args.tree in
    let new = c.plan_update.new.tree in
    let e = c.in-Err.ensures in
    let both = counted_faults shelf.faults in
    c.end_plan.ensures old.seen tells (λ t. planned_run volumes repos formats (update_of pins repos old.db t names ask) old.db t) both both
    (λ t. (told_both g.S.Shelf.tells g.H.Host.tells t).1)
    (advances_quiet g.H.Host.tells old.seen new.seen e.asked.quiet e.asked.later) e.cause
    (λ refusal refuses told t stood.
    let host = (told_both g.S.Shelf.tells g.H.Host.tells told).1 in
    ap (λ (r : Result (List (List PlanPart)) ComingError). planned_run volumes repos formats r old.db t)
    (ap (λ (v : Volume). update_of pins repos old.db v names ask) (sym (same_tree old.seen t (c.stands.ensures.tree host) stood)) ∙ subst (λ (rs : List Repo). update_of pins rs old.db (tree_in old) names ask ≡ Err c.in-Err.error) c.deref.ensures.value (answered {X = Vec PlanStep Global} {Y = List (List PlanPart)} (λ steps. steps.items) c.in-Err.error (update_of pins c.deref.result.now old.db (tree_in old) names ask) refuses.answered (e.plan host)))
    ∙ refuses.is)
