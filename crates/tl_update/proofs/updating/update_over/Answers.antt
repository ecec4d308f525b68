use Rattle.std.proofs.Common.{◌&&◌, List, subst}
use Rattle.tl_model.specs.Volume.{Volume}
use Rattle.tl_entry.specs.declared.object.Object.{Object}
use Rattle.tl_command.specs.Performs.{Performs}
use Rattle.tl_renew.specs.Updating.{update_of}
use Rattle.tl_offer.specs.Offered.{counted_faults}
use Rattle.tl_install.specs.Install.{planned_run}
use Rattle.tl_install.proofs.PlanAnswers.{performs_offered}
use Rattle.tl_install.proofs.StepsLemmas.{performs_sooner}
use Rattle.tl_update.proofs.updating.update_over.Goals as goal

pub returns-in-Ok : goal.returns-in-Ok
returns-in-Ok g c =
    let tells = g.S.Shelf.tells && g.H.Host.tells in
    let seen = g.H.Host.seen in
    let shelf = g.S.Shelf.seen c.args.shelf.now in
    let mid = g.S.Shelf.seen c.load_offer.new.shelf in
    let volumes = shelf.repositories in
    let offer = c.in-Ok.offer in
    let old = c.args.tree in
    let new = c.in-Ok.tree in
    let e = c.in-Ok.ensures in
    let before = counted_faults shelf.faults in
    let after = counted_faults (g.S.Shelf.seen c.update_offered.new.shelf).faults in
    let ending = c.update_offered.result.ending in
    let state = c.update_offered.result.state in
    let names = c.args.names.now in
    let ask = c.args.ask.now in
    let formats = c.args.formats in
    performs_offered tells seen c.args.repositories.now volumes old new offer.pins offer.repos.items before after ending state
    (λ t pins repos. planned_run volumes repos formats (update_of pins repos old.db t names ask) old.db t) e.read
    (performs_sooner tells seen (λ t. planned_run volumes offer.repos.items formats (update_of offer.pins offer.repos.items old.db t names ask) old.db t) new.seen shelf.faults mid.faults after ending state e.later
    (subst (λ (os : List Object). Performs tells seen (λ t. planned_run volumes offer.repos.items formats (update_of offer.pins offer.repos.items os t names ask) os t) 0 new.seen (counted_faults mid.faults) after ending state) e.read.db
    (subst (λ (vs : List Volume). Performs tells seen (λ t. planned_run vs offer.repos.items formats (update_of offer.pins offer.repos.items new.db t names ask) new.db t) 0 new.seen (counted_faults mid.faults) after ending state) e.same.repositories
    c.update_offered.ensures)))

pub returns-in-Err : goal.returns-in-Err
returns-in-Err g c = c.in-Err.ensures.acted (λ t pins repos. planned_run (g.S.Shelf.seen c.args.shelf.now).repositories repos c.args.formats (update_of pins repos c.args.tree.db t c.args.names.now c.args.ask.now) c.args.tree.db t)

pub update_offered-requires : goal.update_offered-requires
update_offered-requires g c = c.in-Ok.ensures.read.few
