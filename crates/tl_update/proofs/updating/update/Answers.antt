use Rattle.std.proofs.Common.{◌&&◌, List}
use Rattle.tl_model.specs.Volume.{Volume}
use Rattle.tl_entry.specs.declared.object.Object.{Object}
use Rattle.tl_tree.specs.Planted.{database_text}
use Rattle.tl_command.specs.Runs.{over_database}
use Rattle.tl_command.proofs.Joins.{performs_alone, performs_fewer, performs_loaded}
use Rattle.tl_fill.proofs.StepLemmas.{told_both}
use Rattle.tl_offer.specs.Offered.{counted_faults}
use Rattle.tl_update.specs.Update.{update_run}
use Rattle.tl_install.proofs.PlanAnswers.{loads_fewer}
use Rattle.tl_update.proofs.updating.update.Goals as goal

pub returns-in-Ok : goal.returns-in-Ok
returns-in-Ok g c =
    let tells = g.S.Shelf.tells && g.H.Host.tells in
    let shelf = g.S.Shelf.seen c.args.shelf.now in
    performs_loaded tells g.H.Host.seen 0 c.args.session (counted_faults shelf.faults) (counted_faults (g.S.Shelf.seen c.update_over.new.shelf).faults) c.update_over.result.ending c.update_over.result.state c.in-Ok.tree
    (λ (tree : Volume) (entries : List Object). update_run c.args.names.now c.args.ask.now c.args.formats c.args.repositories.now shelf.repositories tree entries)
    (loads_fewer tells g.H.Host.tells (λ t. (told_both g.S.Shelf.tells g.H.Host.tells t).1) c.args.session c.in-Ok.tree c.in-Ok.ensures.loaded) c.update_over.ensures

pub returns-in-Err : goal.returns-in-Err
returns-in-Err g c =
    let tells = g.S.Shelf.tells && g.H.Host.tells in
    let shelf = g.S.Shelf.seen c.args.shelf.now in
    let both = counted_faults shelf.faults in
    let ending = c.in-Err.acted.ending in
    let state = c.in-Err.acted.state in
    let command = λ (tree : Volume). over_database (update_run c.args.names.now c.args.ask.now c.args.formats c.args.repositories.now shelf.repositories tree) (database_text tree) in
    performs_fewer tells g.H.Host.tells (λ t. (told_both g.S.Shelf.tells g.H.Host.tells t).1) g.H.Host.seen 0 c.args.session both both ending state command
    (performs_alone g.H.Host.tells g.H.Host.seen 0 c.args.session both both ending state command (c.in-Err.ensures.acted (λ tree. update_run c.args.names.now c.args.ask.now c.args.formats c.args.repositories.now shelf.repositories tree)))
