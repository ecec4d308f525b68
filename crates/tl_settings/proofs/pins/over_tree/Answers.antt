use Rattle.std.proofs.Common.{List, subst}
use Rattle.tl_entry.specs.declared.object.Object.{Object}
use Rattle.tl_command.specs.Endings.{no_devices}
use Rattle.tl_command.specs.Performs.{Performs}
use Rattle.tl_offer.proofs.PinLemmas.{performs_pinned}
use Rattle.tl_settings.specs.Pinning.{pinning_run}
use Rattle.tl_settings.proofs.pins.over_tree.Goals as goal

pub returns-in-Ok : goal.returns-in-Ok
returns-in-Ok g c =
    let ending = c.show_or_change.result.ending in
    let state = c.show_or_change.result.state in
    let new = c.in-Ok.tree in
    let pins = c.in-Ok.pins in
    performs_pinned g.H.Host.tells g.H.Host.seen 0 no_devices no_devices ending state c.args.tree new pins (λ t. pinning_run c.args.asked t c.args.tree.db) c.in-Ok.ensures.read
    (subst (λ (entries : List Object). Performs g.H.Host.tells g.H.Host.seen (λ t. pinning_run c.args.asked t entries pins) 0 new.seen no_devices no_devices ending state) c.in-Ok.ensures.read.db c.show_or_change.ensures)

pub returns-in-Err : goal.returns-in-Err
returns-in-Err g c = c.in-Err.ensures.acted (λ t. pinning_run c.args.asked t c.args.tree.db)
