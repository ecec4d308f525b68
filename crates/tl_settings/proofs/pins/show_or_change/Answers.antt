use Rattle.std.proofs.Common.{ℕ, List, Bool, sym, subst}
use Rattle.tl_pin.specs.Form.{pin_globs}
use Rattle.tl_pin.specs.Changes.{with_globs}
use Rattle.tl_action.specs.declared.command.PinAction.{PinAction}
use Rattle.tl_action.specs.declared.command.PinAction.TheVariants.{Remove}
use Rattle.tl_command.specs.Endings.{no_devices}
use Rattle.tl_command.specs.Performs.{Performs}
use Rattle.tl_settings.specs.Pinning.{write_run, without_globs, left_run, over_globs, pinning_run}
use Rattle.tl_settings.proofs.pins.show_or_change.Goals as goal

pub returns-in-Add : goal.returns-in-Add
returns-in-Add g c =
    let old = c.args.tree in
    let ending = c.add.result.ending in
    let state = c.add.result.state in
    subst (λ (asked : PinAction). Performs g.H.Host.tells g.H.Host.seen (λ t. pinning_run asked t old.db c.args.pins) 0 old.seen no_devices no_devices ending state) (sym c.in-Add.is)
    (subst (λ (ts : List (List ℕ)). Performs g.H.Host.tells g.H.Host.seen (λ t. over_globs (λ gs. write_run (with_globs c.in-Add.tag gs c.args.pins) t old.db) (pin_globs ts)) 0 old.seen no_devices no_devices ending state)
    c.as_slice.ensures c.add.ensures)

pub returns : goal.returns
returns g c =
    let old = c.args.tree in
    let ending = c.remove.result.ending in
    let state = c.remove.result.state in
    subst (λ (asked : PinAction). Performs g.H.Host.tells g.H.Host.seen (λ t. pinning_run asked t old.db c.args.pins) 0 old.seen no_devices no_devices ending state) (sym c.in-Remove.is)
    (subst (λ (all : Bool). Performs g.H.Host.tells g.H.Host.seen (λ t. pinning_run (Remove c.in-Remove.tag c.in-Remove.globs all) t old.db c.args.pins) 0 old.seen no_devices no_devices ending state) (sym c.if-all.false)
    (subst (λ (ts : List (List ℕ)). Performs g.H.Host.tells g.H.Host.seen (λ t. over_globs (λ gs. left_run c.in-Remove.tag (without_globs c.in-Remove.tag gs c.args.pins) t old.db) (pin_globs ts)) 0 old.seen no_devices no_devices ending state)
    c.as_slice-else-all.ensures c.remove.ensures))
