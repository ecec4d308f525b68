use Rattle.std.proofs.Common.{List, ℕ, subst}
use Rattle.std.specs.Option.{option_map}
use Rattle.tl_kind.specs.declared.quantity.What.TheVariants.{Database}
use Rattle.tl_command.specs.Endings.{no_devices}
use Rattle.tl_command.specs.Loaded.{Reads}
use Rattle.tl_command.specs.Performs.{Performs}
use Rattle.tl_command.specs.Runs.{over_file}
use Rattle.tl_command.proofs.FileLemmas.{performs_read}
use Rattle.tl_lsr.specs.Lists.{list_path}
use Rattle.tl_show.specs.Which.{list_run}
use Rattle.tl_show.proofs.finding.search.Goals as goal

pub returns-in-Ok : goal.returns-in-Ok
returns-in-Ok g c =
    let found = option_map (λ v. v.items) c.in-Ok.found in
    performs_read g.H.Host.tells g.H.Host.seen Database list_path no_devices no_devices c.say_found.result.ending c.say_found.result.state 0 c.args.tree c.in-Ok.tree found (λ _. list_run c.args.name.now)
    (subst (λ (p : List ℕ). Reads g.H.Host.tells Database p c.args.tree c.in-Ok.tree found) c.known-path.ensures c.in-Ok.ensures.read) c.say_found.ensures

pub returns-in-Err : goal.returns-in-Err
returns-in-Err g c =
    subst (λ (p : List ℕ). Performs g.H.Host.tells g.H.Host.seen (λ t. over_file Database p (list_run c.args.name.now) t) 0 c.args.tree.seen no_devices no_devices c.in-Err.acted.ending c.in-Err.acted.state)
    c.known-path.ensures (c.in-Err.ensures.acted (λ _. list_run c.args.name.now))
