use Rattle.std.proofs.Common.{ap, ◌∙◌}
use Rattle.tl_command.specs.Endings.{no_devices}
use Rattle.tl_publish.specs.Lsr.{names_run}
use Rattle.tl_publish.specs.Owning.{list_owner}
use Rattle.tl_publish.proofs.RunLemmas.{performs_gathered}
use Rattle.tl_publish.proofs.listing.list_tree.Goals as goal

pub list_gathered-requires-clause-names : goal.list_gathered-requires-clause-names
list_gathered-requires-clause-names g c = c.in-Ok.ensures.gathered.inside

pub list_gathered-requires-clause-free : goal.list_gathered-requires-clause-free
list_gathered-requires-clause-free g c = ap list_owner c.in-Ok.ensures.gathered.db ∙ c.requires

pub returns-in-Ok : goal.returns-in-Ok
returns-in-Ok g c = performs_gathered g.H.Host.tells g.H.Host.seen no_devices no_devices c.list_gathered.result.ending c.list_gathered.result.state c.args.tree c.in-Ok.tree c.in-Ok.gathered
    c.in-Ok.ensures.gathered c.list_gathered.ensures

pub returns-in-Err : goal.returns-in-Err
returns-in-Err g c = c.in-Err.ensures.acted (names_run c.args.tree.db)
