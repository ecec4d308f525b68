use Rattle.std.proofs.Common.{List, sym, ap, ◌∙◌}
use Rattle.std.specs.Prelude.{option_map}
use Rattle.tl_entry.specs.declared.object.Object.{Object}
use Rattle.tl_lsr.specs.Lists.{list_path}
use Rattle.tl_refusal.specs.declared.refusal.Refusal.TheVariants.{Owned}
use Rattle.tl_command.specs.Endings.{no_devices}
use Rattle.tl_command.proofs.Joins.{performs_of}
use Rattle.tl_publish.specs.Owning.{list_owner}
use Rattle.tl_publish.proofs.RunLemmas.{performs_owned}
use Rattle.tl_publish.proofs.listing.over_tree.Goals as goal

pub returns-in-Ok-Some : goal.returns-in-Ok-Some
returns-in-Ok-Some g c =
    performs_owned g.H.Host.tells g.H.Host.seen no_devices no_devices c.refuse.result.ending c.refuse.result.state c.args.tree.seen c.args.tree.db c.in-Ok-Some.refusal
    (sym c.in-Ok-Some.field-0-is ∙ (c.in-Ok-Some.ensures ∙ ap (λ (db : List Object). option_map (λ owner. Owned list_path owner) (list_owner db)) c.db.ensures))
    (performs_of _ _ _ _ _ _ _ c.of_tree.ensures c.refuse.ensures.performs)

pub returns-in-Err : goal.returns-in-Err
returns-in-Err g c = performs_of _ _ _ _ _ _ _ c.of_tree-in-Err.ensures (c.give_up.ensures _)
