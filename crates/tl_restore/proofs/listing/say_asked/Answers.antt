use Rattle.std.proofs.Common.{sym}
use Rattle.tl_model.specs.Volume.{Volume}
use Rattle.tl_command.specs.Endings.{no_devices}
use Rattle.tl_command.specs.Runs.{saying}
use Rattle.tl_command.proofs.Joins.{advances_quiet, performs_of, performs_quiet, performs_same}
use Rattle.tl_restore.proofs.listing.say_asked.Goals as goal

pub returns : goal.returns
returns g c command old asked is =
    let tells = g.H.Host.tells in
    let seen = g.H.Host.seen in
    let tree = c.args.tree in
    let bytes = c.args.bytes.now in
    let ending = c.say.result.ending in
    let state = c.say.result.state in
    performs_same tells seen 0 old.seen no_devices no_devices ending state (λ (_ : Volume). saying bytes) command (λ t v stood. sym (is t v stood))
    (performs_quiet tells seen 0 old.seen no_devices no_devices ending state (λ (_ : Volume). saying bytes) tree.seen (advances_quiet tells old.seen tree.seen asked.quiet asked.later)
    (performs_of _ _ _ _ _ _ _ c.of_tree.ensures c.say.ensures))
