use Rattle.std.proofs.Common.{◌∙◌, reverse, sym, ap}
use Rattle.tl_model.specs.Volume.{Volume, at}
use Rattle.tl_memhost.specs.Record.{standing}
use Rattle.tl_memhost.specs.Stop.{left}
use Rattle.tl_memhost.specs.declared.stop.Choice.{Choice}
use Rattle.tl_memhost.proofs.Filled.{settled_left}
use Rattle.tl_memhost.proofs.stop.leave.Goals as goal

pub returns-in_ok-settle_back-in-Synced : goal.returns-in_ok-settle_back-in-Synced
returns-in_ok-settle_back-in-Synced c = λ words name.
    ap (λ (v : Volume). at v name) c.in_ok-settle_back-in-Synced.ensures
    ∙ settled_left (reverse c.args.record.now) c.args.files.now words name
    ∙ ap (λ (choice : Choice). left choice (standing (reverse c.args.record.now) c.args.files.now words) name) (sym c.in-Synced.is)
