use Rattle.std.proofs.Common.{subst, arith}
use Rattle.std.proofs.lemmas.Result.{IfOk-weaker, IfErr-weaker}
use Rattle.tl_model.specs.Seen.{Seen}
use Rattle.tl_model.specs.Pictures.{quiet_start}
use Rattle.tl_command.specs.Loaded.{Loads}
use Rattle.tl_command.proofs.Joins.{performs_of}
use Rattle.tl_command.proofs.Databases.{loads_read}
use Rattle.tl_command.proofs.database.load.Goals as goal

pub returns-in-Loaded-clause-loaded : goal.returns-in-Loaded-clause-loaded
returns-in-Loaded-clause-loaded g c =
    let tree = c.in-Loaded.tree in
    subst (λ (s : Seen). Loads g.H.Host.tells s tree) c.in-Loaded.ensures
    (loads_read g.H.Host.tells tree.seen tree c.stands.ensures.tree (λ t. quiet_start tree.seen) (omega arith) c.stands.ensures.read)

pub returns-in-Rest-clause-loaded : goal.returns-in-Rest-clause-loaded
returns-in-Rest-clause-loaded g c =
    IfOk-weaker c.load_at_rest.result _ _ (λ tree loads. subst (λ (s : Seen). Loads g.H.Host.tells s tree) c.in-Rest.ensures loads) c.load_at_rest.ensures.loaded

pub returns-in-Rest-clause-acted : goal.returns-in-Rest-clause-acted
returns-in-Rest-clause-acted g c =
    IfErr-weaker c.load_at_rest.result _ _ (λ acted performs go. performs_of _ _ _ _ _ _ _ c.in-Rest.ensures (performs go)) c.load_at_rest.ensures.acted
