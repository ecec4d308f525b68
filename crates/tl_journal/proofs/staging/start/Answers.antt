use Rattle.std.proofs.Common.{subst}
use Rattle.std.specs.Result.{is_ok}
use Rattle.std.proofs.lemmas.Result.{on_ok_weaker}
use Rattle.tl_model.specs.Volume.{Name}
use Rattle.tl_model.specs.Seen.{Changes}
use Rattle.tl_journal.specs.Touching.{only_start, only_change}
use Rattle.tl_journal.proofs.Staged.{spare_change, made_empty}
use Rattle.tl_journal.proofs.staging.start.Goals as goal

pub returns-clause-keeps : goal.returns-clause-keeps
returns-clause-keeps g c t =
    let s = g.H.Host.seen in
    spare_change _ _ (is_ok c.create.result) c.args.slot (c.requires.clean t) (c.requires.slot t) (subst (λ (n : Name). Changes (is_ok c.create.result) n (s c.args.host.now) (s c.create.new.self)) c.body.ensures (c.create.ensures.change t))

pub returns-clause-text : goal.returns-clause-text
returns-clause-text g c t = on_ok_weaker c.create.result (λ made. made_empty _ _ c.body.result _ c.body.ensures made) (c.create.ensures.created t)

pub returns-clause-touches : goal.returns-clause-touches
returns-clause-touches g c t = only_change _ _ _ _ (is_ok c.create.result) c.body.result c.body.ensures (only_start _ _) (c.create.ensures.change t)
