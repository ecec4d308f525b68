use Rattle.std.proofs.Common.{subst}
use Rattle.std.specs.Result.{is_ok}
use Rattle.std.proofs.lemmas.Result.{on_ok_weaker}
use Rattle.tl_model.specs.Volume.{Name}
use Rattle.tl_model.specs.Seen.{Changes}
use Rattle.tl_journal.specs.Touching.{only_start, only_change}
use Rattle.tl_journal.proofs.Staged.{spare_change, appended, grows_by}
use Rattle.tl_journal.proofs.staging.add.Goals as goal

pub returns-clause-keeps : goal.returns-clause-keeps
returns-clause-keeps g c t =
    let s = g.H.Host.seen in
    spare_change _ _ (is_ok c.append.result) c.args.slot (c.requires.clean t) (c.requires.slot t) (subst (λ (n : Name). Changes (is_ok c.append.result) n (s c.args.host.now) (s c.append.new.self)) c.body.ensures (c.append.ensures.change t))

pub returns-clause-grows : goal.returns-clause-grows
returns-clause-grows g c t =
    let s = g.H.Host.seen in
    let keeps = spare_change _ _ (is_ok c.append.result) c.args.slot (c.requires.clean t) (c.requires.slot t) (subst (λ (n : Name). Changes (is_ok c.append.result) n (s c.args.host.now) (s c.append.new.self)) c.body.ensures (c.append.ensures.change t)) in
    on_ok_weaker c.append.result (λ added. grows_by (s c.args.host.now) (s c.append.new.self) c.args.slot c.args.bytes.now (c.requires.slot t) keeps (appended _ _ c.body.result _ c.args.bytes.now c.body.ensures added)) (c.append.ensures.added t)

pub returns-clause-touches : goal.returns-clause-touches
returns-clause-touches g c t = only_change _ _ _ _ (is_ok c.append.result) c.body.result c.body.ensures (only_start _ _) (c.append.ensures.change t)
