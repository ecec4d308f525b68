use Rattle.std.proofs.Common.{◌≡◌, ◌++◌, ◌∙◌, ap}
use Rattle.std.proofs.lemmas.Result.{IfOk-weaker, IfErr-weaker}
use Rattle.tl_model.specs.Seen.{Seen}
use Rattle.tl_journal_text.specs.Stand.{tree_of}
use Rattle.tl_journal.proofs.Left.{ok_left, err_left, ok_left_with}
use Rattle.tl_tree.specs.Staged.{IsFrontSaid}
use Rattle.tl_tree.proofs.Steps.{cut_making, cut_saying, trace_done}
use Rattle.tl_tree.proofs.stage.commit_step.Goals as goal

pub returns-in-Err-clause-cut : goal.returns-in-Err-clause-cut
returns-in-Err-clause-cut g c t = cut_making c.args.label.now c.requires c.args.staging (g.H.Host.seen c.in-Err.lost.host) (c.in-Err.ensures.halted t)

pub returns-in-Ok-clause-tree : goal.returns-in-Ok-clause-tree
returns-in-Ok-clause-tree g c t =
    IfOk-weaker c.acknowledge.result _ _ (λ clean front. ap tree_of front.held ∙ (c.in-Ok.ensures.made t).tree)
    (ok_left g.H.Host.seen c.acknowledge.result (IsFrontSaid c.args.label.now c.in-Ok.made) (c.acknowledge.ensures.front t))

pub returns-in-Ok-clause-trace : goal.returns-in-Ok-clause-trace
returns-in-Ok-clause-trace g c t =
    ok_left_with g.H.Host.seen c.acknowledge.result (IsFrontSaid c.args.label.now c.in-Ok.made) (λ (s : Seen). s.present.said ≡ c.in-Ok.made.present.said ++ c.args.label.now) _
    (λ clean front whole. trace_done c.args.label.now c.requires c.args.staging c.in-Ok.made clean (c.in-Ok.ensures.made t) (c.in-Ok.ensures.halted t) front whole)
    (c.acknowledge.ensures.front t) (c.acknowledge.ensures.said t)

pub returns-in-Ok-clause-cut : goal.returns-in-Ok-clause-cut
returns-in-Ok-clause-cut g c t =
    IfErr-weaker c.acknowledge.result _ _ (λ lost front. cut_saying c.args.label.now c.requires c.args.staging c.in-Ok.made (g.H.Host.seen lost.host) (c.in-Ok.ensures.made t) (c.in-Ok.ensures.halted t) front)
    (err_left g.H.Host.seen c.acknowledge.result (IsFrontSaid c.args.label.now c.in-Ok.made) (c.acknowledge.ensures.front t))
