use Rattle.std.proofs.Common.{arith, sym}
use Rattle.std.proofs.lemmas.List.{append-nil}
use Rattle.tl_model.specs.Volume.{Name}
use Rattle.tl_journal_text.specs.Records.{Remove}
use Rattle.tl_journal.specs.States.{staged}
use Rattle.tl_journal.proofs.Stagings.{stages_join}
use Rattle.tl_tree.proofs.Runs.{added_more}
use Rattle.tl_tree.proofs.stage.stage_removes.Goals as goal

pub loop-name-init : goal.loop-name-init
loop-name-init g c = record {
  added = λ t. sym (append-nil (staged c.args.staging));
  keeps = λ t first far. far;
  later = omega arith;
}

pub returns-in-Err-clause-keeps : goal.returns-in-Err-clause-keeps
returns-in-Err-clause-keeps g c t first far = stages_join first c.loop-name.staging (g.H.Host.seen c.in-Err.lost.host) (c.loop-name.invariant.keeps t first far) (c.in-Err.ensures.stages t)

pub loop-name-preserved : goal.loop-name-preserved
loop-name-preserved g c = record {
  added = λ t.
      added_more (λ (name : Name). Remove name) c.args.names.now c.loop-name.name-index c.name-item.result c.args.staging c.loop-name.staging c.in-Ok.more (omega arith) c.name-item.is
      (c.loop-name.invariant.added t) (c.in-Ok.ensures.added t);
  keeps = λ t first far. stages_join first c.loop-name.staging c.in-Ok.more (c.loop-name.invariant.keeps t first far) (c.in-Ok.ensures.stages t);
  later = omega (arith, c.in-Ok.ensures.cause.later);
}
