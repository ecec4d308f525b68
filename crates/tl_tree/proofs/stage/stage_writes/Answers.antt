use Rattle.std.proofs.Common.{arith, sym}
use Rattle.std.proofs.lemmas.List.{append-nil}
use Rattle.tl_journal.specs.States.{staged}
use Rattle.tl_journal.proofs.Stagings.{stages_join}
use Rattle.tl_tree.proofs.Runs.{added_files_more, files_outside_at}
use Rattle.tl_tree.proofs.stage.stage_writes.Goals as goal

pub stage_write-requires : goal.stage_write-requires
stage_write-requires g c = files_outside_at c.args.files.now c.loop-file.file-index c.file-item.result (omega arith) c.file-item.is c.requires

pub loop-file-init : goal.loop-file-init
loop-file-init g c = record {
  added = λ t. sym (append-nil (staged c.args.staging));
  keeps = λ t first far. far;
  later = omega arith;
}

pub returns-in-Err-clause-keeps : goal.returns-in-Err-clause-keeps
returns-in-Err-clause-keeps g c t first far = stages_join first c.loop-file.staging (g.H.Host.seen c.in-Err.lost.host) (c.loop-file.invariant.keeps t first far) (c.in-Err.ensures.stages t)

pub loop-file-preserved : goal.loop-file-preserved
loop-file-preserved g c = record {
  added = λ t.
      added_files_more c.args.files.now c.loop-file.file-index c.file-item.result c.args.staging c.loop-file.staging c.in-Ok.more (omega arith) c.file-item.is
      (c.loop-file.invariant.added t) (c.in-Ok.ensures.added t);
  keeps = λ t first far. stages_join first c.loop-file.staging c.in-Ok.more (c.loop-file.invariant.keeps t first far) (c.in-Ok.ensures.stages t);
  later = omega (arith, c.in-Ok.ensures.cause.later);
}
