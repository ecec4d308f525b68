use Rattle.std.proofs.Common.{arith}
use Rattle.tl_model.specs.Causes.{Rose}
use Rattle.tl_model.specs.Pictures.{quiet_start, quiet_join}
use Rattle.tl_tree.proofs.Runs.{on_err}
use Rattle.tl_tree.proofs.waiting.Waiting.ask_sizes.Goals as goal

pub loop-path-init : goal.loop-path-init
loop-path-init g c = record { same = λ t. quiet_start c.args.journal.now; later = omega arith }

pub loop-path-preserved : goal.loop-path-preserved
loop-path-preserved g c = record {
  same = λ t. quiet_join c.args.journal.now c.loop-path.journal c.size.new.self (c.loop-path.invariant.same t) (c.in_ok-size.ensures.size t).same;
  later = omega (arith, c.in_ok-size.ensures.cause.later);
}

pub returns-in_err-size-clause-same : goal.returns-in_err-size-clause-same
returns-in_err-size-clause-same g c t = quiet_join c.args.journal.now c.loop-path.journal c.size.new.self (c.loop-path.invariant.same t) (c.in_err-size.ensures.size t).same

pub returns-in_err-size-clause-cause : goal.returns-in_err-size-clause-cause
returns-in_err-size-clause-cause g c = record {
  later = omega (arith, c.in_err-size.ensures.cause.later);
  failed = on_err c.from_residual.result (Rose c.args.journal.now.faults c.size.new.self.faults) (omega (arith, c.in_err-size.ensures.cause.failed));
}
