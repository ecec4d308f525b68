use Rattle.tl_auto.proofs.VerdictLemmas.{regexps_same}
use Rattle.tl_model.specs.Volume.{Volume}
use Rattle.tl_tree.specs.Planted.{database_text}
use Rattle.tl_command.specs.Endings.{no_devices}
use Rattle.tl_command.specs.Runs.{finished, over_database}
use Rattle.tl_command.proofs.Joins.{performs_loaded}
use Rattle.tl_sources.specs.Expand.{expand_run}
use Rattle.tl_sources.proofs.Finding.{size_of_database, size_of_run}
use Rattle.tl_sources.proofs.expanding.expand.Goals as goal

pub returns-in-Ok : goal.returns-in-Ok
returns-in-Ok g c =
    let inner = c.expand_tree.ensures in
    record {
      performs = λ later keeps. performs_loaded g.H.Host.tells g.H.Host.seen 0 c.args.session no_devices no_devices c.expand_tree.result.ending c.expand_tree.result.state c.in-Ok.tree
          (λ (tree : Volume). expand_run c.args.name.now later tree) c.in-Ok.ensures.loaded (inner.performs later keeps);
      regexps = inner.regexps;
      size = λ told tree stood. let trace = c.in-Ok.ensures.loaded.quiet.trace told tree stood in inner.size told tree trace.stands;
    }

pub returns-in-Err : goal.returns-in-Err
returns-in-Err g c = record {
  performs = λ later keeps. c.in-Err.ensures.acted (λ tree. expand_run c.args.name.now later tree);
  regexps = regexps_same c.args.regexps.now;
  size = size_of_run c.args.regexps.now.refusals c.args.regexps.now.refusals g.H.Host.tells g.H.Host.seen c.args.session c.in-Err.acted.ending c.in-Err.acted.state
      (λ (tree : Volume). over_database (λ _. finished) (database_text tree)) (λ tree. size_of_database c.args.regexps.now.refusals c.args.regexps.now.refusals (database_text tree))
      (c.in-Err.ensures.acted (λ _ _. finished));
}
