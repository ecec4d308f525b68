use Rattle.std.proofs.Common.{◌≡◌, Err, Vec, Global, rules}
use Rattle.tl_backup.proofs.Making.{asked_join}
use Rattle.tl_auto.proofs.VerdictLemmas.{regexps_on}
use Rattle.tl_master.specs.Sources.{sources_in}
use Rattle.tl_master.specs.declared.error.MasterError.TheVariants.{NoMemory}
use Rattle.tl_master.specs.declared.master.MarkedSource.{MarkedSource}
use Rattle.tl_master.proofs.Finding.{finds_no_memory}
use Rattle.tl_master.proofs.SourceLaws.{none_read, one_read, not_read}
use Rattle.tl_master.proofs.sources.sources_in.Goals as goal

pub loop-file-init : goal.loop-file-init
loop-file-init g c = none_read g.H.Host.tells c.args.platforms.now c.args.files.now c.args.tree.now c.args.regexps.now c.new-sources.result.items c.new-sources.ensures.items

pub loop-file-preserved : goal.loop-file-preserved
loop-file-preserved g c =
    one_read g.H.Host.tells c.args.platforms.now c.args.files.now c.args.tree.now c.args.regexps.now c.loop-file.tree c.source_in.new.tree c.loop-file.regexps c.source_in.new.regexps c.loop-file.file-index
    c.loop-file.sources.items c.file-item.result c.file-item.result c.loop-file-test.true c.file-item.is c.loop-file.invariant (λ (s : MarkedSource). s) c.in_ok-source.source c.push.new.sources.items c.in_ok-source.ensures
    c.in_ok-push.ensures

pub returns-in_err-source : goal.returns-in_err-source
returns-in_err-source g c =
    let is : c.from_residual.result ≡ Err c.in_err-source.field-0.0 = search rules in
    rw is (not_read g.H.Host.tells c.args.platforms.now c.args.files.now c.args.tree.now c.args.regexps.now c.loop-file.tree c.source_in.new.tree c.loop-file.regexps c.source_in.new.regexps c.loop-file.file-index
    c.loop-file.sources.items c.file-item.result c.file-item.result c.loop-file-test.true c.file-item.is c.loop-file.invariant (λ (s : MarkedSource). s) (λ (s : Vec MarkedSource Global). s.items) c.in_err-source.field-0.0
    c.in_err-source.ensures)

pub returns-in_err-push : goal.returns-in_err-push
returns-in_err-push g c =
    let is : c.from_residual-in_err-push.result ≡ Err NoMemory = search rules in
    rw is (finds_no_memory g.H.Host.tells (λ (s : Vec MarkedSource Global). s.items) (λ verdicts t. sources_in verdicts t c.args.platforms.now c.args.files.now) c.args.tree.now c.source_in.new.tree
    c.args.regexps.now c.source_in.new.regexps (asked_join _ _ _ _ c.loop-file.invariant.asked c.in_ok-source.ensures.asked) (regexps_on _ _ _ c.loop-file.invariant.regexps c.in_ok-source.ensures.regexps))
