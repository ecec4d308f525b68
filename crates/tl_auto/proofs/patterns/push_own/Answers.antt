use Rattle.std.proofs.Common.{◌≡◌, ◌+◌, Err, take, drop, rules}
use Rattle.std.specs.List.{flat_map}
use Rattle.tl_auto.specs.Wanted.{wanted_of}
use Rattle.tl_auto.proofs.LoopLemmas.{flat_more, flat_split, flat_all, pushed_on, pushed_cut, pushed_all}
use Rattle.tl_auto.proofs.patterns.push_own.Goals as goal

pub returns-in_err-push_pattern : goal.returns-in_err-push_pattern
returns-in_err-push_pattern c =
    let f = wanted_of c.args.setting.now.platform in
    let own = c.args.own.now in
    let i = c.loop-pattern.pattern-index in
    let item = c.pattern-item.result in
    let is : c.from_residual.result ≡ Err c.in_err-push_pattern.field-0.0 = search rules in
    rw is (pushed_cut c.args.setting.now (flat_map f (take i own)) (f item) (flat_map f (drop (i + 1) own)) (flat_map f own) c.args.patterns.now.items c.loop-pattern.patterns.items _ _
    c.args.regexps.now c.loop-pattern.regexps c.push_pattern.new.regexps c.in_err-push_pattern.field-0.0
    (flat_split f own i item c.loop-pattern-test.true c.pattern-item.is) c.loop-pattern.invariant c.in_err-push_pattern.ensures)

pub loop-pattern-preserved : goal.loop-pattern-preserved
loop-pattern-preserved c =
    let f = wanted_of c.args.setting.now.platform in
    let own = c.args.own.now in
    let i = c.loop-pattern.pattern-index in
    let item = c.pattern-item.result in
    pushed_on c.args.setting.now (flat_map f (take i own)) (f item) (flat_map f (take (i + 1) own)) c.args.patterns.now.items c.loop-pattern.patterns.items _
    c.args.regexps.now c.loop-pattern.regexps c.push_pattern.new.regexps c.in_ok-push_pattern.field-0
    (flat_more f own i item c.loop-pattern-test.true c.pattern-item.is) c.loop-pattern.invariant c.in_ok-push_pattern.ensures

pub returns : goal.returns
returns c =
    let f = wanted_of c.args.setting.now.platform in
    let own = c.args.own.now in
    pushed_all c.args.setting.now (flat_map f (take c.loop-pattern.pattern-index own)) (flat_map f own) c.args.patterns.now.items _ c.args.regexps.now c.loop-pattern.regexps _
    (flat_all f own c.loop-pattern.pattern-index c.loop-pattern-test.false) c.loop-pattern.invariant
