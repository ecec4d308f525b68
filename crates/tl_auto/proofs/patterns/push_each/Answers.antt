use Rattle.std.proofs.Common.{◌≡◌, ◌+◌, ℕ, List, [], ◌∷◌, Bor, Err, map, take, drop, rules}
use Rattle.tl_auto.specs.Wanted.{with_suffix}
use Rattle.tl_auto.proofs.LoopLemmas.{map_more_by, map_split_by, pushed_on, pushed_cut}
use Rattle.tl_auto.proofs.patterns.push_each.Goals as goal

pub returns-in_err-push : goal.returns-in_err-push
returns-in_err-push c =
    let f = λ (suffix : Bor (List ℕ)). with_suffix c.args.pattern.now suffix.now in
    let suffixes = c.args.suffixes.now in
    let i = c.loop-suffix.suffix-index in
    let is : c.from_residual.result ≡ Err c.in_err-push.field-0.0 = search rules in
    rw is (pushed_cut c.args.setting.now (map f (take i suffixes)) (c.with_suffix-wanted.result ∷ []) (map f (drop (i + 1) suffixes)) (map f suffixes) c.args.patterns.now.items c.loop-suffix.patterns.items _ _
    c.args.regexps.now c.loop-suffix.regexps c.push.new.regexps c.in_err-push.field-0.0
    (map_split_by f suffixes i _ c.with_suffix-wanted.result c.loop-suffix-test.true c.with_suffix-wanted.ensures) c.loop-suffix.invariant c.in_err-push.ensures)

pub loop-suffix-preserved : goal.loop-suffix-preserved
loop-suffix-preserved c =
    let f = λ (suffix : Bor (List ℕ)). with_suffix c.args.pattern.now suffix.now in
    let suffixes = c.args.suffixes.now in
    let i = c.loop-suffix.suffix-index in
    pushed_on c.args.setting.now (map f (take i suffixes)) (c.with_suffix-wanted.result ∷ []) (map f (take (i + 1) suffixes)) c.args.patterns.now.items c.loop-suffix.patterns.items _
    c.args.regexps.now c.loop-suffix.regexps c.push.new.regexps c.in_ok-push.field-0
    (map_more_by f suffixes i _ c.with_suffix-wanted.result c.loop-suffix-test.true c.with_suffix-wanted.ensures) c.loop-suffix.invariant c.in_ok-push.ensures
