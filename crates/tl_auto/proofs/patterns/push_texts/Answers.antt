use Rattle.std.proofs.Common.{◌≡◌, ◌+◌, ℕ, List, [], ◌∷◌, Bor, Err, map, take, drop, rules}
use Rattle.tl_auto.specs.Wanted.{automatic}
use Rattle.tl_auto.proofs.LoopLemmas.{map_more_by, map_split_by, pushed_on, pushed_cut}
use Rattle.tl_auto.proofs.patterns.push_texts.Goals as goal

pub returns-in_err-push : goal.returns-in_err-push
returns-in_err-push c =
    let f = λ (text : Bor (List ℕ)). automatic c.args.kind text.now in
    let texts = c.args.texts.now in
    let i = c.loop-text.text-index in
    let is : c.from_residual.result ≡ Err c.in_err-push.field-0.0 = search rules in
    rw is (pushed_cut c.args.setting.now (map f (take i texts)) (c.automatic.result ∷ []) (map f (drop (i + 1) texts)) (map f texts) c.args.patterns.now.items c.loop-text.patterns.items _ _
    c.args.regexps.now c.loop-text.regexps c.push.new.regexps c.in_err-push.field-0.0
    (map_split_by f texts i _ c.automatic.result c.loop-text-test.true c.automatic.ensures) c.loop-text.invariant c.in_err-push.ensures)

pub loop-text-preserved : goal.loop-text-preserved
loop-text-preserved c =
    let f = λ (text : Bor (List ℕ)). automatic c.args.kind text.now in
    let texts = c.args.texts.now in
    let i = c.loop-text.text-index in
    pushed_on c.args.setting.now (map f (take i texts)) (c.automatic.result ∷ []) (map f (take (i + 1) texts)) c.args.patterns.now.items c.loop-text.patterns.items _
    c.args.regexps.now c.loop-text.regexps c.push.new.regexps c.in_ok-push.field-0
    (map_more_by f texts i _ c.automatic.result c.loop-text-test.true c.automatic.ensures) c.loop-text.invariant c.in_ok-push.ensures
