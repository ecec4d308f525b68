use Rattle.std.proofs.Common.{◌≡◌, [], Err, if◌then◌else◌, rules}
use Rattle.std.specs.List.{list_all, flat_map}
use Rattle.tl_srctext.specs.declared.pattern.SourcePattern.{SourcePattern}
use Rattle.tl_auto.specs.Wanted.{automatic_of, wanted_of}
use Rattle.tl_auto.proofs.JudgeLemmas.{pushes_on, pushes_cut}
use Rattle.tl_auto.proofs.LoopLemmas.{wanted_same}
use Rattle.tl_auto.proofs.patterns.push_all.Goals as goal

pub returns-in_err-push_first : goal.returns-in_err-push_first
returns-in_err-push_first c =
    let s = c.args.setting.now in
    let own = c.args.own.now in
    let is : c.from_residual.result ≡ Err c.in_err-push_first.field-0.0 = search rules in
    rw is (wanted_same s c.args.section own c.args.patterns.now.items _ c.args.regexps.now c.push_first.new.regexps _ c.requires
    (pushes_cut s (if list_all (λ (p : SourcePattern). p.adds) own then automatic_of c.args.section s.source.category else []) (flat_map (wanted_of s.platform) own)
    c.args.patterns.now.items _ _ c.args.regexps.now c.push_first.new.regexps c.in_err-push_first.field-0.0 c.in_err-push_first.ensures))

pub returns : goal.returns
returns c =
    let s = c.args.setting.now in
    let own = c.args.own.now in
    wanted_same s c.args.section own c.args.patterns.now.items _ c.args.regexps.now c.push_own.new.regexps _ c.requires
    (pushes_on s (if list_all (λ (p : SourcePattern). p.adds) own then automatic_of c.args.section s.source.category else []) (flat_map (wanted_of s.platform) own)
    c.args.patterns.now.items _ _ c.args.regexps.now c.push_first.new.regexps c.push_own.new.regexps c.in_ok-push_first.field-0 _ c.in_ok-push_first.ensures c.push_own.ensures)
