use Rattle.std.proofs.Common.{◌≡◌, ◌∙◌, ℕ, List, [], Option, Vec, Ok, Err, ap, sym, rules}
use Rattle.std.specs.declared.alloc.Global.{Global}
use Rattle.std.specs.Option.{option_copied}
use Rattle.tl_pattern.specs.declared.pattern.PlacedPattern.{PlacedPattern}
use Rattle.tl_srctext.specs.declared.fields.SourceFields.{SourceFields}
use Rattle.tl_auto.specs.Variables.{Setting}
use Rattle.tl_auto.specs.Wanted.{wanted_in}
use Rattle.tl_auto.specs.Effective.{setting_in}
use Rattle.tl_auto.proofs.JudgeLemmas.{effective_made, effective_not}
use Rattle.tl_auto.proofs.LoopLemmas.{from_none}
use Rattle.tl_auto.proofs.patterns.effective.Goals as goal

same_setting : (f source : SourceFields) (o platform : Option (List ℕ)) → f ≡ source → o ≡ platform
    → (let s : Setting = record { source = f; platform = o } in s) ≡ record { source = source; platform = platform }
same_setting f source o platform is on = ap (λ (x : SourceFields). let s : Setting = record { source = x; platform = o } in s) is
    ∙ ap (λ (y : Option (List ℕ)). let s : Setting = record { source = source; platform = y } in s) on

pub returns-in_err-push_all : goal.returns-in_err-push_all
returns-in_err-push_all c =
    let s : Setting = record { source = c.fields.result.now; platform = option_copied c.platform_in.result } in
    let same = same_setting c.fields.result.now c.args.source.now (option_copied c.platform_in.result) _ c.fields.ensures c.platform_in.ensures in
    let is : c.from_residual.result ≡ Err c.in_err-push_all.field-0.0 = search rules in
    rw is (effective_not (λ (v : Vec PlacedPattern Global). v.items) c.args.source.now c.args.section c.args.platforms.now s c.in_err-push_all.field-0.0 _ c.args.regexps.now c.push_all.new.regexps same
    (from_none s (wanted_in s.source c.args.section s.platform) c.new-patterns.result.items _ c.args.regexps.now c.push_all.new.regexps _ c.new-patterns.ensures.items c.in_err-push_all.ensures))

pub returns : goal.returns
returns c =
    let s : Setting = record { source = c.fields.result.now; platform = option_copied c.platform_in.result } in
    let same = same_setting c.fields.result.now c.args.source.now (option_copied c.platform_in.result) _ c.fields.ensures c.platform_in.ensures in
    effective_made (λ (v : Vec PlacedPattern Global). v.items) c.args.source.now c.args.section c.args.platforms.now s c.push_all.new.patterns c.in_ok-push_all.field-0 c.args.regexps.now c.push_all.new.regexps same
    (from_none s (wanted_in s.source c.args.section s.platform) c.new-patterns.result.items _ c.args.regexps.now c.push_all.new.regexps _ c.new-patterns.ensures.items c.in_ok-push_all.ensures)
