use Rattle.std.proofs.Common.{◌≡◌, drop, sym, ap, ◌∙◌}
use Rattle.std.proofs.lemmas.List.{take_rest}
use Rattle.tl_srctext.specs.Content.{before_blank, behind_blank}
use Rattle.tl_srctext.specs.Patterns.{pattern_limit, pattern_text}
use Rattle.tl_srctext.proofs.LineLemmas.{text_missing}
use Rattle.tl_srctext.proofs.pattern.pattern_from.Goals as goal

pub returns-in_default-3 : goal.returns-in_default-3
returns-in_default-3 c =
    let word : c.cut_word.result.0.now ≡ before_blank (drop 1 c.args.rest.now) = c.cut_word.ensures.before ∙ ap before_blank (take_rest c.args.rest.now 1) in
    let text : c.cut_word.result.1.now ≡ behind_blank (drop 1 c.args.rest.now) = c.cut_word.ensures.behind ∙ ap behind_blank (take_rest c.args.rest.now 1) in
    text_missing c.args.section c.args.line c.args.adds c.args.takes_out c.args.rest.now c.in-Some.kind c.in-Some-2.limit (sym c.in-Some.ensures.kind)
    (ap (pattern_limit c.args.section) (sym word) ∙ c.in_ok-limit.ensures ∙ c.in-Some-2.is)
    (ap (pattern_text c.in-Some.kind) (sym text) ∙ c.in_ok-text.ensures ∙ c.in_default-3.is)
