use Rattle.std.proofs.Common.{◌≡◌, ◌∙◌}
use Rattle.regex.specs.Strings.{regex_source}
use Rattle.tl_regexp.specs.Finds.{anchored}
use Rattle.tl_regexp.proofs.FindLemmas.{is_read, is_not_read}
use Rattle.tl_regexp.proofs.regexps.Regexps.compile.Goals as goal

pub returns-in-Ok-clause-cause : goal.returns-in-Ok-clause-cause
returns-in-Ok-clause-cause c =
    let source : regex_source c.in-Ok.regex ≡ anchored c.args.text.now = c.in-Ok.ensures.source ∙ c.deref.ensures ∙ c.in_ok-anchored.ensures.ok in
    is_read c.args.text.now c.in-Ok.regex (record { source = source; config = c.in-Ok.ensures.config; read = c.in-Ok.ensures.read })

pub returns-in-Err-Syntax-clause-cause : goal.returns-in-Err-Syntax-clause-cause
returns-in-Err-Syntax-clause-cause c =
    let source : c.deref.result.now ≡ anchored c.args.text.now = c.deref.ensures ∙ c.in_ok-anchored.ensures.ok in
    is_not_read c.args.text.now c.deref.result.now c.in-Err-Syntax.field-0-0 source (c.in-Err-Syntax.ensures.by_grammar _ c.in-Err-Syntax.field-0-is) (rw c.in-Err-Syntax.field-0-is at c.in-Err-Syntax.ensures.kind)
