use Rattle.std.proofs.Common.{◌∙◌, sym}
use Rattle.tl_written.proofs.LineLemmas.{text_from_line, text_ok}
use Rattle.tl_written.proofs.lines.is_text.Goals as goal

pub returns-then-line-le65536-clause-is : goal.returns-then-line-le65536-clause-is
returns-then-line-le65536-clause-is c = λ ok. text_from_line _ _ c.from_utf8.result c.args.line.now c.requires c.if-line-le65536.true c.from_utf8.ensures.cases (sym c.is_ok.ensures.value ∙ ok)

pub returns-then-line-le65536-clause-all : goal.returns-then-line-le65536-clause-all
returns-then-line-le65536-clause-all c = λ is. c.is_ok.ensures.value ∙ text_ok _ _ c.from_utf8.result c.args.line.now c.from_utf8.ensures.cases is
