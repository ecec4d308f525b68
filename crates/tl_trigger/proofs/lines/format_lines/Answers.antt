use Rattle.std.proofs.Common.{List, ℕ, sym, subst}
use Rattle.tl_model.specs.Acks.{IsPlain, plain-nil}
use Rattle.tl_trigger.proofs.FormatLines.{lines_more}
use Rattle.tl_trigger.proofs.lines.format_lines.Goals as goal

pub loop-name-init : goal.loop-name-init
loop-name-init c = (c.new-lines.ensures.items, subst (λ (lines : List ℕ). IsPlain lines) (sym c.new-lines.ensures.items) plain-nil)

pub loop-name-preserved : goal.loop-name-preserved
loop-name-preserved c = (
  lines_more c.loop-name.lines.items c.push_format.new.lines.items c.args.formats.now c.loop-name.name-index c.name-item.result c.loop-name-test.true c.name-item.is c.in_ok-push_format.ensures.line c.loop-name.invariant.0,
  c.in_ok-push_format.ensures.plain c.loop-name.invariant.1,
)
