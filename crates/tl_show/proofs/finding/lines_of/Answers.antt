use Rattle.std.proofs.Common.{List, ℕ, sym, subst}
use Rattle.tl_model.specs.Acks.{IsPlain, plain-nil}
use Rattle.tl_show.proofs.finding.lines_of.Goals as goal

pub loop-path-init : goal.loop-path-init
loop-path-init c = (c.new-lines.ensures.items, subst (λ (lines : List ℕ). IsPlain lines) (sym c.new-lines.ensures.items) plain-nil)
