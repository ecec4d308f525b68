use Rattle.std.proofs.Common.{List, ℕ, sym, subst, arith}
use Rattle.std.proofs.lemmas.Grind.{common_steps}
use Rattle.tl_model.specs.Acks.{IsPlain, plain-nil}
use Rattle.tl_master.proofs.expanded.text_of.Goals as goal

pub loop-object-init : goal.loop-object-init
loop-object-init c = record {
  written = c.new-text.ensures.items;
  plain = subst (λ (lines : List ℕ). IsPlain lines) (sym c.new-text.ensures.items) plain-nil;
}

pub loop-object-preserved : goal.loop-object-preserved
loop-object-preserved c = record {
  written = grind (arith, common_steps);
  plain = c.in_ok-append_entry.ensures.plain c.loop-object.invariant.plain;
}
