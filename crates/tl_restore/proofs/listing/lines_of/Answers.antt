use Rattle.std.proofs.Common.{List, ℕ, sym, subst}
use Rattle.tl_model.specs.Acks.{IsPlain, plain-nil}
use Rattle.tl_restore.proofs.listing.lines_of.Goals as goal

pub loop-backup-init : goal.loop-backup-init
loop-backup-init c = record {
  lines = c.new-lines.ensures.items;
  plain = subst (λ (lines : List ℕ). IsPlain lines) (sym c.new-lines.ensures.items) plain-nil;
}
