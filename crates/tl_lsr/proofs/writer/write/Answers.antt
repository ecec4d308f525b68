use Rattle.tl_lsr.proofs.TextLemmas.{whole_text}
use Rattle.tl_lsr.proofs.writer.write.Goals as goal

pub returns : goal.returns
returns c = whole_text _ _ _ _ _ _ c.new-text.ensures.items c.in_ok-push_line.ensures c.in_ok-push_line-2.ensures c.in_ok-push_items.ensures c.in_ok-items.ensures
