use Rattle.std.proofs.Common.{◌≡◌, ◌++◌, []}
use Rattle.tl_model.specs.Lines.{text_of}
use Rattle.tl_lsr.specs.Lists.{listing}
use Rattle.tl_lsr.proofs.writer.push_items.Given as goal

abbrev pub invariant-loop-item : goal.invariant-loop-item
invariant-loop-item l = l.text.items ++ text_of (listing l.dir l.item-iterator) ≡ l.fn.text.items ++ text_of (listing [] l.items.keys)
