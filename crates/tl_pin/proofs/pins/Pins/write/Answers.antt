use Rattle.std.proofs.Common.{◌∙◌, ap, subst, List}
use Rattle.tl_pin.specs.declared.line.PinLine.{PinLine}
use Rattle.tl_pin.specs.Reading.{ReadsPins, pins_text}
use Rattle.tl_pin.proofs.WriteLemmas.{written_more, all_written}
use Rattle.tl_pin.proofs.pins.Pins.write.Goals as goal

pub loop-pin-preserved : goal.loop-pin-preserved
loop-pin-preserved c =
    rw c.in_ok-append_pin.ensures.written (written_more _ _ _ _ c.loop-pin-test.true c.pin-item.is c.in_ok-append_pin.ensures.form c.loop-pin.invariant)

pub returns-clause-text : goal.returns-clause-text
returns-clause-text c = let is = all_written _ _ _ c.loop-pin-test.false c.loop-pin.invariant in is.text_is ∙ ap (λ (ps : List PinLine). pins_text ps) (c.deref-pin-items.ensures.value ∙ c.self.view_is)

pub returns-clause-plain : goal.returns-clause-plain
returns-clause-plain c = (all_written _ _ _ c.loop-pin-test.false c.loop-pin.invariant).plain

pub returns-clause-reads : goal.returns-clause-reads
returns-clause-reads c =
    subst (λ (ps : List PinLine). ReadsPins c.loop-pin.out.items ps) (c.deref-pin-items.ensures.value ∙ c.self.view_is) (all_written _ _ _ c.loop-pin-test.false c.loop-pin.invariant).reads
