use Rattle.std.proofs.Common.{◌≡◌, ◌∙◌, sym, ap, ◌==◌, ◌||◌, nat_lt, length, true, false}
use Rattle.tl_words.proofs.Drops.{size_step}
use Rattle.tl_words.proofs.faults.size_fault.Goals as goal

pub returns-then-is_past : goal.returns-then-is_past
returns-then-is_past c =
    let past : (c.loop-at.at == 4096 || nat_lt 65536 (length c.index-words-at.result.items)) ≡ true
    = ap (λ l. c.loop-at.at == 4096 || nat_lt 65536 (length l)) (sym c.as_slice.ensures.value) ∙ sym c.is_past.ensures ∙ c.if-is_past.true in
    sym (c.loop-at.invariant ∙ size_step c.args.words.now c.loop-at.at c.index-words-at.result c.loop-at-test.true c.index-words-at.is ∙ rw past)

pub loop-at-preserved : goal.loop-at-preserved
loop-at-preserved c =
    let fits : (c.loop-at.at == 4096 || nat_lt 65536 (length c.index-words-at.result.items)) ≡ false
    = ap (λ l. c.loop-at.at == 4096 || nat_lt 65536 (length l)) (sym c.as_slice.ensures.value) ∙ sym c.is_past.ensures ∙ c.if-is_past.false in
    c.loop-at.invariant ∙ size_step c.args.words.now c.loop-at.at c.index-words-at.result c.loop-at-test.true c.index-words-at.is ∙ rw fits
