use Rattle.std.proofs.Common.{true, false, sym, ◌∙◌}
use Rattle.tl_depend.proofs.WordLemmas.{at_word}
use Rattle.tl_depend.proofs.words.has_word.Goals as goal

pub returns-then-eq : goal.returns-then-eq
returns-then-eq c =
    sym (at_word c.args.word.now c.in-Some.first.now c.loop-first.rest.now c.in-Some.behind.now true (sym c.eq.ensures ∙ c.if-eq.true) c.in-Some.ensures.words) ∙ c.loop-first.invariant

pub loop-first-preserved : goal.loop-first-preserved
loop-first-preserved c =
    sym (at_word c.args.word.now c.in-Some.first.now c.loop-first.rest.now c.in-Some.behind.now false (sym c.eq.ensures ∙ c.if-eq.false) c.in-Some.ensures.words) ∙ c.loop-first.invariant
