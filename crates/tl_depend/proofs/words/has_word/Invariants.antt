use Rattle.std.proofs.Common.{◌≡◌, length}
use Rattle.tl_model.specs.Words.{fields}
use Rattle.tl_entry.specs.Rising.{has_key}
use Rattle.tl_depend.proofs.words.has_word.Given as goal

abbrev pub invariant-loop-first : goal.invariant-loop-first
invariant-loop-first l = has_key (λ w. w) l.word (fields l.rest) ≡ has_key (λ w. w) l.word (fields l.text)

abbrev pub decreases-loop-first : goal.decreases-loop-first
decreases-loop-first l = length l.rest
