use Rattle.tl_object.proofs.PlainLemmas.{plain_relocated_line, plain_written}
use Rattle.tl_object.proofs.write.put_relocated.Goals as goal

pub returns-in_ok-extend_from_slice-clause-plain : goal.returns-in_ok-extend_from_slice-clause-plain
returns-in_ok-extend_from_slice-clause-plain c = λ p. plain_written _ _ _ c.in_ok-extend_from_slice.ensures.items plain_relocated_line p
