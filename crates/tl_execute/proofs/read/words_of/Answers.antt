use Rattle.std.proofs.Common.{refl}
use Rattle.tl_model.specs.Words.{lone-open}
use Rattle.tl_execute.proofs.read.words_of.Goals as goal

pub returns-in-Err-BadQuote-clause-fault : goal.returns-in-Err-BadQuote-clause-fault
returns-in-Err-BadQuote-clause-fault c = (refl, lone-open c.args.text.now _ (rw c.in-Err-BadQuote.field-0-is at c.in-Err-BadQuote.ensures.fault))
