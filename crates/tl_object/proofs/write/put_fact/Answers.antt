use Rattle.tl_model.specs.Acks.{IsPlain}
use Rattle.tl_object.specs.Writing.{fact_line}
use Rattle.tl_object.proofs.PlainLemmas.{on_ok, plain_fact_line}
use Rattle.tl_object.proofs.write.put_fact.Goals as goal

pub returns-clause-plain : goal.returns-clause-plain
returns-clause-plain c =
    on_ok {P = IsPlain (fact_line c.args.fact.now)} c.put_words.result (rw (← c.fact.view_is) (plain_fact_line _ c.bytes.ensures.is_text c.bytes-2.ensures.is_text))
