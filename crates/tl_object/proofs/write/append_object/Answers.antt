use Rattle.std.proofs.Common.{subst}
use Rattle.std.specs.Prelude.{All}
use Rattle.tl_object.specs.Formed.{IsFormedFact}
use Rattle.tl_object.proofs.PlainLemmas.{on_more}
use Rattle.tl_object.proofs.RoundTrip.{reads-again}
use Rattle.tl_object.proofs.write.append_object.Goals as goal

pub returns-clause-again : goal.returns-clause-again
returns-clause-again c =
    on_more c.put_facts.result
    (λ facts. reads-again c.args.object.now c.in_ok-put_first.ensures.formed c.in_ok-put_middle.ensures.formed c.in_ok-put_all_files.ensures.formed (subst (All IsFormedFact) c.as_slice.ensures.items facts))
    c.put_facts.ensures.formed
