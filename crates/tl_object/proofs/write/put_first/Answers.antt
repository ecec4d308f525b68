use Rattle.tl_object.specs.Formed.{HasFormedFront}
use Rattle.tl_object.proofs.PlainLemmas.{on_ok}
use Rattle.tl_object.proofs.write.put_first.Goals as goal

pub returns-clause-formed : goal.returns-clause-formed
returns-clause-formed c =
    on_ok {P = HasFormedFront c.args.object.now} c.put_relocated.result
    (record { name = c.bytes.ensures.name; revision = c.in_ok-put_revision.ensures.formed; catalogue = c.in_ok-put_text.ensures.formed; shortdesc = c.in_ok-put_text-2.ensures.formed })
