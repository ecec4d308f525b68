use Rattle.std.proofs.Common.{codes, refl}
use Rattle.tl_object.proofs.PlainLemmas.{plain_last, plain_section_line, plain_written}
use Rattle.tl_object.proofs.write.put_doc.Goals as goal

pub returns-clause-plain : goal.returns-clause-plain
returns-clause-plain c =
    let line = plain_section_line (codes "docfiles") c.args.doc.now.blocks refl c.in_ok-put_section.ensures.digits in
    plain_last c.put_doc_files.result _ _ _ (λ far. plain_written _ _ _ c.in_ok-put_section.ensures.written line far) c.put_doc_files.ensures.plain
