use Rattle.tl_object.proofs.PlainLemmas.{plain_last, plain_section_line, plain_written}
use Rattle.tl_object.proofs.write.put_files.Goals as goal

pub returns-clause-plain : goal.returns-clause-plain
returns-clause-plain c =
    let line = plain_section_line c.args.key.now c.args.files.now.blocks c.requires c.in_ok-put_section.ensures.digits in
    plain_last c.put_paths.result _ _ _ (λ far. plain_written _ _ _ c.in_ok-put_section.ensures.written line far) c.put_paths.ensures.plain
