use Rattle.tl_object.proofs.PlainLemmas.{plain_key_line, plain_behind}
use Rattle.tl_object.proofs.write.put_line.Goals as goal

pub returns-clause-plain : goal.returns-clause-plain
returns-clause-plain c =
    plain_behind c.put_words.result _ _ _ c.put_words.ensures (plain_key_line c.args.key.now c.args.value.now c.requires.begins c.requires.line)
