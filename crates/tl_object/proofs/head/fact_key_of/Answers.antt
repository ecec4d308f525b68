use Rattle.tl_object.proofs.LineLemmas.{fact_key-no_fault}
use Rattle.tl_object.proofs.head.fact_key_of.Goals as goal

pub unreachable-requires : goal.unreachable-requires
unreachable-requires c = fact_key-no_fault c.args.key.now _ c.requires c.in-Err-NotText.field-0-is c.in-Err-NotText.ensures.fault
