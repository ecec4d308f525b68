use Rattle.tl_restore.proofs.ReadLaws.{unpacked_frame}
use Rattle.tl_restore.proofs.reading.unpacked.Goals as goal

pub returns-in-Ok-clause-frame : goal.returns-in-Ok-clause-frame
returns-in-Ok-clause-frame c = unpacked_frame c.args.bytes.now c.in-Ok.frame.entry c.in-Ok.frame.files c.in-Ok.ensures.frame c.in-Ok.ensures.fault

pub returns-in-Ok-clause-fits : goal.returns-in-Ok-clause-fits
returns-in-Ok-clause-fits c = c.in-Ok.ensures.frame.have.entry_fits
