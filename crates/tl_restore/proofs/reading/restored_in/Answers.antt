use Rattle.std.proofs.Common.{List, ℕ, Result, sym, subst}
use Rattle.tl_file.specs.declared.file.FileBytes.{FileBytes}
use Rattle.tl_frame.specs.Scan.{frame_fault}
use Rattle.tl_frame.specs.declared.whole.Frame.{Frame}
use Rattle.tl_restore.specs.Restored.{Restores, entry_and_files, restored_from, unpacked_by}
use Rattle.tl_restore.specs.declared.reading.RestoreError.{RestoreError}
use Rattle.tl_restore.proofs.ReadLaws.{frame_passes}
use Rattle.tl_restore.proofs.reading.restored_in.Goals as goal

pub returns-in-Ok-clause-restored : goal.returns-in-Ok-clause-restored
returns-in-Ok-clause-restored c =
    subst (λ (parts : Result (List ℕ × List FileBytes) RestoreError). Restores entry_and_files c.restored_from.result (restored_from c.args.name.now c.args.revision parts))
    (sym c.in-Ok.ensures.frame) c.restored_from.ensures.restored

pub returns-in-Err-clause-restored : goal.returns-in-Err-clause-restored
returns-in-Err-clause-restored c =
    frame_passes (λ (frame : Frame). (frame.entry, frame.files)) c.args.name.now c.args.revision c.in-Err.fault (unpacked_by (frame_fault c.args.bytes.now) c.args.bytes.now) c.in-Err.ensures.frame
