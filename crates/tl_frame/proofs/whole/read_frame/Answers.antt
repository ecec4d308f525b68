use Rattle.std.proofs.lemmas.Result.{err_from_is_err_and}
use Rattle.tl_frame.specs.Frames.{IsFrame}
use Rattle.tl_frame.proofs.FrameLaws.{frame_sound, frame_alone}
use Rattle.tl_frame.proofs.GatherLaws.{one_frame, frame_got}
use Rattle.tl_frame.proofs.PlaceLaws.{frame_error}
use Rattle.tl_frame.proofs.whole.read_frame.Goals as goal

pub returns-in_err-events-clause-only : goal.returns-in_err-events-clause-only
returns-in_err-events-clause-only c entry files is =
    let refused = frame_error c.args.bytes.now entry files c.in_err-events.field-0.0 is c.in_err-events.ensures.fault in
    let p = err_from_is_err_and c.from_residual.result c.from_residual.ensures.1 in
    rw (p.1, p.2) refused

-- what was read has this frame
read : (c : goal.In_ok-frame_of) → IsFrame c.args.bytes.now c.in_ok-frame_of.field-0.entry c.in_ok-frame_of.field-0.files
read c = frame_got c.args.bytes.now c.in_ok-frame_of.field-0.entry c.in_ok-frame_of.field-0.files _ c.in_ok-events.ensures.whole c.in_ok-events.ensures.told c.in_ok-frame_of.ensures

pub returns-clause-frame : goal.returns-clause-frame
returns-clause-frame c = read c

pub returns-clause-only : goal.returns-clause-only
returns-clause-only c entry files is = one_frame c.args.bytes.now c.in_ok-frame_of.field-0.entry entry c.in_ok-frame_of.field-0.files files (read c) is

pub returns-clause-fault : goal.returns-clause-fault
returns-clause-fault c = frame_sound c.args.bytes.now c.in_ok-frame_of.field-0.entry c.in_ok-frame_of.field-0.files (read c)

pub returns-clause-alone : goal.returns-clause-alone
returns-clause-alone c more entry files longer = frame_alone c.args.bytes.now more c.in_ok-frame_of.field-0.entry entry c.in_ok-frame_of.field-0.files files (read c) longer
