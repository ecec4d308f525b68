-- What the answers of the calls say of the bytes.
use Rattle.std.specs.Prelude.{◌≡◌, ◌≢◌, ℕ, Bool, true, false, List, length, Some, Result, Ok, Err}
use Rattle.sha2.specs.Sha512.{sha512}
use Rattle.tl_frame.specs.declared.error.FrameError.{FrameError}
use Rattle.tl_frame.specs.declared.error.FrameError.TheVariants.{BadFrame, NoMemory}
use Rattle.tl_frame.specs.declared.error.CheckError.{CheckError}
use Rattle.tl_frame.specs.declared.error.CheckError.TheVariants.{SizeDiffers, DigestDiffers}
use Rattle.tl_frame.specs.Scan.{ScanEnd, AtEnd, InField, AtFault, frame_fault, ending_of}
use Rattle.tl_frame.specs.declared.stage.Stage.{Stage}
use Rattle.tl_frame.specs.declared.stage.Stage.TheVariants.{Ended, Faulty, Spent}
use Rattle.tl_frame.specs.States.{ReaderState, told_place}

-- the bytes' first field that is cut or wrong; want of memory has no cause in them
abbrev pub IsFrameErrorOf : List ℕ → FrameError → Type 0
IsFrameErrorOf text (BadFrame at) = frame_fault text ≡ Some at
IsFrameErrorOf text NoMemory = Unit {0}

-- the answer to bytes that end so, where a field that is only cut is no fault
abbrev pub feed_by : ScanEnd → Result Unit FrameError
feed_by AtEnd = Ok tt
feed_by (InField place) = Ok tt
feed_by (AtFault place) = Err (BadFrame (told_place place))

-- the answer of a reader to which these bytes have come, as to whether a field is wrong
abbrev pub feed_answer : Bool → List ℕ → Result Unit FrameError
feed_answer true fed = Err NoMemory
feed_answer false fed = feed_by (ending_of fed)

-- the answer of a reader at a stage, as to whether a field is wrong
abbrev pub stage_fault : Stage → ℕ → Result Unit FrameError
stage_fault Faulty place = Err (BadFrame place)
stage_fault _ place = Ok tt

-- the same of a reader
abbrev pub reader_fault : ReaderState → Result Unit FrameError
reader_fault s = stage_fault s.waiting.stage s.waiting.place

-- the answer to bytes that end so, where a field that is cut is a fault too
abbrev pub finish_by : ScanEnd → Result Unit FrameError
finish_by AtEnd = Ok tt
finish_by (InField place) = Err (BadFrame (told_place place))
finish_by (AtFault place) = Err (BadFrame (told_place place))

-- the answer of a reader at a stage, as to whether a frame has ended
abbrev pub stage_ending : Stage → ℕ → Result Unit FrameError
stage_ending Spent place = Err NoMemory
stage_ending Ended place = Ok tt
stage_ending _ place = Err (BadFrame place)

-- the answer of a reader to which these bytes have come, as to whether they are a frame
abbrev pub finish_answer : Bool → List ℕ → Result Unit FrameError
finish_answer true fed = Err NoMemory
finish_answer false fed = finish_by (ending_of fed)

-- which of the two isn't as stated, the size before the digest, and what it is
abbrev pub IsCheckErrorOf : List ℕ → ℕ → List ℕ → CheckError → Type 0
IsCheckErrorOf bytes size digest (SizeDiffers want got) = (want ≡ size) × (got ≡ length bytes) × (length bytes ≢ size)
IsCheckErrorOf bytes size digest (DigestDiffers want got) = (length bytes ≡ size) × (want ≡ digest) × (got ≡ sha512 bytes) × (sha512 bytes ≢ digest)
