use Rattle.std.proofs.Common.{◌≡◌, ◌+◌, length, take}
use Rattle.std.specs.List.{flat_map}
use Rattle.tl_frame.specs.Frames.{framed_file}
use Rattle.tl_frame.specs.States.{told_place}
use Rattle.tl_frame.proofs.whole.frame_size.Given as goal

abbrev pub invariant-loop-file : goal.invariant-loop-file
invariant-loop-file l = l.size ≡ told_place (24 + length l.entry + length (flat_map framed_file (take l.file-index l.files)))
