use Rattle.std.proofs.Common.{◌≡◌, ◌++◌, take}
use Rattle.std.specs.List.{flat_map, AllByRecursion}
use Rattle.tl_frame.specs.Frames.{FitsFrame, framed_file}
use Rattle.tl_frame.proofs.whole.write_frame.Given as goal

abbrev pub invariant-loop-file : goal.invariant-loop-file
invariant-loop-file l = record {
  written : l.out.items ≡ l.initial.out.items ++ flat_map framed_file (take l.file-index l.files);
  each : AllByRecursion FitsFrame (take l.file-index l.files);
}
