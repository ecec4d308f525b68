use Rattle.std.proofs.Common.{List, ◌≡◌, ◌++◌, ℕ, take, ◌∙◌, ap, subst, arith}
use Rattle.std.specs.List.{flat_map, AllByRecursion}
use Rattle.std.proofs.lemmas.List.{take_all}
use Rattle.tl_file.specs.declared.file.FileBytes.{FileBytes}
use Rattle.tl_frame.specs.Frames.{FitsFrame, framed_file}
use Rattle.tl_frame.proofs.FrameLaws.{frame_pushed}
use Rattle.tl_frame.proofs.whole.write_frame.Goals as goal

pub returns : goal.returns
returns c =
    let files = c.args.files.now in
    let one = c.extend_from_slice.new.self.items in
    let three = c.extend_from_slice-3.new.self.items in
    let four = c.extend_from_slice-4.new.self.items in
    let all : take c.loop-file.file-index files ≡ files = take_all c.loop-file.file-index files (omega arith) in
    record {
      have = record { entry_fits = c.requires.entry; count_fits = c.requires.count; each = subst (λ (fs : List FileBytes). AllByRecursion FitsFrame fs) all c.loop-file.invariant.each; rising = c.requires.rise };
      same = frame_pushed c.args.entry.now files c.in_ok-out.out.items one c.extend_from_slice-2.new.self.items three four c.loop-file.out.items c.extend_from_slice-5.new.self.items
          c.in_ok-out.ensures.items
          c.in_ok-extend_from_slice.ensures.items
          (c.in_ok-extend_from_slice-2.ensures.items ∙ ap (λ (l : List ℕ). one ++ l) c.to_be_bytes.ensures)
          c.in_ok-extend_from_slice-3.ensures.items
          (c.in_ok-extend_from_slice-4.ensures.items ∙ ap (λ (l : List ℕ). three ++ l) c.to_be_bytes-2.ensures)
          (c.loop-file.invariant.written ∙ ap (λ (fs : List FileBytes). four ++ flat_map framed_file fs) all)
          c.in_ok-extend_from_slice-5.ensures.items;
    }
