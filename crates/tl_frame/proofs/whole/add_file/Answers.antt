use Rattle.std.proofs.Common.{List, ◌++◌, ℕ, length, ◌∙◌, ap}
use Rattle.std.specs.Int.{w16, w64, to_be_bytes}
use Rattle.tl_frame.proofs.FrameLaws.{file_pushed}
use Rattle.tl_frame.proofs.whole.add_file.Goals as goal

pub returns-clause-text : goal.returns-clause-text
returns-clause-text c =
    let path = c.bytes-path.ensures.bytes in
    let bytes = c.as_slice-bytes.ensures in
    file_pushed c.args.file.now c.args.out.now.items c.extend_from_slice.new.self.items c.extend_from_slice-2.new.self.items c.extend_from_slice-3.new.self.items c.extend_from_slice-4.new.self.items
    (c.in_ok-extend_from_slice.ensures.items ∙ ap (λ (l : List ℕ). c.args.out.now.items ++ l) (c.to_be_bytes.ensures ∙ ap (λ (l : List ℕ). to_be_bytes w16 (length l)) path))
    (c.in_ok-extend_from_slice-2.ensures.items ∙ ap (λ (l : List ℕ). c.extend_from_slice.new.self.items ++ l) path)
    (c.in_ok-extend_from_slice-3.ensures.items ∙ ap (λ (l : List ℕ). c.extend_from_slice-2.new.self.items ++ l) (c.to_be_bytes-2.ensures ∙ ap (λ (l : List ℕ). to_be_bytes w64 (length l)) bytes))
    (c.in_ok-extend_from_slice-4.ensures.items ∙ ap (λ (l : List ℕ). c.extend_from_slice-3.new.self.items ++ l) bytes)
