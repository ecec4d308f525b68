use Rattle.std.proofs.Common.{List, ◌≡◌, ◌++◌, ◌∷◌, [], ◌+◌, ℕ, length, take, sym, ◌∙◌, ap, arith}
use Rattle.std.specs.List.{flat_map}
use Rattle.std.proofs.lemmas.List.{take_all, take_more}
use Rattle.tl_file.specs.declared.file.FileBytes.{FileBytes}
use Rattle.tl_frame.specs.Frames.{framed_file}
use Rattle.tl_frame.specs.States.{told_place}
use Rattle.tl_frame.proofs.FrameLaws.{length-frame, length-files-push, size_more}
use Rattle.tl_frame.proofs.whole.frame_size.Goals as goal

pub loop-file-preserved : goal.loop-file-preserved
loop-file-preserved c =
    let f = c.file-item.result in
    let files = c.args.files.now in
    let i = c.loop-file.file-index in
    let n = 24 + length c.args.entry.now + length (flat_map framed_file (take i files)) in
    let told = size_more n c.loop-file.size c.saturating_add.result c.saturating_add-in-loop-file.result c.saturating_add-size-in-loop-file.result (length f.path) (length f.bytes) c.loop-file.invariant c.saturating_add.ensures
    (c.saturating_add-in-loop-file.ensures ∙ ap (λ (l : List ℕ). told_place (c.saturating_add.result + length l)) c.bytes.ensures.bytes)
    (c.saturating_add-size-in-loop-file.ensures ∙ ap (λ (l : List ℕ). told_place (c.saturating_add-in-loop-file.result + length l)) c.as_slice.ensures) in
    let grown : length (flat_map framed_file (take (i + 1) files)) ≡ length (flat_map framed_file (take i files)) + (10 + length f.path + length f.bytes) =
    ap (λ (fs : List FileBytes). length (flat_map framed_file fs)) (take_more files i f c.loop-file-test.true ∙ ap (λ (x : FileBytes). take i files ++ x ∷ []) (sym c.file-item.is))
    ∙ length-files-push (take i files) f in
    let same : n + (10 + length f.path + length f.bytes) ≡ 24 + length c.args.entry.now + length (flat_map framed_file (take (i + 1) files)) = omega (arith, grown) in
    told ∙ ap told_place same

pub returns : goal.returns
returns c =
    let files = c.args.files.now in
    let all : take c.loop-file.file-index files ≡ files = take_all c.loop-file.file-index files (omega arith) in
    c.loop-file.invariant
    ∙ ap (λ (fs : List FileBytes). told_place (24 + length c.args.entry.now + length (flat_map framed_file fs))) all
    ∙ ap told_place (sym (length-frame c.args.entry.now files))
