use Rattle.std.proofs.Common.{◌∙◌, ap, sym, map, List, ℕ, [], ◌∷◌, ◌+◌, drop}
use Rattle.tl_model.specs.Volume.{Volume}
use Rattle.tl_file.specs.declared.file.FileBytes.{FileBytes}
use Rattle.tl_backup.specs.Asked.{tree_in}
use Rattle.tl_backup.specs.Frames.{files_at}
use Rattle.tl_backup.proofs.Making.{asked_join, asked_tree, files_step, paths_step, in_front}
use Rattle.tl_backup.proofs.make.read_files.Goals as goal

pub returns-in_err-read_file-clause-asked : goal.returns-in_err-read_file-clause-asked
returns-in_err-read_file-clause-asked g c = asked_join _ _ _ _ c.loop-path.invariant.0 c.read_file.ensures.asked

pub returns-in_err-push_file-clause-asked : goal.returns-in_err-push_file-clause-asked
returns-in_err-push_file-clause-asked g c = asked_join _ _ _ _ c.loop-path.invariant.0 c.read_file.ensures.asked

pub loop-path-preserved : goal.loop-path-preserved
loop-path-preserved g c =
    let tree = tree_in c.args.tree.now in
    let item = c.path-item.result in
    let file = c.in_ok-read_file.field-0 in (
      asked_join _ _ _ _ c.loop-path.invariant.0 c.read_file.ensures.asked,
      (λ t. files_step tree c.args.paths.now c.loop-path.files.items c.loop-path.path-index item file c.loop-path-test.true
          (sym (ap (λ (v : Volume). files_at v (item ∷ [])) (asked_tree _ _ _ c.loop-path.invariant.0 t) ∙ ap (λ (n : List ℕ). files_at tree (n ∷ [])) c.path-item.is) ∙ c.in_ok-read_file.ensures.file t)
          (c.loop-path.invariant.1 t)
          ∙ ap (λ (l : List FileBytes). in_front l (files_at tree (drop (c.loop-path.path-index + 1) c.args.paths.now))) (sym c.in_ok-push_file.ensures)),
      ap (map (λ (f : FileBytes). f.path)) c.in_ok-push_file.ensures
          ∙ paths_step c.args.paths.now c.loop-path.files.items c.loop-path.path-index item file c.loop-path-test.true c.loop-path.invariant.2 (c.in_ok-read_file.ensures.path ∙ c.path-item.is),
    )
