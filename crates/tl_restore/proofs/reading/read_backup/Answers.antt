use Rattle.std.proofs.Common.{◌≡◌, ◌∙◌, List, ℕ, Vec, Global, Result, Ok, Err, ap, sym, subst}
use Rattle.tl_model.specs.Volume.{Name, at}
use Rattle.tl_frame.specs.Scan.{frame_fault}
use Rattle.tl_backup.specs.Asked.{tree_in}
use Rattle.tl_backup.specs.Files.{backup_path}
use Rattle.tl_restore.specs.Restored.{Restores, bytes_in, entry_and_files, restored_from, restored_in, unpacked_by}
use Rattle.tl_restore.specs.declared.reading.RestoreError.{RestoreError}
use Rattle.tl_restore.proofs.ReadLaws.{bytes_pass}
use Rattle.tl_restore.proofs.reading.read_backup.Goals as goal

pub returns-in-Ok-clause-restored : goal.returns-in-Ok-clause-restored
returns-in-Ok-clause-restored g c t =
    let name = c.args.name.now in
    let revision = c.args.revision in
    let tree = tree_in c.args.tree.now in
    let read : bytes_in (at tree (backup_path name revision)) ≡ Ok c.in-Ok.bytes.items =
    ap (λ (path : Name). bytes_in (at tree path)) (sym c.in_ok-path.ensures.path) ∙ c.in-Ok.ensures.bytes t in
    subst (λ (given : Result (List ℕ) RestoreError). Restores entry_and_files c.restored_in.result (restored_in name revision given)) (sym read)
    (subst (λ (bytes : List ℕ). Restores entry_and_files c.restored_in.result (restored_from name revision (unpacked_by (frame_fault bytes) bytes))) c.deref.ensures.value c.restored_in.ensures.restored)

pub returns-clause-restored : goal.returns-clause-restored
returns-clause-restored g c t =
    let name = c.args.name.now in
    let revision = c.args.revision in
    let tree = tree_in c.args.tree.now in
    bytes_pass (λ (bytes : Vec ℕ Global). bytes.items) name revision c.in-Err.fault (bytes_in (at tree (backup_path name revision)))
    (subst (λ (path : Name). Restores (λ (bytes : Vec ℕ Global). bytes.items) (Err c.in-Err.fault) (bytes_in (at tree path))) c.in_ok-path.ensures.path (c.in-Err.ensures.bytes t))
