use Rattle.std.proofs.Common.{◌≡◌, sym, subst, List, ℕ, true}
use Rattle.tl_file.specs.declared.file.FileBytes.{FileBytes}
use Rattle.tl_frame.specs.Frames.{paths_rise}
use Rattle.tl_entry.specs.Rising.{is_rising}
use Rattle.tl_backup.proofs.Making.{asked_join, rise_paths}
use Rattle.tl_backup.proofs.make.backup_bytes.Goals as goal

pub returns-in_err-files-clause-asked : goal.returns-in_err-files-clause-asked
returns-in_err-files-clause-asked g c = asked_join _ _ _ _ c.missing_path.ensures.asked c.read_files.ensures.asked

pub returns-clause-asked : goal.returns-clause-asked
returns-clause-asked g c = asked_join _ _ _ _ c.missing_path.ensures.asked c.read_files.ensures.asked

pub frame_within-requires : goal.frame_within-requires
frame_within-requires g c = subst (λ (l : List FileBytes). paths_rise l ≡ true) (sym c.deref.ensures.value)
    (rise_paths c.in_ok-files.files.items (subst (λ (l : List (List ℕ)). is_rising (λ (p : List ℕ). p) l ≡ true) (sym c.in_ok-files.ensures.paths) c.requires))
