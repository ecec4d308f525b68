-- What the frame of a backup holds.
use Rattle.std.proofs.Common.{◌≡◌, ◌≢◌, ◌<◌, ◌≤◌, ◌+◌, ◌&&◌, ℕ, suc, Bool, true, false, List, [], ◌∷◌, length, map, drop, get_or, Option, None, Result, Ok, Err, refl, sym, ap, ◌∙◌}
use Rattle.std.specs.Cmp.Lexicographic.{pointwise}
use Rattle.std.specs.Str.{bytes_eq}
use Rattle.std.proofs.lemmas.List.{drop_all}
use Rattle.tl_model.specs.Volume.{Name}
use Rattle.tl_file.specs.declared.file.FileBytes.{FileBytes}
use Rattle.tl_frame.specs.Events.{with_tokens}
use Rattle.tl_frame.specs.Frames.{IsFrame}
use Rattle.tl_frame.specs.Scan.{Scan, Token, frame_fault}
use Rattle.tl_frame.proofs.FrameLaws.{frame_scan}
use Rattle.tl_frame.proofs.GatherLaws.{with_tokens-frame}
use Rattle.tl_restore.specs.Restored.{Restores, entry_and_files, restored_from, restored_in, unpacked_by}
use Rattle.tl_restore.specs.declared.reading.RestoreError.{RestoreError}
use Rattle.tl_restore.specs.declared.reading.RestoreError.TheVariants as faults
use Rattle.tl_backup.proofs.Making.{drop_one}

-- a frame is unpacked
pub unpacked_frame : (bytes entry : List ℕ) (files : List FileBytes) → IsFrame bytes entry files → frame_fault bytes ≡ None → unpacked_by (frame_fault bytes) bytes ≡ Ok (entry, files)
unpacked_frame bytes entry files is none =
    ap (λ (o : Option ℕ). unpacked_by o bytes) none
    ∙ ap (λ (tokens : List Token). Ok (with_tokens ([], []) tokens)) (ap (λ (s : Scan). s.tokens) (frame_scan bytes entry files is)) ∙ ap Ok (with_tokens-frame entry files)

abbrev pub path_in : FileBytes → Name
path_in file = file.path

-- one path more of files and of paths
pub pairs_on : (files : List FileBytes) (paths : List Name) (i : ℕ) (file : FileBytes) (path : Name) → i < length files → i < length paths → file ≡ get_or files i file → path ≡ get_or paths i path
    → pointwise bytes_eq (map path_in (drop i files)) (drop i paths) ≡ (bytes_eq file.path path && pointwise bytes_eq (map path_in (drop (i + 1) files)) (drop (i + 1) paths))
pairs_on files paths i file path lt lt' is is' =
    ap (λ (l : List FileBytes). pointwise bytes_eq (map path_in l) (drop i paths)) (drop_one files i file lt ∙ ap (λ (f : FileBytes). f ∷ drop (i + 1) files) (sym is))
    ∙ ap (λ (l : List Name). pointwise bytes_eq (file.path ∷ map path_in (drop (i + 1) files)) l) (drop_one paths i path lt' ∙ ap (λ (p : Name). p ∷ drop (i + 1) paths) (sym is'))

pub pairs_end : (files : List FileBytes) (paths : List Name) (i : ℕ) → length files ≤ i → length paths ≤ i → pointwise bytes_eq (map path_in (drop i files)) (drop i paths) ≡ true
pairs_end files paths i le le' =
    ap (λ (l : List FileBytes). pointwise bytes_eq (map path_in l) (drop i paths)) (drop_all i files le) ∙ ap (λ (l : List Name). pointwise bytes_eq [] l) (drop_all i paths le')

pub other_count : (files : List FileBytes) (paths : List Name) → length files ≢ length paths → pointwise bytes_eq (map path_in files) paths ≡ false
other_count [] [] apart = absurd (apart refl)
other_count [] (p ∷ paths) apart = refl
other_count (f ∷ files) [] apart = refl
other_count (f ∷ files) (p ∷ paths) apart = by (bytes_eq f.path p) (other_count files paths (λ is. apart (ap suc is)))
  where
    by : (b : Bool) → pointwise bytes_eq (map path_in files) paths ≡ false → (b && pointwise bytes_eq (map path_in files) paths) ≡ false
    by true rest = rest
    by false rest = refl

-- a fault that ends one part of the reading ends it all
fault_passes : {A X Y Z : Type 0} (view : X → A) (far : Y → Z) (fault : RestoreError) (given : Result A RestoreError) (more : Result Z RestoreError) → (given ≡ Err fault → more ≡ Err fault)
    → Restores view (Err fault) given → Restores far (Err fault) more
fault_passes view far faults.NoBackup given more goes is = goes is
fault_passes view far (faults.TooLarge what limit) given more goes is = goes is
fault_passes view far (faults.BadFrame at) given more goes is = goes is
fault_passes view far faults.FrameEntry given more goes is = goes is
fault_passes view far faults.HostFault given more goes is = tt
fault_passes view far faults.NoMemory given more goes is = tt

pub bytes_pass : {X : Type 0} (view : X → List ℕ) (name : Name) (revision : ℕ) (fault : RestoreError) (given : Result (List ℕ) RestoreError) → Restores view (Err fault) given
    → Restores entry_and_files (Err fault) (restored_in name revision given)
bytes_pass view name revision fault given is = fault_passes view entry_and_files fault given (restored_in name revision given) (λ same. ap (restored_in name revision) same) is

pub frame_passes : {X : Type 0} (view : X → List ℕ × List FileBytes) (name : Name) (revision : ℕ) (fault : RestoreError) (given : Result (List ℕ × List FileBytes) RestoreError) → Restores view (Err fault) given
    → Restores entry_and_files (Err fault) (restored_from name revision given)
frame_passes view name revision fault given is = fault_passes view entry_and_files fault given (restored_from name revision given) (λ same. ap (restored_from name revision) same) is
