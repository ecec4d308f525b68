-- The steps of `restore` are labelled.
use Rattle.std.proofs.Common.{◌≡◌, ◌+◌, ◌/◌, ◌%◌, ◌==◌, ℕ, zero, suc, Bool, true, false, cond, nat_lt, List, [], ◌∷◌, ◌++◌, codes, Option, Some, None, Result, Ok, Err, refl, subst, arith}
use Rattle.std.specs.Fmt.{digit_glyph, digits, digits_onto}
use Rattle.std.proofs.lemmas.Bool.{ne_eqb}
use Rattle.std.proofs.lemmas.List.Elements.{All-cons, All-nil}
use Rattle.tl_model.specs.Decimal.{decimal_text}
use Rattle.tl_model.specs.Lines.{IsLine}
use Rattle.tl_model.specs.Trace.{Step}
use Rattle.tl_model.specs.Volume.{Name, Volume, at}
use Rattle.tl_file.specs.declared.file.FileBytes.{FileBytes}
use Rattle.tl_frame.specs.Scan.{frame_fault}
use Rattle.tl_entry.specs.declared.object.Object.{Object}
use Rattle.tl_object.specs.Reading as reading
use Rattle.tl_object.specs.declared.fault.LineKind.{LineKind}
use Rattle.tl_object.proofs.PlainLemmas.{line_append, line_tested}
use Rattle.tl_tree.specs.Changes.{changed, entries_after}
use Rattle.tl_tree.specs.Planted.{database_text}
use Rattle.tl_backup.specs.Files.{backup_path}
use Rattle.tl_backup.specs.Listed.{listed}
use Rattle.tl_backup.specs.declared.error.BackupError.{BackupError}
use Rattle.tl_backup.specs.declared.error.BackupError.TheVariants as errors
use Rattle.tl_backup.specs.declared.names.Backup.{Backup}
use Rattle.tl_coming.specs.declared.error.ComingError.{ComingError}
use Rattle.tl_coming.specs.declared.error.ComingError.TheVariants as coming
use Rattle.tl_refusal.specs.declared.refusal.Refusal.TheVariants.{Protected}
use Rattle.tl_command.specs.Runs.{AreLabelled, finished, followed, over_database, refused}
use Rattle.tl_command.proofs.LabelLaws.{label-step}
use Rattle.tl_command.proofs.Limits.{labelled-leaving, labelled-over}
use Rattle.tl_backups.specs.Backing.{is_own_name}
use Rattle.tl_backups.specs.Faults.{faulted, refused_by}
use Rattle.tl_restore.specs.Listing.{said_backups}
use Rattle.tl_restore.specs.Restored.{bytes_in, is_of, restored, restored_as, restored_from, restored_in, unpacked_by}
use Rattle.tl_restore.specs.Restoring.{coming_refusal, open_run, restore_label, restore_run, restore_text, return_fault, returned, returned_from, returning, returning_part, unless_coming, unread_refusal}
use Rattle.tl_restore.specs.declared.reading.RestoreError.{RestoreError}
use Rattle.tl_restore.specs.declared.reading.RestoreError.TheVariants as faults
use Rattle.tl_restore.proofs.EntryNames.{entry_line}
use Rattle.tl_restore.proofs.PutLaws.{back_of}

-- ---- runs that make no step

labelled-faulted : (fault : BackupError) → AreLabelled (faulted fault).events
labelled-faulted (errors.NotInstalled name) = tt
labelled-faulted (errors.FileMissing path) = tt
labelled-faulted (errors.TooLarge what limit) = tt
labelled-faulted errors.HostFault = tt
labelled-faulted errors.NoMemory = tt

labelled-said : (found : Result (List Backup) BackupError) → AreLabelled (said_backups found).events
labelled-said (Ok backups) = tt
labelled-said (Err fault) = labelled-faulted fault

labelled-unread : (name : Name) (revision : ℕ) (fault : RestoreError) → let run = refused_by (unread_refusal name revision fault) in AreLabelled run.events
labelled-unread name revision faults.NoBackup = tt
labelled-unread name revision (faults.TooLarge what limit) = tt
labelled-unread name revision (faults.BadFrame at) = tt
labelled-unread name revision faults.FrameEntry = tt
labelled-unread name revision faults.HostFault = tt
labelled-unread name revision faults.NoMemory = tt

labelled-coming : (fault : ComingError) → let run = refused_by (coming_refusal fault) in AreLabelled run.events
labelled-coming (coming.Protected name) = tt
labelled-coming (coming.NotInstalled name) = tt
labelled-coming (coming.UnknownPackage name) = tt
labelled-coming (coming.BadExecute name at kind) = tt
labelled-coming (coming.Reserved path) = tt
labelled-coming (coming.Clash path first second) = tt
labelled-coming (coming.Owned path owner) = tt
labelled-coming (coming.TooLarge what limit) = tt
labelled-coming (coming.Occupied path) = tt
labelled-coming coming.HostFault = tt
labelled-coming coming.NoMemory = tt

-- ---- the step

glyph_apart : (d : ℕ) → (digit_glyph false d == 10) ≡ false
glyph_apart d = by (nat_lt d 10)
  where
    by : (b : Bool) → (cond b (48 + d) (87 + d) == 10) ≡ false
    by true = ne_eqb (48 + d) 10 (λ e. absurd (omega (arith, e)))
    by false = ne_eqb (87 + d) 10 (λ e. absurd (omega (arith, e)))

line_onto : (k n : ℕ) (digits : List ℕ) → IsLine digits → IsLine (digits_onto k 10 false n digits)
line_onto zero n digits is = is
line_onto (suc k) n digits is =
    let more : IsLine (digit_glyph false (n % 10) ∷ digits) = All-cons (λ b. (b == 10) ≡ false) (digit_glyph false (n % 10)) digits (glyph_apart (n % 10)) is in
    by (n / 10 == 0) more (line_onto k (n / 10) (digit_glyph false (n % 10) ∷ digits) more)
  where
    by : (b : Bool) → IsLine (digit_glyph false (n % 10) ∷ digits) → IsLine (digits_onto k 10 false (n / 10) (digit_glyph false (n % 10) ∷ digits))
        → IsLine (cond b (digit_glyph false (n % 10) ∷ digits) (digits_onto k 10 false (n / 10) (digit_glyph false (n % 10) ∷ digits)))
    by true more rest = more
    by false more rest = rest

line_of_decimal : (n : ℕ) → IsLine (decimal_text n)
unfolding digits
line_of_decimal n = line_onto 64 n [] (All-nil (λ b. (b == 10) ≡ false))

-- what a package is brought back as is one line where its name is
pub line_of_text : (name : Name) (revision : ℕ) → IsLine name → IsLine (restore_text name revision)
line_of_text name revision is =
    line_append (codes "restore ") (name ++ (codes " r" ++ decimal_text revision)) (line_tested (codes "restore ") refl)
    (line_append name (codes " r" ++ decimal_text revision) is (line_append (codes " r") (decimal_text revision) (line_tested (codes " r") refl) (line_of_decimal revision)))

-- the name of a package of which something is brought back
named-as : (name : Name) (revision : ℕ) (files : List FileBytes) (read : Result Object (ℕ × LineKind)) (back : Object × List FileBytes) → ((entry : Object) → read ≡ Ok entry → IsLine entry.name)
    → restored_as name revision files read ≡ Ok back → IsLine name
named-as name revision files (Err fault) back each is = absurd (cc)
named-as name revision files (Ok entry) back each is = by (is_of name revision files entry) refl is
  where
    by : (b : Bool) → is_of name revision files entry ≡ b → cond b (Ok (entry, files)) (Err faults.FrameEntry) ≡ Ok back → IsLine name
    by true of same = subst IsLine (back_of name revision files entry of).named (each entry refl)
    by false of same = absurd (cc)

named-from : (name : Name) (revision : ℕ) (given : Result (List ℕ × List FileBytes) RestoreError) (back : Object × List FileBytes) → restored_from name revision given ≡ Ok back → IsLine name
named-from name revision (Err fault) back is = absurd (cc)
named-from name revision (Ok parts) back is = named-as name revision parts.1 (reading.entry_of parts.0) back (entry_line parts.0) is

named-in : (name : Name) (revision : ℕ) (given : Result (List ℕ) RestoreError) (back : Object × List FileBytes) → restored_in name revision given ≡ Ok back → IsLine name
named-in name revision (Err fault) back is = absurd (cc)
named-in name revision (Ok bytes) back is = named-from name revision (unpacked_by (frame_fault bytes) bytes) back is

labelled-returning : (name : Name) (revision : ℕ) (back : Object × List FileBytes) (tree : Volume) (db : List Object) → IsLine name → AreLabelled (returning name revision back tree db).events
labelled-returning name revision back tree db is =
    let step : AreLabelled (Step (changed db (returning_part back ∷ []) tree) (restore_label name revision) ∷ []) = (label-step 1 1 (restore_text name revision) (omega arith) (omega arith) (line_of_text name revision is), tt) in
    labelled-leaving (entries_after (returning_part back ∷ []) db) (followed (Step (changed db (returning_part back ∷ []) tree) (restore_label name revision) ∷ []) finished) step

labelled-returned : (name : Name) (revision : ℕ) (back : Object × List FileBytes) (tree : Volume) (db : List Object) → IsLine name → AreLabelled (returned name revision back tree db).events
labelled-returned name revision back tree db is = by (return_fault db tree back.0)
  where
    by : (fault : Option ComingError) → AreLabelled (unless_coming fault (returning name revision back tree db)).events
    by None = labelled-returning name revision back tree db is
    by (Some fault) = labelled-coming fault

labelled-back : (name : Name) (revision : ℕ) (tree : Volume) (db : List Object) → AreLabelled (returned_from name revision (restored name revision tree) tree db).events
labelled-back name revision tree db = by (restored name revision tree) refl
  where
    by : (given : Result (Object × List FileBytes) RestoreError) → restored name revision tree ≡ given → AreLabelled (returned_from name revision given tree db).events
    by (Err fault) is = labelled-unread name revision fault
    by (Ok back) is = labelled-returned name revision back tree db (named-in name revision (bytes_in (at tree (backup_path name revision))) back is)

-- ---- the command

labelled-open : (name : Name) (revision : Option ℕ) (tree : Volume) (db : List Object) → AreLabelled (open_run name revision tree db).events
labelled-open name None tree db = labelled-said (listed (Some name) tree)
labelled-open name (Some revision) tree db = labelled-back name revision tree db

labelled-run : (name : Option Name) (revision : Option ℕ) (tree : Volume) (db : List Object) → AreLabelled (restore_run name revision tree db).events
labelled-run None revision tree db = labelled-said (listed None tree)
labelled-run (Some name) revision tree db = by (is_own_name name)
  where
    by : (own : Bool) → let run = cond own (refused (Protected name)) (open_run name revision tree db) in AreLabelled run.events
    by true = tt
    by false = labelled-open name revision tree db

-- the steps of `restore` are labelled
pub labelled-restore : (name : Option Name) (revision : Option ℕ) (tree : Volume) → AreLabelled (over_database (restore_run name revision tree) (database_text tree)).events
labelled-restore name revision tree = labelled-over (restore_run name revision tree) (database_text tree) (λ db. labelled-run name revision tree db)
