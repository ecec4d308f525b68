-- How the parts of `restore NAME REV` make the whole.
use Rattle.std.proofs.Common.{◌≡◌, Bool, Option, Result, Ok, Err, List, ℕ, ap, subst, sym}
use Rattle.std.specs.Prelude.{IfOk, IfSome}
use Rattle.tl_model.specs.Lines.{IsLine}
use Rattle.tl_model.specs.Volume.{Name, Volume}
use Rattle.tl_file.specs.declared.file.FileBytes.{FileBytes}
use Rattle.tl_entry.specs.declared.object.Object.{Object}
use Rattle.tl_tree.specs.Planted.{Planted}
use Rattle.tl_backup.specs.Asked.{IsAsked}
use Rattle.tl_coming.specs.Asked as asking
use Rattle.tl_coming.specs.declared.error.ComingError.{ComingError}
use Rattle.tl_coming.specs.declared.error.ComingError.TheVariants as coming
use Rattle.tl_command.specs.Runs.{Run, refused}
use Rattle.tl_restore.specs.Restored.{Restores}
use Rattle.tl_restore.specs.Restoring.{coming_refusal, returned_from, unless_coming, unread_refusal}
use Rattle.tl_restore.specs.declared.reading.RestoreError.{RestoreError}
use Rattle.tl_restore.specs.declared.reading.RestoreError.TheVariants as faults

-- a tree that was asked
pub as_asked : (tells : Bool) (old new : Planted) → asking.IsAsked tells old new → IsAsked tells old new
as_asked tells old new asked = record { quiet = asked.quiet; db = asked.db; later = asked.later }

-- a fault of a package that comes is refused
pub coming_refused : (fault : ComingError) (given : Option ComingError) (run : Run) → asking.IsFaultOf given fault → IfSome (coming_refusal fault) (λ refusal. unless_coming given run ≡ refused refusal)
coming_refused (coming.Protected name) given run is = ap (λ (o : Option ComingError). unless_coming o run) is
coming_refused (coming.NotInstalled name) given run is = ap (λ (o : Option ComingError). unless_coming o run) is
coming_refused (coming.UnknownPackage name) given run is = ap (λ (o : Option ComingError). unless_coming o run) is
coming_refused (coming.BadExecute name at kind) given run is = ap (λ (o : Option ComingError). unless_coming o run) is
coming_refused (coming.Reserved path) given run is = ap (λ (o : Option ComingError). unless_coming o run) is
coming_refused (coming.Clash path first second) given run is = ap (λ (o : Option ComingError). unless_coming o run) is
coming_refused (coming.Owned path owner) given run is = ap (λ (o : Option ComingError). unless_coming o run) is
coming_refused (coming.TooLarge what limit) given run is = ap (λ (o : Option ComingError). unless_coming o run) is
coming_refused (coming.Occupied path) given run is = ap (λ (o : Option ComingError). unless_coming o run) is
coming_refused coming.HostFault given run is = tt
coming_refused coming.NoMemory given run is = tt

-- a backup that brings nothing back is refused
pub unread_refused : {X : Type 0} (view : X → Object × List FileBytes) (name : Name) (revision : ℕ) (fault : RestoreError) (given : Result (Object × List FileBytes) RestoreError) (tree : Volume) (db : List Object)
    → Restores view (Err fault) given → IfSome (unread_refusal name revision fault) (λ refusal. returned_from name revision given tree db ≡ refused refusal)
unread_refused view name revision faults.NoBackup given tree db is = ap (λ (r : Result (Object × List FileBytes) RestoreError). returned_from name revision r tree db) is
unread_refused view name revision (faults.TooLarge what limit) given tree db is = ap (λ (r : Result (Object × List FileBytes) RestoreError). returned_from name revision r tree db) is
unread_refused view name revision (faults.BadFrame at) given tree db is = ap (λ (r : Result (Object × List FileBytes) RestoreError). returned_from name revision r tree db) is
unread_refused view name revision faults.FrameEntry given tree db is = ap (λ (r : Result (Object × List FileBytes) RestoreError). returned_from name revision r tree db) is
unread_refused view name revision faults.HostFault given tree db is = tt
unread_refused view name revision faults.NoMemory given tree db is = tt

-- a text that was made is one line where it is
pub ok_line : {V E : Type 0} (bytes : V → List ℕ) (made : Result V E) (text : List ℕ) → IfOk made (λ v. bytes v ≡ text) → IsLine text → IfOk made (λ v. IsLine (bytes v))
ok_line bytes (Ok v) text is line = subst IsLine (sym is) line
ok_line bytes (Err e) text is line = tt
