-- Parts that write and erase backups, one after another.
use Rattle.std.proofs.Common.{◌≡◌, ◌<◌, ◌+◌, ℕ, List, [], ◌∷◌, ◌++◌, length, map, take, drop, get_or, Option, Some, None, Result, Ok, Err, refl, sym, ap, subst, ◌∙◌, append_assoc}
use Rattle.std.specs.List.{flat_map, AllByRecursion, IsDistinct}
use Rattle.std.proofs.lemmas.List.{map-append, take_more, append-nil}
use Rattle.std.proofs.lemmas.List.Concat.{flat_map-append}
use Rattle.tl_model.specs.Volume.{Name, Volume, same_name}
use Rattle.tl_entry.specs.declared.object.Object.{Object}
use Rattle.tl_tree.specs.Conditions.{spoken_paths}
use Rattle.tl_tree.specs.declared.change.Part.{Part}
use Rattle.tl_tree.specs.declared.change.Part.TheVariants.{Put, Remove, Entry, Write, Erase, Stream, Later}
use Rattle.tl_tree.proofs.Distinct.{once-nil}
use Rattle.tl_backup.specs.Autobackup.{backups_of, erasing, gone_of, pruning, revision_at, with_part, with_parts}
use Rattle.tl_backup.specs.Files.{backup_at}
use Rattle.tl_backup.specs.Form.{AreAt, AreOfBackups, IsOfBackups, backup_by, installed}
use Rattle.tl_backup.specs.Frames.{package_backup}
use Rattle.tl_backup.specs.Ordered.{AreDifferent}
use Rattle.tl_backup.specs.declared.names.Backup.{Backup}
use Rattle.tl_backup.specs.declared.error.BackupError.{BackupError}
use Rattle.tl_backup.proofs.Apart.{added_apart, paths_apart, written_apart}
use Rattle.tl_backup.proofs.Making.{drop_one}
use Rattle.tl_backup.proofs.PathLaws.{path-at}

-- ---- lists of parts and of their backups

pub at-append : (parts more : List Part) (backups others : List Backup) → AreAt parts backups → AreAt more others → AreAt (parts ++ more) (backups ++ others)
at-append parts more backups others far near =
    map-append backup_by parts more ∙ ap (λ (l : List (Option Backup)). l ++ map backup_by more) far
    ∙ ap (λ (l : List (Option Backup)). map (λ (b : Backup). Some b) backups ++ l) near ∙ sym (map-append (λ (b : Backup). Some b) backups others)

-- one more backup that goes
pub erased_step : (gone : List Backup) (i : ℕ) (backup : Backup) (part : Part) (start before after : List Part) → i < length gone → backup ≡ get_or gone i backup → part ≡ erasing backup → backup_by part ≡ Some backup
    → before ≡ start ++ map erasing (take i gone) → AreAt (map erasing (take i gone)) (take i gone) → after ≡ before ++ part ∷ []
    → (after ≡ start ++ map erasing (take (i + 1) gone)) × AreAt (map erasing (take (i + 1) gone)) (take (i + 1) gone)
erased_step gone i backup part start before after lt at is named far are pushed =
    let more : take i gone ++ backup ∷ [] ≡ take (i + 1) gone = ap (λ (b : Backup). take i gone ++ b ∷ []) at ∙ sym (take_more gone i backup lt) in
    let joined : map erasing (take i gone) ++ part ∷ [] ≡ map erasing (take i gone ++ backup ∷ []) =
    ap (λ (p : Part). map erasing (take i gone) ++ p ∷ []) is ∙ sym (map-append erasing (take i gone) (backup ∷ [])) in
    let here : AreAt (map erasing (take i gone ++ backup ∷ [])) (take i gone ++ backup ∷ []) =
    subst (λ (ps : List Part). AreAt ps (take i gone ++ backup ∷ [])) joined
    (at-append (map erasing (take i gone)) (part ∷ []) (take i gone) (backup ∷ []) are (ap (λ (o : Option Backup). o ∷ []) named)) in (
      pushed ∙ ap (λ (l : List Part). l ++ part ∷ []) far ∙ append_assoc start (map erasing (take i gone)) (part ∷ [])
          ∙ ap (λ (l : List Part). start ++ l) joined ∙ ap (λ (l : List Backup). start ++ map erasing l) more,
      subst (λ (l : List Backup). AreAt (map erasing l) l) more here,
    )

flat_more : {A : Type 0} (f : Name → List A) (names : List Name) (i : ℕ) (name : Name) → i < length names → name ≡ get_or names i name → flat_map f (take i names) ++ f name ≡ flat_map f (take (i + 1) names)
flat_more f names i name lt is =
    ap (λ (l : List _). flat_map f (take i names) ++ l) (sym (append-nil (f name))) ∙ sym (flat_map-append f (take i names) (name ∷ []))
    ∙ ap (λ (n : Name). flat_map f (take i names ++ n ∷ [])) is ∙ ap (flat_map f) (sym (take_more names i name lt))

-- what goes for one more package
pub pruned_step : (keep : ℕ) (names : List Name) (db : List Object) (backups : List Backup) (i : ℕ) (name : Name) (before after : List Part) → i < length names → name ≡ get_or names i name
    → before ≡ pruning keep (take i names) db backups → AreAt before (flat_map (gone_of keep db backups) (take i names))
    → after ≡ before ++ map erasing (gone_of keep db backups name) → AreAt (map erasing (gone_of keep db backups name)) (gone_of keep db backups name)
    → (after ≡ pruning keep (take (i + 1) names) db backups) × AreAt after (flat_map (gone_of keep db backups) (take (i + 1) names))
pruned_step keep names db backups i name before after lt is far are pushed named =
    let gone : Name → List Backup = gone_of keep db backups in (
      pushed ∙ ap (λ (l : List Part). l ++ map erasing (gone name)) far ∙ flat_more (λ n. map erasing (gone n)) names i name lt is,
      subst (λ (ps : List Part). AreAt ps (flat_map gone (take (i + 1) names))) (sym pushed)
          (subst (λ (l : List Backup). AreAt (before ++ map erasing (gone name)) l) (flat_more gone names i name lt is)
          (at-append before (map erasing (gone name)) (flat_map gone (take i names)) (gone name) are named)),
    )

-- ---- backups, one after another

pub with-none : (made : Result (List Part) BackupError) → with_parts (Ok []) made ≡ made
with-none (Ok parts) = refl
with-none (Err fault) = refl

append_one : (parts : List Part) (part : Part) (others : List Part) → parts ++ part ∷ others ≡ (parts ++ part ∷ []) ++ others
append_one parts part others = sym (append_assoc parts (part ∷ []) others)

with-one : (parts : List Part) (part : Part) (made : Result (List Part) BackupError) → with_parts (Ok parts) (with_part (Ok part) made) ≡ with_parts (Ok (parts ++ part ∷ [])) made
with-one parts part (Ok others) = ap Ok (append_one parts part others)
with-one parts part (Err fault) = refl

module _ (names : List Name) (db : List Object) (tree : Volume) (parts : List Part) (i : ℕ) (name : Name) (lt : i < length names) (is : name ≡ get_or names i name)
    (far : backups_of names db tree ≡ with_parts (Ok parts) (backups_of (drop i names) db tree)) where
  here : backups_of (drop i names) db tree ≡ with_part (package_backup name db tree) (backups_of (drop (i + 1) names) db tree)
  here = ap (λ (l : List Name). backups_of l db tree) (drop_one names i name lt) ∙ ap (λ (n : Name). with_part (package_backup n db tree) (backups_of (drop (i + 1) names) db tree)) (sym is)

  -- one more package is backed up
  pub backed_step : (part : Part) → package_backup name db tree ≡ Ok part → backups_of names db tree ≡ with_parts (Ok (parts ++ part ∷ [])) (backups_of (drop (i + 1) names) db tree)
  backed_step part made =
      far ∙ ap (with_parts (Ok parts)) (here ∙ ap (λ (r : Result Part BackupError). with_part r (backups_of (drop (i + 1) names) db tree)) made)
      ∙ with-one parts part (backups_of (drop (i + 1) names) db tree)

  -- one that isn't is the fault of all
  pub backed_fault : (fault : BackupError) → package_backup name db tree ≡ Err fault → backups_of names db tree ≡ Err fault
  backed_fault fault made = far ∙ ap (with_parts (Ok parts)) (here ∙ ap (λ (r : Result Part BackupError). with_part r (backups_of (drop (i + 1) names) db tree)) made)

pub backed_named : (revision : Name → ℕ) (names : List Name) (parts after : List Part) (i : ℕ) (name : Name) (part : Part) → i < length names → name ≡ get_or names i name → AreAt parts (map (installed revision) (take i names))
    → backup_by part ≡ Some (installed revision name) → after ≡ parts ++ part ∷ [] → AreAt after (map (installed revision) (take (i + 1) names))
backed_named revision names parts after i name part lt is are named pushed =
    subst (λ (ps : List Part). AreAt ps (map (installed revision) (take (i + 1) names))) (sym pushed)
    (subst (λ (l : List Backup). AreAt (parts ++ part ∷ []) l)
    (sym (map-append (installed revision) (take i names) (name ∷ [])) ∙ ap (λ (n : Name). map (installed revision) (take i names ++ n ∷ [])) is ∙ ap (map (installed revision)) (sym (take_more names i name lt)))
    (at-append parts (part ∷ []) (map (installed revision) (take i names)) (installed revision name ∷ []) are (ap (λ (o : Option Backup). o ∷ []) named)))

-- ---- parts of which no two are of one backup

module _ {A : Type 0} where
  heads : (x y : A) (xs ys : List A) → x ∷ xs ≡ y ∷ ys → (x ≡ y) × (xs ≡ ys)
  heads x y xs ys is = (cc, cc)

record AreFound (parts : List Part) (backups : List Backup) : Type 0 where
  each : AllByRecursion IsOfBackups parts
  paths : map backup_at (spoken_paths parts) ≡ map (λ (b : Backup). Some b) backups

none_at : {G : Type 0} (backup : Backup) → None ≡ Some backup → G
none_at backup is = absurd (cc)

found : (parts : List Part) (backups : List Backup) → AreAt parts backups → AreFound parts backups
found [] [] are = record { each = tt; paths = refl }
found [] (b ∷ backups) are = absurd (cc)
found (part ∷ parts) [] are = absurd (cc)
found (part ∷ parts) (b ∷ backups) are = by part both.0 (found parts backups both.1)
  where
    both : (backup_by part ≡ Some b) × AreAt parts backups
    both = heads (backup_by part) (Some b) (map backup_by parts) (map (λ (b : Backup). Some b) backups) are

    at_path : (path : Name) → backup_at path ≡ Some b → (rest : AreFound parts backups) → map backup_at (path ∷ spoken_paths parts) ≡ map (λ (b : Backup). Some b) (b ∷ backups)
    at_path path is rest = ap (λ (o : Option Backup). o ∷ map backup_at (spoken_paths parts)) is ∙ ap (λ (l : List (Option Backup)). Some b ∷ l) rest.paths

    by : (part : Part) → backup_by part ≡ Some b → AreFound parts backups → AreFound (part ∷ parts) (b ∷ backups)
    by (Put entry files) is rest = none_at b is
    by (Remove name) is rest = none_at b is
    by (Entry entry) is rest = none_at b is
    by (Write path bytes) is rest = record { each = ((_, path-at path b is), rest.each); paths = at_path path is rest }
    by (Erase path) is rest = record { each = ((_, path-at path b is), rest.each); paths = at_path path is rest }
    by (Stream entry) is rest = none_at b is
    by (Later paths) is rest = none_at b is

pub parts_apart : (parts : List Part) (backups : List Backup) → AreAt parts backups → AreDifferent backups → AreOfBackups parts
parts_apart parts backups are apart =
    let all = found parts backups are in
    record { each = all.each; apart = paths_apart (spoken_paths parts) backups all.paths apart }

pub of_none : AreOfBackups []
of_none = record { each = tt; apart = once-nil }

-- the backups of packages
pub of_written : (revision : Name → ℕ) (names : List Name) (parts : List Part) → IsDistinct same_name names → AreAt parts (map (installed revision) names) → AreOfBackups parts
of_written revision names parts once are = parts_apart parts (map (installed revision) names) are (written_apart revision 0 [] names once)

-- and what goes for them
pub of_added : (keep : ℕ) (names : List Name) (db : List Object) (backups : List Backup) (parts gone added : List Part) → IsDistinct same_name names → AreDifferent backups → AreAt parts (map (installed (revision_at db)) names)
    → AreAt gone (flat_map (gone_of keep db backups) names) → added ≡ parts ++ gone → AreOfBackups added
of_added keep names db backups parts gone added once apart are left is =
    subst AreOfBackups (sym is)
    (parts_apart (parts ++ gone) (map (installed (revision_at db)) names ++ flat_map (gone_of keep db backups) names)
    (at-append parts gone (map (installed (revision_at db)) names) (flat_map (gone_of keep db backups) names) are left)
    (added_apart (revision_at db) keep backups names once apart))
