-- What a change speaks of: its paths come once, and are neither in the journal's folder nor of the files that steps make.
use Rattle.std.proofs.Common.{◌≡◌, ℕ, Bool, true, false, cond, ◌||◌, List, [], ◌∷◌, ◌++◌, map, Option, Some, None, refl, sym, ◌∙◌, ap, subst, inl, inr}
use Rattle.std.specs.Prelude.{not, filter, if◌then◌else◌}
use Rattle.std.specs.List.{AllByRecursion, IsDistinct}
use Rattle.std.proofs.lemmas.Bool.{cases_Bool, true≢false, false_from_ne_true}
use Rattle.std.proofs.lemmas.List.{map-append, append-nil}
use Rattle.tl_model.specs.Volume.{Name, same_name, same_name-is, same_name-refl}
use Rattle.tl_file.specs.declared.file.FileBytes.{FileBytes}
use Rattle.tl_path.specs.Reserved.{is_reserved, reserved_paths}
use Rattle.tl_entry.specs.declared.object.Object.{Object}
use Rattle.tl_db.specs.Entries.{entry_of}
use Rattle.tl_tree.specs.declared.change.Part.{Part}
use Rattle.tl_tree.specs.declared.change.Part.TheVariants.{Put, Remove, Entry, Write, Erase, Stream, Later}
use Rattle.tl_tree.specs.Staged.{has_name, AreOutside, FilesOutside}
use Rattle.tl_tree.specs.Changes.{own, own_of, listed, leaving, leaving_by, coming, coming_by, later_by, later, named_bytes, names_of, made, written, has_entries}
use Rattle.tl_tree.specs.Conditions.{spoken_paths, spoken_paths_by, loose_paths, loose_paths_by, file_paths, PutsOwn, IsLoose, IsChange}
use Rattle.tl_tree.proofs.Outside.{reserved_outside}
use Rattle.tl_tree.proofs.Distinct.{AreOnce, IsPart, once-append, once-cross, once-right, part-same, part-nil, part-none, part-flat, names_of-flat, neither_has, all_of, all_left, all_right, has_either, has_right}
use Rattle.tl_tree.proofs.Lookups.{File}

pub names_named : (files : List FileBytes) → names_of (map named_bytes files) ≡ file_paths files
names_named [] = refl
names_named (file ∷ files) = ap (λ (l : List Name). file.path ∷ l) (names_named files)

-- the files that a part brings have paths that it speaks of
pub coming_part : (part : Part) → IsPart (names_of (coming_by part)) (spoken_paths_by part)
coming_part (Put entry files) = subst (λ (l : List Name). IsPart l (file_paths files)) (sym (names_named files)) (part-same (file_paths files))
coming_part (Remove name) = part-nil []
coming_part (Entry entry) = part-nil []
coming_part (Write path bytes) = part-same (path ∷ [])
coming_part (Erase path) = part-nil (path ∷ [])
coming_part (Stream entry) = part-nil (own entry)
coming_part (Later paths) = part-nil paths

-- and so have those whose bytes come later
pub late_part : (part : Part) → IsPart (later_by part) (spoken_paths_by part)
late_part (Put entry files) = part-nil (file_paths files)
late_part (Remove name) = part-nil []
late_part (Entry entry) = part-nil []
late_part (Write path bytes) = part-nil (path ∷ [])
late_part (Erase path) = part-nil (path ∷ [])
late_part (Stream entry) = part-same (own entry)
late_part (Later paths) = part-same paths

pub coming_spoken : (parts : List Part) → IsPart (names_of (coming parts)) (spoken_paths parts)
coming_spoken parts =
    subst (λ (l : List Name). IsPart l (spoken_paths parts)) (sym (names_of-flat coming_by parts)) (part-flat (λ part. names_of (coming_by part)) spoken_paths_by coming_part parts)

pub late_spoken : (parts : List Part) → IsPart (later parts) (spoken_paths parts)
late_spoken parts = part-flat later_by spoken_paths_by late_part parts

-- no file comes with its bytes and later
late_or_now : (part : Part) (name : Name) → has_name name (later_by part) ≡ true → has_name name (names_of (coming_by part)) ≡ false
late_or_now (Put entry files) name here = absurd (cc)
late_or_now (Remove n) name here = absurd (cc)
late_or_now (Entry entry) name here = absurd (cc)
late_or_now (Write path bytes) name here = absurd (cc)
late_or_now (Erase path) name here = absurd (cc)
late_or_now (Stream entry) name here = refl
late_or_now (Later paths) name here = refl

late_apart : (parts : List Part) → AreOnce (spoken_paths parts) → (name : Name) → has_name name (later parts) ≡ true → has_name name (names_of (coming parts)) ≡ false
late_apart [] once name here = absurd (cc)
late_apart (part ∷ parts) once name here =
    ap (λ (l : List Name). has_name name l) (map-append (λ (file : File). file.0) (coming_by part) (coming parts))
    ∙ has_either name (later_by part) (later parts)
    (λ e. neither_has name (names_of (coming_by part)) (names_of (coming parts)) (late_or_now part name e)
    (part-none _ _ (coming_spoken parts) name (once-cross (spoken_paths_by part) (spoken_paths parts) once name ((late_part part).among name e))))
    (λ e. neither_has name (names_of (coming_by part)) (names_of (coming parts))
    (part-none _ _ (coming_part part) name (false_from_ne_true _ (λ both. true≢false (sym ((late_spoken parts).among name e) ∙ once-cross (spoken_paths_by part) (spoken_paths parts) once name both))))
    (late_apart parts (once-right (spoken_paths_by part) (spoken_paths parts) once) name e))
    here

-- ---- paths that aren't reserved

filter_has : (q : Name → Bool) (xs : List Name) (name : Name) → has_name name (filter q xs) ≡ true → q name ≡ true
filter_has q [] name here = absurd (cc)
filter_has q (x ∷ xs) name here = by (q x) refl (filter_has q xs name) here
  where
    by : (b : Bool) → q x ≡ b → (has_name name (filter q xs) ≡ true → q name ≡ true) → has_name name (cond b (x ∷ filter q xs) (filter q xs)) ≡ true → q name ≡ true
    by true is again found = elim (cases_Bool (same_name name x)) [
      | inl e ↦ ap q (same_name-is name x e) ∙ is
      | inr e ↦ again (sym (ap (λ b. b || has_name name (filter q xs)) e) ∙ found)
    ]
    by false is again found = again found

not_true : (b : Bool) → not b ≡ true → b ≡ false
not_true true e = absurd (cc)
not_true false e = refl

-- a file of an entry
pub own_free : (entry : Object) (name : Name) → has_name name (own entry) ≡ true → is_reserved name ≡ false
own_free entry name here = not_true _ (filter_has (λ path. not (is_reserved path)) (listed entry) name here)

made_reserved : (db : List Object) → AllByRecursion (λ (name : Name). is_reserved name ≡ true) (names_of (made db))
unfolding is_reserved reserved_paths
made_reserved db = (refl, (refl, (refl, (refl, (refl, (refl, tt))))))

pub made_once : (db : List Object) → AreOnce (names_of (made db))
unfolding IsDistinct
made_once db = (
  (refl, (refl, (refl, (refl, (refl, tt))))),
  (
    (refl, (refl, (refl, (refl, tt)))),
    (
      (refl, (refl, (refl, tt))),
      (
        (refl, (refl, tt)),
        (
          (refl, tt),
          (tt, tt),
        ),
      ),
    ),
  ),
)

-- a path that isn't reserved is loose
pub free_loose : (name : Name) → is_reserved name ≡ false → IsLoose name
free_loose name free = record {
  outside = reserved_outside name free;
  unmade = false_from_ne_true _ (λ here. true≢false (sym (all_of (λ (n : Name). is_reserved n ≡ true) (names_of (made [])) name (made_reserved []) here) ∙ free));
}

pub own_loose : (entry : Object) (name : Name) → has_name name (own entry) ≡ true → IsLoose name
own_loose entry name here = free_loose name (own_free entry name here)

one_loose : (path name : Name) → IsLoose path → has_name name (path ∷ []) ≡ true → IsLoose name
one_loose path name is here = all_of IsLoose (path ∷ []) name (is, tt) here

no_name : {G : Type 0} → (name : Name) → has_name name [] ≡ true → G
no_name name here = absurd (cc)

-- a path of which a part speaks
part_loose : (part : Part) (name : Name) → PutsOwn part → AllByRecursion IsLoose (loose_paths_by part) → has_name name (spoken_paths_by part) ≡ true → IsLoose name
part_loose (Put entry files) name puts beside here = own_loose entry name (sym (puts name) ∙ here)
part_loose (Remove n) name puts beside here = no_name name here
part_loose (Entry entry) name puts beside here = no_name name here
part_loose (Write path bytes) name puts beside here = one_loose path name beside.0 here
part_loose (Erase path) name puts beside here = one_loose path name beside.0 here
part_loose (Stream entry) name puts beside here = own_loose entry name here
part_loose (Later paths) name puts beside here = all_of IsLoose paths name beside here

all_loose : (parts : List Part) (name : Name) → AllByRecursion PutsOwn parts → AllByRecursion IsLoose (loose_paths parts) → has_name name (spoken_paths parts) ≡ true → IsLoose name
all_loose [] name puts beside here = no_name name here
all_loose (part ∷ parts) name puts beside here =
    has_either name (spoken_paths_by part) (spoken_paths parts)
    (λ e. part_loose part name puts.0 (all_left IsLoose (loose_paths_by part) (loose_paths parts) beside) e)
    (λ e. all_loose parts name puts.1 (all_right IsLoose (loose_paths_by part) (loose_paths parts) beside) e)
    here

-- each path of which a change speaks is loose
pub spoken_loose : (db : List Object) (parts : List Part) (label : List ℕ) → IsChange db parts label → (name : Name) → has_name name (spoken_paths parts) ≡ true → IsLoose name
spoken_loose db parts label is name here = all_loose parts name is.puts is.beside here

-- and so is each name that leaves
own_of_loose : (entry : Option Object) (name : Name) → has_name name (own_of entry) ≡ true → IsLoose name
own_of_loose None name here = no_name name here
own_of_loose (Some entry) name here = own_loose entry name here

leaves_loose : (db : List Object) (part : Part) (name : Name) → AllByRecursion IsLoose (loose_paths_by part) → has_name name (leaving_by db part) ≡ true → IsLoose name
leaves_loose db (Put entry files) name beside here = own_of_loose (entry_of entry.name db) name here
leaves_loose db (Remove n) name beside here = own_of_loose (entry_of n db) name here
leaves_loose db (Entry entry) name beside here = no_name name here
leaves_loose db (Write path bytes) name beside here = no_name name here
leaves_loose db (Erase path) name beside here = one_loose path name beside.0 here
leaves_loose db (Stream entry) name beside here = own_of_loose (entry_of entry.name db) name here
leaves_loose db (Later paths) name beside here = no_name name here

pub leaving_loose : (db : List Object) (parts : List Part) → AllByRecursion IsLoose (loose_paths parts) → (name : Name) → has_name name (leaving db parts) ≡ true → IsLoose name
leaving_loose db [] beside name here = no_name name here
leaving_loose db (part ∷ parts) beside name here =
    has_either name (leaving_by db part) (leaving db parts)
    (λ e. leaves_loose db part name (all_left IsLoose (loose_paths_by part) (loose_paths parts) beside) e)
    (λ e. leaving_loose db parts (all_right IsLoose (loose_paths_by part) (loose_paths parts) beside) name e)
    here

-- ---- what the journal asks

names_outside : (names : List Name) → ((name : Name) → has_name name names ≡ true → IsLoose name) → AreOutside names
names_outside [] each = tt
names_outside (n ∷ names) each =
    ((each n (ap (λ b. b || has_name n names) (same_name-refl n))).outside, names_outside names (λ name here. each name (has_right name (n ∷ []) names here)))

files_outside : (files : List File) → AreOutside (names_of files) → FilesOutside files
files_outside [] all = tt
files_outside (file ∷ files) all = (all.0, files_outside files all.1)

files_append : (xs ys : List File) → FilesOutside xs → FilesOutside ys → FilesOutside (xs ++ ys)
files_append [] ys far near = near
files_append (x ∷ xs) ys far near = (far.0, files_append xs ys far.1 near)

made_if_outside : (b : Bool) (db : List Object) → FilesOutside (if b then made db else [])
made_if_outside true db = (refl, (refl, (refl, (refl, (refl, (refl, tt))))))
made_if_outside false db = tt

module _ (db : List Object) (parts : List Part) (label : List ℕ) (is : IsChange db parts label) where
  pub leaving_outside : AreOutside (leaving db parts)
  leaving_outside = names_outside (leaving db parts) (leaving_loose db parts is.beside)

  pub coming_loose : (name : Name) → has_name name (names_of (coming parts)) ≡ true → IsLoose name
  coming_loose name here = spoken_loose db parts label is name ((coming_spoken parts).among name here)

  pub written_outside : (next : List Object) → FilesOutside (written parts next)
  written_outside next = files_append (coming parts) _ (files_outside (coming parts) (names_outside (names_of (coming parts)) coming_loose)) (made_if_outside (has_entries parts) next)

  -- the files that are written come once
  made_if : (b : Bool) (next : List Object) → AreOnce (names_of (coming parts ++ (if b then made next else [])))
  made_if true next = subst (λ (l : List Name). AreOnce l) (sym (map-append (λ (file : File). file.0) (coming parts) (made next)))
      (once-append (names_of (coming parts)) (names_of (made next)) ((coming_spoken parts).once is.paths) (made_once next) (λ name here. (coming_loose name here).unmade))
  made_if false next = subst (λ (l : List File). AreOnce (names_of l)) (sym (append-nil (coming parts))) ((coming_spoken parts).once is.paths)

  pub written_once : (next : List Object) → AreOnce (names_of (written parts next))
  written_once next = made_if (has_entries parts) next

  -- a name whose bytes come later isn't written before
  pub late_unwritten : (next : List Object) (name : Name) → has_name name (later parts) ≡ true → has_name name (names_of (written parts next)) ≡ false
  late_unwritten next name here = by (has_entries parts)
    where
      apart : has_name name (names_of (coming parts)) ≡ false
      apart = late_apart parts is.paths name here

      by : (b : Bool) → has_name name (names_of (coming parts ++ (if b then made next else []))) ≡ false
      by true = ap (λ (l : List Name). has_name name l) (map-append (λ (file : File). file.0) (coming parts) (made next))
          ∙ neither_has name (names_of (coming parts)) (names_of (made next)) apart (spoken_loose db parts label is name ((late_spoken parts).among name here)).unmade
      by false = ap (λ (l : List File). has_name name (names_of l)) (append-nil (coming parts)) ∙ apart
