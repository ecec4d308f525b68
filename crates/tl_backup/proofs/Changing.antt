-- A change that also writes and erases backups.
use Rattle.std.proofs.Common.{◌≡◌, ◌⊎◌, ◌||◌, Bool, true, false, cond, List, [], ◌∷◌, ◌++◌, drop, refl, sym, ap, subst, ◌∙◌, inl, inr}
use Rattle.std.specs.Prelude.{bytes_eq, codes, filter, not}
use Rattle.std.specs.List.{flat_map, list_any, AllByRecursion, IsDistinct}
use Rattle.std.proofs.lemmas.Bool.{cases_Bool, true≢false, false_from_ne_true, or_from, or_left, or_right}
use Rattle.std.proofs.lemmas.List.{append-nil}
use Rattle.std.proofs.lemmas.List.Concat.{flat_map-append}
use Rattle.std.proofs.lemmas.List.Folds.{list_any-append}
use Rattle.tl_model.specs.Volume.{Name, same_name, same_name-is}
use Rattle.tl_path.specs.Components.{is_below, is_touching}
use Rattle.tl_path.specs.Reserved.{is_reserved, reserved_paths}
use Rattle.tl_path.proofs.Front.{is_below-begins}
use Rattle.tl_entry.specs.declared.object.Object.{Object}
use Rattle.tl_tree.specs.Staged.{has_name}
use Rattle.tl_tree.specs.Changes.{own, listed, entries_after, entries_by, is_entry, has_entries}
use Rattle.tl_tree.specs.Conditions.{IsChange, IsLoose, PutsOwn, has_later, is_later, kept_paths, loose_paths, loose_paths_by, put_by, put_names, spoken_names, spoken_names_by, spoken_paths, spoken_paths_by}
use Rattle.tl_tree.specs.declared.change.Part.{Part}
use Rattle.tl_tree.specs.declared.change.Part.TheVariants.{Put, Remove, Entry, Write, Erase, Stream, Later}
use Rattle.tl_tree.proofs.Distinct.{all_of, once-append}
use Rattle.tl_backup.specs.Form.{AreOfBackups, IsOfBackups}
use Rattle.tl_backup.proofs.Apart.{all_append, all_weaker}

-- a file of backups is reserved
reserved_file : (file : Name) → is_reserved (codes "tlpkg/backups/" ++ file) ≡ true
unfolding is_reserved reserved_paths
reserved_file file =
    let path = codes "tlpkg/backups/" ++ file in
    let folder = codes "tlpkg/backups" in
    or_right (is_touching path (codes "tlpkg/journal")) (list_any (is_touching path) (drop 1 reserved_paths))
    (or_left (is_touching path folder) (list_any (is_touching path) (drop 2 reserved_paths))
    (or_right (bytes_eq path folder) (is_below path folder || is_below folder path) (or_left (is_below path folder) (is_below folder path) (is_below-begins folder path))))

-- so it is none of an entry's files
unowned : (path : Name) → is_reserved path ≡ true → (names : List Name) → has_name path (filter (λ n. not (is_reserved n)) names) ≡ false
unowned path is [] = refl
unowned path is (n ∷ names) = by (cases_Bool (is_reserved n)) (unowned path is names)
  where
    by : (is_reserved n ≡ true) ⊎ (is_reserved n ≡ false) → has_name path (filter (λ n. not (is_reserved n)) names) ≡ false → has_name path (filter (λ n. not (is_reserved n)) (n ∷ names)) ≡ false
    by (inl kept) none = ap (λ t. has_name path (cond (not t) (n ∷ filter (λ n. not (is_reserved n)) names) (filter (λ n. not (is_reserved n)) names))) kept ∙ none
    by (inr free) none =
        let apart : same_name path n ≡ false =
        false_from_ne_true (same_name path n) (λ same. true≢false (sym is ∙ ap is_reserved (same_name-is path n same) ∙ free)) in
        ap (λ t. has_name path (cond (not t) (n ∷ filter (λ n. not (is_reserved n)) names) (filter (λ n. not (is_reserved n)) names))) free
        ∙ or_from (same_name path n) (has_name path (filter (λ n. not (is_reserved n)) names)) apart none

-- nor of those of some entries
unkept : (path : Name) → is_reserved path ≡ true → (stays : Object → Bool) (db : List Object) → has_name path (flat_map own (filter stays db)) ≡ false
unkept path is stays [] = refl
unkept path is stays (o ∷ db) = by (cases_Bool (stays o)) (unkept path is stays db)
  where
    by : (stays o ≡ true) ⊎ (stays o ≡ false) → has_name path (flat_map own (filter stays db)) ≡ false → has_name path (flat_map own (filter stays (o ∷ db))) ≡ false
    by (inl there) none =
        ap (λ t. has_name path (flat_map own (cond t (o ∷ filter stays db) (filter stays db)))) there
        ∙ list_any-append (same_name path) (own o) (flat_map own (filter stays db)) ∙ or_from _ _ (unowned path is (listed o)) none
    by (inr gone) none = ap (λ t. has_name path (flat_map own (cond t (o ∷ filter stays db) (filter stays db)))) gone ∙ none

loose_file : (file : Name) → IsLoose (codes "tlpkg/backups/" ++ file)
loose_file file = record { outside = refl; unmade = refl }

-- ---- what a part that writes or erases a backup does beside

record IsBeside (part : Part) : Type 0 where
  names : spoken_names_by part ≡ []
  puts : put_by part ≡ []
  own_files : PutsOwn part
  entries : (db : List Object) → entries_by part db ≡ db
  entry : is_entry part ≡ false
  later : is_later part ≡ false
  reserved : AllByRecursion (λ path. is_reserved path ≡ true) (spoken_paths_by part)
  loose : AllByRecursion IsLoose (loose_paths_by part)

beside : (part : Part) → IsOfBackups part → IsBeside part
beside (Put entry files) is = absurd is
beside (Remove name) is = absurd is
beside (Entry entry) is = absurd is
beside (Write path bytes) is = record {
  names = refl;
  puts = refl;
  own_files = tt;
  entries = λ db. refl;
  entry = refl;
  later = refl;
  reserved = (ap is_reserved is.1 ∙ reserved_file is.0, tt);
  loose = (subst IsLoose (sym is.1) (loose_file is.0), tt);
}
beside (Erase path) is = record {
  names = refl;
  puts = refl;
  own_files = tt;
  entries = λ db. refl;
  entry = refl;
  later = refl;
  reserved = (ap is_reserved is.1 ∙ reserved_file is.0, tt);
  loose = (subst IsLoose (sym is.1) (loose_file is.0), tt);
}
beside (Stream entry) is = absurd is
beside (Later paths) is = absurd is

-- ---- several of them

none_flat : (f : Part → List Name) → ((part : Part) → IsOfBackups part → f part ≡ []) → (added : List Part) → AllByRecursion IsOfBackups added → flat_map f added ≡ []
none_flat f none [] all = refl
none_flat f none (part ∷ added) all = ap (λ (l : List Name). l ++ flat_map f added) (none part all.0) ∙ none_flat f none added all.1

none_any : (p : Part → Bool) → ((part : Part) → IsOfBackups part → p part ≡ false) → (added : List Part) → AllByRecursion IsOfBackups added → list_any p added ≡ false
none_any p none [] all = refl
none_any p none (part ∷ added) all = ap (λ b. b || list_any p added) (none part all.0) ∙ none_any p none added all.1

flat_all : (P : Name → Type 0) (f : Part → List Name) → ((part : Part) → IsOfBackups part → AllByRecursion P (f part)) → (added : List Part) → AllByRecursion IsOfBackups added → AllByRecursion P (flat_map f added)
flat_all P f each [] all = tt
flat_all P f each (part ∷ added) all = all_append P (f part) (flat_map f added) (each part all.0) (flat_all P f each added all.1)

entries_same : (added : List Part) (db : List Object) → AllByRecursion IsOfBackups added → entries_after added db ≡ db
entries_same [] db all = refl
entries_same (part ∷ added) db all = ap (entries_after added) ((beside part all.0).entries db) ∙ entries_same added db all.1

pub entries-append : (parts added : List Part) (db : List Object) → entries_after (parts ++ added) db ≡ entries_after added (entries_after parts db)
entries-append [] added db = refl
entries-append (part ∷ parts) added db = entries-append parts added (entries_by part db)

or_none : (b c : Bool) → c ≡ false → (b || c) ≡ b
or_none true c is = refl
or_none false c is = is

-- they leave the entries as they are
pub added_entries : (parts added : List Part) (db : List Object) → AllByRecursion IsOfBackups added → entries_after (parts ++ added) db ≡ entries_after parts db
added_entries parts added db all = entries-append parts added db ∙ entries_same added (entries_after parts db) all

-- and speak of none
pub added_speaks : (parts added : List Part) → AllByRecursion IsOfBackups added → has_entries (parts ++ added) ≡ has_entries parts
added_speaks parts added all =
    list_any-append is_entry parts added ∙ or_none (has_entries parts) (has_entries added) (none_any is_entry (λ part is. (beside part is).entry) added all)

-- all their bytes are there
pub added_later : (parts added : List Part) → AllByRecursion IsOfBackups added → has_later parts ≡ false → has_later (parts ++ added) ≡ false
added_later parts added all none =
    list_any-append is_later parts added ∙ or_from (has_later parts) (has_later added) none (none_any is_later (λ part is. (beside part is).later) added all)

added_names : (parts added : List Part) → AllByRecursion IsOfBackups added → spoken_names (parts ++ added) ≡ spoken_names parts
added_names parts added all =
    flat_map-append spoken_names_by parts added ∙ ap (λ (l : List Name). spoken_names parts ++ l) (none_flat spoken_names_by (λ part is. (beside part is).names) added all) ∙ append-nil (spoken_names parts)

added_puts : (parts added : List Part) → AllByRecursion IsOfBackups added → put_names (parts ++ added) ≡ put_names parts
added_puts parts added all =
    flat_map-append put_by parts added ∙ ap (λ (l : List Name). put_names parts ++ l) (none_flat put_by (λ part is. (beside part is).puts) added all) ∙ append-nil (put_names parts)

added_kept : (db : List Object) (parts added : List Part) → AllByRecursion IsOfBackups added → kept_paths db (parts ++ added) ≡ kept_paths db parts
added_kept db parts added all =
    ap (λ (names : List Name). flat_map own (filter (λ (o : Object). not (has_name o.name names)) (entries_after (parts ++ added) db))) (added_puts parts added all)
    ∙ ap (λ (entries : List Object). flat_map own (filter (λ (o : Object). not (has_name o.name (put_names parts))) entries)) (added_entries parts added db all)

-- a change with such parts behind its own, which bring and erase no reserved path, is a change
pub change-added : (db : List Object) (parts added : List Part) (label : Name) → IsChange db parts label → AllByRecursion (λ path. is_reserved path ≡ false) (spoken_paths parts) → AreOfBackups added
    → IsChange db (parts ++ added) label
change-added db parts added label change free backups =
    let all = backups.each in
    let reserved : AllByRecursion (λ path. is_reserved path ≡ true) (spoken_paths added) = flat_all (λ path. is_reserved path ≡ true) spoken_paths_by (λ part is. (beside part is).reserved) added all in
    let paths : spoken_paths (parts ++ added) ≡ spoken_paths parts ++ spoken_paths added = flat_map-append spoken_paths_by parts added in
    let loose : loose_paths (parts ++ added) ≡ loose_paths parts ++ loose_paths added = flat_map-append loose_paths_by parts added in
    let kept = added_kept db parts added all in record {
      names = subst (IsDistinct same_name) (sym (added_names parts added all)) change.names;
      paths = subst (IsDistinct same_name) (sym paths) (once-append (spoken_paths parts) (spoken_paths added) change.paths backups.apart
          (λ name here. false_from_ne_true (has_name name (spoken_paths added)) (λ there.
          true≢false (sym (all_of (λ path. is_reserved path ≡ true) (spoken_paths added) name reserved there) ∙ all_of (λ path. is_reserved path ≡ false) (spoken_paths parts) name free here))));
      puts = all_append PutsOwn parts added change.puts (all_weaker IsOfBackups PutsOwn (λ part is. (beside part is).own_files) added all);
      keeps = subst (λ (ps : List Name). AllByRecursion (λ path. has_name path (kept_paths db (parts ++ added)) ≡ false) ps) (sym paths)
          (subst (λ (files : List Name). AllByRecursion (λ path. has_name path files ≡ false) (spoken_paths parts ++ spoken_paths added)) (sym kept)
          (all_append (λ path. has_name path (kept_paths db parts) ≡ false) (spoken_paths parts) (spoken_paths added) change.keeps
          (all_weaker (λ path. is_reserved path ≡ true) (λ path. has_name path (kept_paths db parts) ≡ false)
          (λ path is. unkept path is (λ (o : Object). not (has_name o.name (put_names parts))) (entries_after parts db)) (spoken_paths added) reserved)));
      beside = subst (AllByRecursion IsLoose) (sym loose) (all_append IsLoose (loose_paths parts) (loose_paths added) change.beside (flat_all IsLoose loose_paths_by (λ part is. (beside part is).loose) added all));
      label = change.label;
    }
