-- An entry that comes back with its own files is a change of a tree.
use Rattle.std.proofs.Common.{◌≡◌, ◌==◌, ℕ, Bool, true, false, cond, not, ◌||◌, ◌&&◌, List, [], ◌∷◌, ◌++◌, map, Option, Some, None, refl, sym, ap, subst, ◌∙◌, inl, inr}
use Rattle.std.specs.Prelude.{filter}
use Rattle.std.specs.List.{list_any, flat_map, AllByRecursion}
use Rattle.std.specs.Option.{option_or}
use Rattle.std.specs.Cmp.Lexicographic.{pointwise, same_text}
use Rattle.std.specs.Str.{bytes_eq}
use Rattle.std.proofs.lemmas.Bool.{and_parts, cases_Bool, eqb-true, false_from_ne_true, or_parts, or_right, true≢false}
use Rattle.std.proofs.lemmas.List.{append-nil}
use Rattle.tl_model.specs.Acks.{IsLabel}
use Rattle.tl_model.specs.Volume.{Name, same_name, same_name-is, same_name-refl}
use Rattle.tl_path.specs.Components.{is_touching}
use Rattle.tl_path.specs.Reserved.{is_reserved}
use Rattle.tl_file.specs.declared.file.FileBytes.{FileBytes}
use Rattle.tl_entry.specs.FilePaths.{listed_paths, rising_of}
use Rattle.tl_entry.specs.Rising.{comes_before, has_key, insert_by, is_rising, is_rising_after}
use Rattle.tl_entry.specs.declared.object.Object.{Object}
use Rattle.tl_entry.proofs.SetLemmas.{has-rising_of, none_again, rising-rising_of}
use Rattle.tl_db.specs.Entries.{others}
use Rattle.tl_tree.specs.Changes.{listed, own}
use Rattle.tl_tree.specs.Conditions.{IsChange, file_paths, has_later, kept_paths}
use Rattle.tl_tree.specs.Staged.{has_name}
use Rattle.tl_tree.specs.declared.change.Part.{Part}
use Rattle.tl_tree.specs.declared.change.Part.TheVariants.{Put}
use Rattle.tl_tree.proofs.Distinct.{AreOnce, IsPart, has_left, neither_has, once-cons, once-nil, part-append, part-nil, part-same}
use Rattle.tl_touch.proofs.Touching.{among_either}
use Rattle.tl_backup.specs.Frames.{own_paths}
use Rattle.tl_coming.specs.Refused.{first_of, owned_at, owned_path, owns_outside, reserved_path}
use Rattle.tl_coming.specs.declared.error.ComingError.{ComingError}
use Rattle.tl_coming.specs.declared.error.ComingError.TheVariants.{Owned}
use Rattle.tl_coming.proofs.ClashLaws.{same_listed}
use Rattle.tl_coming.proofs.OnceLaws.{none_owned, same_among, touches_name, unfound}
use Rattle.tl_restore.specs.Restored.{is_of}
use Rattle.tl_restore.specs.Restoring.{paths_fault}

-- ---- what the test of an entry and its files tells

same_texts : (xs ys : List Name) → pointwise bytes_eq xs ys ≡ true → xs ≡ ys
same_texts [] [] is = refl
same_texts [] (y ∷ ys) is = absurd (true≢false (sym is))
same_texts (x ∷ xs) [] is = absurd (true≢false (sym is))
same_texts (x ∷ xs) (y ∷ ys) is =
    let both = and_parts (bytes_eq x y) (pointwise bytes_eq xs ys) is in
    ap (λ (n : Name). n ∷ xs) (same_text x y (sym both.0)) ∙ ap (λ (l : List Name). y ∷ l) (same_texts xs ys both.1)

-- an entry is a package's at a revision, and these are its own files
pub record IsBack (name : Name) (at : ℕ) (files : List FileBytes) (entry : Object) : Type 0 where
  pub named : entry.name ≡ name
  pub dated : entry.revision ≡ at
  pub own_files : file_paths files ≡ own_paths entry

pub back_of : (name : Name) (at : ℕ) (files : List FileBytes) (entry : Object) → is_of name at files entry ≡ true → IsBack name at files entry
back_of name at files entry is =
    let paths : List Name = map (λ (file : FileBytes). file.path) files in
    let first = and_parts (bytes_eq entry.name name) ((entry.revision == at) && pointwise bytes_eq paths (own_paths entry)) is in
    let second = and_parts (entry.revision == at) (pointwise bytes_eq paths (own_paths entry)) first.1 in
    record {
      named = same_text entry.name name (sym first.0);
      dated = eqb-true entry.revision at second.0;
      own_files = same_texts paths (own_paths entry) second.1;
    }

-- ---- the files of an entry, in order and as it lists them

same_key : (name : Name) (all : List Name) → has_key (λ n. n) name all ≡ has_name name all
same_key name all = sym (among_either name all) ∙ same_among name all

rising_tail : (first : Name) (names : List Name) → is_rising_after (λ (n : Name). n) first names ≡ true → is_rising (λ (n : Name). n) names ≡ true
rising_tail first [] up = refl
rising_tail first (n ∷ names) up = (and_parts (comes_before first n) (is_rising_after (λ (n : Name). n) n names) up).1

rising_once : (names : List Name) → is_rising (λ (n : Name). n) names ≡ true → AreOnce names
rising_once [] up = once-nil
rising_once (n ∷ names) up = once-cons n names (sym (same_key n names) ∙ none_again n names up) (rising_once names (rising_tail n names up))

filter_part : (q : Name → Bool) (xs : List Name) → IsPart (filter q xs) xs
filter_part q [] = part-nil []
filter_part q (x ∷ xs) = by (q x) (filter_part q xs)
  where
    by : (t : Bool) → IsPart (filter q xs) xs → IsPart (cond t (x ∷ filter q xs) (filter q xs)) (x ∷ xs)
    by true rest = part-append (x ∷ []) (filter q xs) (x ∷ []) xs (part-same (x ∷ [])) rest
    by false rest = part-append [] (filter q xs) (x ∷ []) xs (part-nil (x ∷ [])) rest

and_false : (b : Bool) → (b && false) ≡ false
and_false true = refl
and_false false = refl

-- what passes a test has a name where the name passes, and all has it
has_filter : (q : Name → Bool) (name : Name) (xs : List Name) → has_name name (filter q xs) ≡ (q name && has_name name xs)
has_filter q name [] = sym (and_false (q name))
has_filter q name (x ∷ xs) = by (q x) refl (has_filter q name xs)
  where
    by : (t : Bool) → q x ≡ t → has_name name (filter q xs) ≡ (q name && has_name name xs)
        → has_name name (cond t (x ∷ filter q xs) (filter q xs)) ≡ (q name && (same_name name x || has_name name xs))
    by true is rest = elim (cases_Bool (same_name name x)) [
      | inl same ↦
          let passes : q name ≡ true = ap q (same_name-is name x same) ∙ is in
          ap (λ t. t || has_name name (filter q xs)) same ∙ sym (ap (λ t. t && (same_name name x || has_name name xs)) passes ∙ ap (λ t. t || has_name name xs) same)
      | inr apart ↦ ap (λ t. t || has_name name (filter q xs)) apart ∙ rest ∙ ap (λ t. q name && (t || has_name name xs)) (sym apart)
    ]
    by false is rest = elim (cases_Bool (same_name name x)) [
      | inl same ↦
          let fails : q name ≡ false = ap q (same_name-is name x same) ∙ is in
          rest ∙ ap (λ t. t && has_name name xs) fails ∙ sym (ap (λ t. t && (same_name name x || has_name name xs)) fails)
      | inr apart ↦ rest ∙ ap (λ t. q name && (t || has_name name xs)) (sym apart)
    ]

abbrev is_free : Name → Bool
is_free path = not (is_reserved path)

-- the files of an entry in order are its files
same_own : (entry : Object) (name : Name) → has_name name (own_paths entry) ≡ has_name name (own entry)
same_own entry name =
    has_filter is_free name (rising_of (listed_paths entry))
    ∙ ap (λ t. is_free name && t) (sym (same_key name (rising_of (listed_paths entry))) ∙ has-rising_of name (listed_paths entry) ∙ same_key name (listed_paths entry)
    ∙ ap (has_name name) (same_listed entry))
    ∙ sym (has_filter is_free name (listed entry))

own_once : (entry : Object) → AreOnce (own_paths entry)
own_once entry = (filter_part is_free (rising_of (listed_paths entry))).once (rising_once (rising_of (listed_paths entry)) (rising-rising_of (listed_paths entry)))

-- a file of an entry is listed
own_listed : (entry : Object) (name : Name) → has_name name (own_paths entry) ≡ true → has_name name (listed_paths entry) ≡ true
own_listed entry name has =
    ap (has_name name) (same_listed entry) ∙ (filter_part is_free (listed entry)).among name (sym (same_own entry name) ∙ has)

-- ---- the files that stay

neither_fault : (some other : Option ComingError) → option_or some other ≡ None → (some ≡ None) × (other ≡ None)
neither_fault None other none = (refl, none)
neither_fault (Some fault) other none = absurd (cc)

-- where no package outside owns what comes back, no file of it is owned
unowned : (db : List Object) (entry : Object) → paths_fault db entry ≡ None → (path : Name) → has_name path (own_paths entry) ≡ true → owned_at db (entry.name ∷ []) path ≡ None
unowned db entry none path has =
    none_owned db (entry.name ∷ []) (entry ∷ []) (neither_fault (first_of reserved_path (entry ∷ [])) (first_of (owned_path db (entry.name ∷ [])) (entry ∷ [])) none).1 path
    (has_left path (listed_paths entry) [] (own_listed entry path has))

module _ (entry : Object) (path : Name) where
  -- an entry of another name doesn't have the path
  abbrev IsClear : Object → Type 0
  IsClear o = has_name o.name (entry.name ∷ []) ≡ false → has_name path (own o) ≡ false

  clear_one : (o : Object) → owns_outside (entry.name ∷ []) path o ≡ false → IsClear o
  clear_one o off apart = false_from_ne_true _ (λ has. true≢false
      (sym (ap (λ t. not t && list_any (is_touching path) (own o)) (same_among o.name (entry.name ∷ []) ∙ apart) ∙ touches_name path (own o) has) ∙ off))

  clear_all : (db : List Object) → list_any (owns_outside (entry.name ∷ []) path) db ≡ false → AllByRecursion IsClear db
  clear_all [] none = tt
  clear_all (o ∷ db) none =
      let both = or_parts (owns_outside (entry.name ∷ []) path o) (list_any (owns_outside (entry.name ∷ []) path) db) none in
      (clear_one o both.0, clear_all db both.1)

  clear_others : (db : List Object) → AllByRecursion IsClear db → AllByRecursion IsClear (others entry.name db)
  clear_others [] all = tt
  clear_others (o ∷ db) all = by (same_name o.name entry.name) (clear_others db all.1)
    where
      by : (t : Bool) → AllByRecursion IsClear (others entry.name db) → AllByRecursion IsClear (cond (not t) (o ∷ others entry.name db) (others entry.name db))
      by true rest = rest
      by false rest = (all.0, rest)

  clear_itself : IsClear entry
  clear_itself apart = absurd (true≢false (sym (ap (λ t. t || false) (same_name-refl entry.name)) ∙ apart))

  clear_with : (db : List Object) → AllByRecursion IsClear db → AllByRecursion IsClear (insert_by (λ (o : Object). o.name) entry db)
  clear_with [] all = (clear_itself, tt)
  clear_with (o ∷ db) all = by (comes_before entry.name o.name) (clear_with db all.1)
    where
      by : (t : Bool) → AllByRecursion IsClear (insert_by (λ (o : Object). o.name) entry db)
          → AllByRecursion IsClear (cond t (entry ∷ o ∷ db) (o ∷ insert_by (λ (o : Object). o.name) entry db))
      by true rest = (clear_itself, all)
      by false rest = (all.0, rest)

  none_kept : (os : List Object) → AllByRecursion IsClear os → has_name path (flat_map own (filter (λ (o : Object). not (has_name o.name (entry.name ∷ []))) os)) ≡ false
  none_kept [] all = refl
  none_kept (o ∷ os) all = by (has_name o.name (entry.name ∷ [])) refl (none_kept os all.1)
    where
      by : (t : Bool) → has_name o.name (entry.name ∷ []) ≡ t → has_name path (flat_map own (filter (λ (o : Object). not (has_name o.name (entry.name ∷ []))) os)) ≡ false
          → has_name path (flat_map own (cond (not t) (o ∷ filter (λ (o : Object). not (has_name o.name (entry.name ∷ []))) os) (filter (λ (o : Object). not (has_name o.name (entry.name ∷ []))) os))) ≡ false
      by true is rest = rest
      by false is rest = neither_has path (own o) (flat_map own (filter (λ (o : Object). not (has_name o.name (entry.name ∷ []))) os)) (all.0 is) rest

stays : (db : List Object) (entry : Object) (files : List FileBytes) → paths_fault db entry ≡ None → (path : Name) → has_name path (own_paths entry) ≡ true
    → has_name path (kept_paths db (Put entry files ∷ [])) ≡ false
stays db entry files none path has =
    none_kept entry path (insert_by (λ (o : Object). o.name) entry (others entry.name db)) (clear_with entry path (others entry.name db) (clear_others entry path db (clear_all entry path db
    (unfound (owns_outside (entry.name ∷ []) path) (λ (o : Object). Owned path o.name) db (unowned db entry none path has)))))

-- ---- the change

all_from : (P : Name → Type 0) (paths : List Name) → ((path : Name) → has_name path paths ≡ true → P path) → AllByRecursion P paths
all_from P [] each = tt
all_from P (path ∷ paths) each =
    (each path (ap (λ t. t || has_name path paths) (same_name-refl path)), all_from P paths (λ other has. each other (or_right (same_name other path) (has_name other paths) has)))

putting : (db : List Object) (entry : Object) (files : List FileBytes) (label : List ℕ) → file_paths files ≡ own_paths entry → paths_fault db entry ≡ None → IsLabel label
    → IsChange db (Put entry files ∷ []) label
putting db entry files label is none labelled =
    let spoken : file_paths files ++ [] ≡ own_paths entry = append-nil (file_paths files) ∙ is in
    record {
      names = once-cons entry.name [] refl once-nil;
      paths = subst AreOnce (sym spoken) (own_once entry);
      puts = ((λ name. ap (has_name name) is ∙ same_own entry name), tt);
      keeps = subst (λ (l : List Name). AllByRecursion (λ path. has_name path (kept_paths db (Put entry files ∷ [])) ≡ false) l) (sym spoken)
          (all_from (λ path. has_name path (kept_paths db (Put entry files ∷ [])) ≡ false) (own_paths entry) (stays db entry files none));
      beside = tt;
      label = labelled;
    }

-- the part that brings an entry back with its own files is a change
pub change-back : (db : List Object) (name : Name) (at : ℕ) (entry : Object) (files : List FileBytes) (parts : List Part) (label : List ℕ) → is_of name at files entry ≡ true → paths_fault db entry ≡ None
    → parts ≡ Put entry files ∷ [] → IsLabel label → IsChange db parts label
change-back db name at entry files parts label of none is labelled =
    subst (λ (ps : List Part). IsChange db ps label) (sym is) (putting db entry files label (back_of name at files entry of).own_files none labelled)

pub back-whole : (entry : Object) (files : List FileBytes) (parts : List Part) → parts ≡ Put entry files ∷ [] → has_later parts ≡ false
back-whole entry files parts is = ap has_later is
