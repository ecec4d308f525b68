-- A change with the files that were given for it says what the change says.
use Rattle.std.proofs.Common.{◌≡◌, ℕ, Bool, true, false, ◌||◌, List, [], ◌∷◌, ◌++◌, map, Option, Some, None, refl, sym, ◌∙◌, ap, subst, inl, inr}
use Rattle.std.specs.Prelude.{not, filter}
use Rattle.std.specs.Option.{option_or, unwrap_or}
use Rattle.std.specs.List.{flat_map, list_any, AllByRecursion, IsDistinct}
use Rattle.std.proofs.lemmas.Bool.{cases_Bool, true≢false, false_from_ne_true, or_parts}
use Rattle.std.proofs.lemmas.List.{append-nil}
use Rattle.std.proofs.lemmas.List.Concat.{flat_map-append}
use Rattle.std.proofs.lemmas.List.Folds.{list_any-append}
use Rattle.tl_model.specs.Volume.{Name, same_name, same_name-is}
use Rattle.tl_entry.specs.declared.object.Object.{Object}
use Rattle.tl_tree.specs.declared.change.Part.{Part}
use Rattle.tl_tree.specs.declared.change.Part.TheVariants.{Put, Remove, Entry, Write, Erase, Stream, Later}
use Rattle.tl_tree.specs.Staged.{has_name}
use Rattle.tl_tree.specs.Changes.{names_of, own, leaving, leaving_by, entries_by, entries_after, is_entry, has_entries, coming, coming_by, named_bytes, later_by, later}
use Rattle.tl_tree.specs.Conditions.{spoken_names, spoken_names_by, put_names, put_by, spoken_paths, spoken_paths_by, loose_paths, loose_paths_by, file_paths, kept_paths, PutsOwn, IsLoose, IsChange}
use Rattle.tl_tree.specs.Filled.{bytes_under, given_at, write_part, filled_by, filled}
use Rattle.tl_tree.proofs.Distinct.{AreOnce, has_name-append, once-cross, once-right, part-none, part-flat}
use Rattle.tl_tree.proofs.Lookups.{File, under-here, under-next, under-none, under-append, under-first}
use Rattle.tl_tree.proofs.Spoken.{coming_part, late_part}

module _ (files : List File) where
  -- the parts that write some paths
  abbrev writes : List Name → List Part
  writes paths = map (λ path. write_part (given_at files path)) paths

  -- what each part of a change gives is as before, where it is so of the parts that write and of those that put
  flat-filled : {X : Type 0} (f : Part → List X) → ((entry : Object) → f (Put entry (map (given_at files) (own entry))) ≡ f (Stream entry)) → ((paths : List Name) → flat_map f (writes paths) ≡ f (Later paths))
      → (parts : List Part) → flat_map f (filled files parts) ≡ flat_map f parts
  flat-filled f puts lates [] = refl
  flat-filled {X} f puts lates (part ∷ parts) =
      flat_map-append f (filled_by files part) (filled files parts) ∙ ap (λ (l : List X). flat_map f (filled_by files part) ++ l) (flat-filled f puts lates parts) ∙ ap (λ (l : List X). l ++ flat_map f parts) (by part)
    where
      one : (l : List X) → l ++ [] ≡ l
      one [] = refl
      one (x ∷ xs) = ap (λ (l : List X). x ∷ l) (one xs)

      by : (part : Part) → flat_map f (filled_by files part) ≡ f part
      by (Put entry own_files) = one (f (Put entry own_files))
      by (Remove name) = one (f (Remove name))
      by (Entry entry) = one (f (Entry entry))
      by (Write path bytes) = one (f (Write path bytes))
      by (Erase path) = one (f (Erase path))
      by (Stream entry) = one (f (Put entry (map (given_at files) (own entry)))) ∙ puts entry
      by (Later paths) = lates paths

  -- writes that give nothing
  flat-none : {X : Type 0} (f : Part → List X) → ((path : Name) → f (write_part (given_at files path)) ≡ []) → (paths : List Name) → flat_map f (writes paths) ≡ []
  flat-none f none [] = refl
  flat-none {X} f none (path ∷ paths) = ap (λ (l : List X). l ++ flat_map f (writes paths)) (none path) ∙ flat-none f none paths

  -- writes that give their path
  flat-each : (f : Part → List Name) → ((path : Name) → f (write_part (given_at files path)) ≡ path ∷ []) → (paths : List Name) → flat_map f (writes paths) ≡ paths
  flat-each f each [] = refl
  flat-each f each (path ∷ paths) = ap (λ (l : List Name). l ++ flat_map f (writes paths)) (each path) ∙ ap (λ (l : List Name). path ∷ l) (flat-each f each paths)

  paths-given : (names : List Name) → file_paths (map (given_at files) names) ≡ names
  paths-given [] = refl
  paths-given (name ∷ names) = ap (λ (l : List Name). name ∷ l) (paths-given names)

  pub leaving-filled : (db : List Object) (parts : List Part) → leaving db (filled files parts) ≡ leaving db parts
  leaving-filled db parts = flat-filled (leaving_by db) (λ entry. refl) (flat-none (leaving_by db) (λ path. refl)) parts

  pub names-filled : (parts : List Part) → spoken_names (filled files parts) ≡ spoken_names parts
  names-filled parts = flat-filled spoken_names_by (λ entry. refl) (flat-none spoken_names_by (λ path. refl)) parts

  pub put_names-filled : (parts : List Part) → put_names (filled files parts) ≡ put_names parts
  put_names-filled parts = flat-filled put_by (λ entry. refl) (flat-none put_by (λ path. refl)) parts

  pub paths-filled : (parts : List Part) → spoken_paths (filled files parts) ≡ spoken_paths parts
  paths-filled parts = flat-filled spoken_paths_by (λ entry. paths-given (own entry)) (flat-each spoken_paths_by (λ path. refl)) parts

  pub loose-filled : (parts : List Part) → loose_paths (filled files parts) ≡ loose_paths parts
  loose-filled parts = flat-filled loose_paths_by (λ entry. refl) (flat-each loose_paths_by (λ path. refl)) parts

  after-both : (xs ys : List Part) (db : List Object) → entries_after (xs ++ ys) db ≡ entries_after ys (entries_after xs db)
  after-both [] ys db = refl
  after-both (part ∷ xs) ys db = after-both xs ys (entries_by part db)

  after-writes : (paths : List Name) (db : List Object) → entries_after (writes paths) db ≡ db
  after-writes [] db = refl
  after-writes (path ∷ paths) db = after-writes paths db

  pub entries-filled : (parts : List Part) (db : List Object) → entries_after (filled files parts) db ≡ entries_after parts db
  entries-filled [] db = refl
  entries-filled (part ∷ parts) db =
      after-both (filled_by files part) (filled files parts) db ∙ entries-filled parts (entries_after (filled_by files part) db) ∙ ap (λ (os : List Object). entries_after parts os) (by part)
    where
      by : (part : Part) → entries_after (filled_by files part) db ≡ entries_by part db
      by (Put entry own_files) = refl
      by (Remove name) = refl
      by (Entry entry) = refl
      by (Write path bytes) = refl
      by (Erase path) = refl
      by (Stream entry) = refl
      by (Later paths) = after-writes paths db

  no_entry : (paths : List Name) → list_any is_entry (writes paths) ≡ false
  no_entry [] = refl
  no_entry (path ∷ paths) = no_entry paths

  or_no : (b : Bool) → (b || false) ≡ b
  or_no true = refl
  or_no false = refl

  pub has_entries-filled : (parts : List Part) → has_entries (filled files parts) ≡ has_entries parts
  has_entries-filled [] = refl
  has_entries-filled (part ∷ parts) =
      list_any-append is_entry (filled_by files part) (filled files parts) ∙ ap (λ b. list_any is_entry (filled_by files part) || b) (has_entries-filled parts) ∙ ap (λ b. b || has_entries parts) (by part)
    where
      by : (part : Part) → list_any is_entry (filled_by files part) ≡ is_entry part
      by (Put entry own_files) = refl
      by (Remove name) = refl
      by (Entry entry) = refl
      by (Write path bytes) = refl
      by (Erase path) = refl
      by (Stream entry) = refl
      by (Later paths) = no_entry paths

  all_append : (xs ys : List Part) → AllByRecursion PutsOwn xs → AllByRecursion PutsOwn ys → AllByRecursion PutsOwn (xs ++ ys)
  all_append [] ys far near = near
  all_append (x ∷ xs) ys far near = (far.0, all_append xs ys far.1 near)

  writes_own : (paths : List Name) → AllByRecursion PutsOwn (writes paths)
  writes_own [] = tt
  writes_own (path ∷ paths) = (tt, writes_own paths)

  puts-filled : (parts : List Part) → AllByRecursion PutsOwn parts → AllByRecursion PutsOwn (filled files parts)
  puts-filled [] all = tt
  puts-filled (part ∷ parts) all = all_append (filled_by files part) (filled files parts) (by part all.0) (puts-filled parts all.1)
    where
      by : (part : Part) → PutsOwn part → AllByRecursion PutsOwn (filled_by files part)
      by (Put entry own_files) here = (here, tt)
      by (Remove name) here = (tt, tt)
      by (Entry entry) here = (tt, tt)
      by (Write path bytes) here = (tt, tt)
      by (Erase path) here = (tt, tt)
      by (Stream entry) here = (λ name. ap (λ (l : List Name). has_name name l) (paths-given (own entry)), tt)
      by (Later paths) here = writes_own paths

  kept-filled : (db : List Object) (parts : List Part) → kept_paths db (filled files parts) ≡ kept_paths db parts
  kept-filled db parts =
      ap (λ (os : List Object). flat_map own (filter (λ (o : Object). not (has_name o.name (put_names (filled files parts)))) os)) (entries-filled parts db)
      ∙ ap (λ (names : List Name). flat_map own (filter (λ (o : Object). not (has_name o.name names)) (entries_after parts db))) (put_names-filled parts)

  -- it is a change
  pub change-filled : (db : List Object) (parts : List Part) (label : List ℕ) → IsChange db parts label → IsChange db (filled files parts) label
  change-filled db parts label is = record {
    names = subst (λ (l : List Name). IsDistinct same_name l) (sym (names-filled parts)) is.names;
    paths = subst (λ (l : List Name). IsDistinct same_name l) (sym (paths-filled parts)) is.paths;
    puts = puts-filled parts is.puts;
    keeps = subst (λ (l : List Name). AllByRecursion (λ path. has_name path (kept_paths db (filled files parts)) ≡ false) l) (sym (paths-filled parts))
        (subst (λ (k : List Name). AllByRecursion (λ path. has_name path k ≡ false) (spoken_paths parts)) (sym (kept-filled db parts)) is.keeps);
    beside = subst (λ (l : List Name). AllByRecursion IsLoose l) (sym (loose-filled parts)) is.beside;
    label = is.label;
  }

  -- ---- the files that it brings

  coming-writes : (paths : List Name) → coming (writes paths) ≡ map named_bytes (map (given_at files) paths)
  coming-writes [] = refl
  coming-writes (path ∷ paths) = ap (λ (l : List File). named_bytes (given_at files path) ∷ l) (coming-writes paths)

  -- a name that isn't one of the given paths, or that is
  given-none : (names : List Name) (name : Name) → has_name name names ≡ false → bytes_under name (map named_bytes (map (given_at files) names)) ≡ None
  given-none names name none = under-none _ name (ap (λ (l : List Name). has_name name l) (given_names names) ∙ none)
    where
      given_names : (names : List Name) → names_of (map named_bytes (map (given_at files) names)) ≡ names
      given_names [] = refl
      given_names (n ∷ names) = ap (λ (l : List Name). n ∷ l) (given_names names)

  given-some : (names : List Name) (name : Name) → has_name name names ≡ true → bytes_under name (map named_bytes (map (given_at files) names)) ≡ Some (unwrap_or (bytes_under name files) [])
  given-some [] name here = absurd (cc)
  given-some (n ∷ names) name here = elim (cases_Bool (same_name name n)) [
    | inl e ↦ under-here (named_bytes (given_at files n)) (map named_bytes (map (given_at files) names)) name e ∙ ap (λ (m : Name). Some (unwrap_or (bytes_under m files) [])) (sym (same_name-is name n e))
    | inr e ↦ under-next (named_bytes (given_at files n)) (map named_bytes (map (given_at files) names)) name e ∙ given-some names name (sym (ap (λ b. b || has_name name names) e) ∙ here)
  ]

  -- the files that come with a part, as they come with it filled
  coming_filled_by : Part → List File
  coming_filled_by part = coming (filled_by files part)

  coming-filled : (part : Part) (parts : List Part) → coming (filled files (part ∷ parts)) ≡ coming (filled_by files part) ++ coming (filled files parts)
  coming-filled part parts = flat_map-append coming_by (filled_by files part) (filled files parts)

  one_part : (part : Part) → coming (part ∷ []) ≡ coming_by part
  one_part part = append-nil (coming_by part)

  part-other : (part : Part) (name : Name) → has_name name (later_by part) ≡ false → bytes_under name (coming (filled_by files part)) ≡ bytes_under name (coming_by part)
  part-other (Put entry own_files) name none = ap (λ (l : List File). bytes_under name l) (one_part (Put entry own_files))
  part-other (Remove n) name none = refl
  part-other (Entry entry) name none = refl
  part-other (Write path bytes) name none = refl
  part-other (Erase path) name none = refl
  part-other (Stream entry) name none = ap (λ (l : List File). bytes_under name l) (one_part (Put entry (map (given_at files) (own entry)))) ∙ given-none (own entry) name none
  part-other (Later paths) name none = ap (λ (l : List File). bytes_under name l) (coming-writes paths) ∙ given-none paths name none

  part-late : (part : Part) (name : Name) → has_name name (later_by part) ≡ true → bytes_under name (coming (filled_by files part)) ≡ Some (unwrap_or (bytes_under name files) [])
  part-late (Put entry own_files) name here = absurd (cc)
  part-late (Remove n) name here = absurd (cc)
  part-late (Entry entry) name here = absurd (cc)
  part-late (Write path bytes) name here = absurd (cc)
  part-late (Erase path) name here = absurd (cc)
  part-late (Stream entry) name here = ap (λ (l : List File). bytes_under name l) (one_part (Put entry (map (given_at files) (own entry)))) ∙ given-some (own entry) name here
  part-late (Later paths) name here = ap (λ (l : List File). bytes_under name l) (coming-writes paths) ∙ given-some paths name here

  -- a name whose bytes don't come later
  pub under-other : (parts : List Part) (name : Name) → has_name name (later parts) ≡ false → bytes_under name (coming (filled files parts)) ≡ bytes_under name (coming parts)
  under-other [] name none = refl
  under-other (part ∷ parts) name none =
      let both = or_parts (has_name name (later_by part)) (has_name name (later parts)) (sym (has_name-append name (later_by part) (later parts)) ∙ none) in
      ap (λ (l : List File). bytes_under name l) (coming-filled part parts)
      ∙ under-append (coming (filled_by files part)) (coming (filled files parts)) name
      ∙ ap (λ (o : Option (List ℕ)). option_or o (bytes_under name (coming (filled files parts)))) (part-other part name both.0)
      ∙ ap (λ (o : Option (List ℕ)). option_or (bytes_under name (coming_by part)) o) (under-other parts name both.1)
      ∙ sym (under-append (coming_by part) (coming parts) name)

  -- a name whose bytes come later
  pub under-late : (parts : List Part) (name : Name) → AreOnce (spoken_paths parts) → has_name name (later parts) ≡ true → bytes_under name (coming (filled files parts)) ≡ Some (unwrap_or (bytes_under name files) [])
  under-late [] name once here = absurd (cc)
  under-late (part ∷ parts) name once here =
      ap (λ (l : List File). bytes_under name l) (coming-filled part parts)
      ∙ elim (cases_Bool (has_name name (later_by part))) [
        | inl e ↦ under-first (coming (filled_by files part)) (coming (filled files parts)) name _ (part-late part name e)
        | inr e ↦
            let rest : has_name name (later parts) ≡ true = sym (ap (λ b. b || has_name name (later parts)) e) ∙ sym (has_name-append name (later_by part) (later parts)) ∙ here in
            let spoken : has_name name (spoken_paths parts) ≡ true = (part-flat later_by spoken_paths_by late_part parts).among name rest in
            let not_here : has_name name (spoken_paths_by part) ≡ false = false_from_ne_true _ (λ both. true≢false (sym spoken ∙ once-cross (spoken_paths_by part) (spoken_paths parts) once name both)) in
            under-append (coming (filled_by files part)) (coming (filled files parts)) name
            ∙ ap (λ (o : Option (List ℕ)). option_or o (bytes_under name (coming (filled files parts))))
            (part-other part name e ∙ under-none (coming_by part) name (part-none _ _ (coming_part part) name not_here))
            ∙ under-late parts name (once-right (spoken_paths_by part) (spoken_paths parts) once) rest
      ]
