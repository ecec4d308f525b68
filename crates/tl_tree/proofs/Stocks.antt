-- A change replaces whole packages.
use Rattle.std.proofs.Common.{◌≡◌, ℕ, Bool, true, false, cond, ◌||◌, List, [], ◌∷◌, ◌++◌, map, Option, Some, None, refl, sym, ◌∙◌, ap, subst, inl, inr, ◌⊎◌}
use Rattle.std.specs.Prelude.{if◌then◌else◌}
use Rattle.std.specs.Option.{option_map, option_or}
use Rattle.std.specs.List.{AllByRecursion}
use Rattle.std.specs.FinMap as finite
use Rattle.std.specs.FinMap.{slice_cmp-IsAntisymmetric, nat_cmp-IsAntisymmetric}
use Rattle.std.specs.Ordering.{nat_cmp}
use Rattle.std.specs.Cmp.Lexicographic.{slice_cmp}
use Rattle.std.proofs.lemmas.Bool.{cases_Bool, true≢false, false_from_ne_true}
use Rattle.std.proofs.lemmas.List.{map-append, append-nil}
use Rattle.tl_model.specs.Volume.{Name, Volume, at, same_name-refl, same_volume}
use Rattle.tl_path.specs.Reserved.{is_reserved}
use Rattle.tl_file.specs.declared.file.FileBytes.{FileBytes}
use Rattle.tl_entry.specs.declared.object.Object.{Object}
use Rattle.tl_db.specs.Entries.{entry_of}
use Rattle.tl_tree.specs.declared.change.Part.{Part}
use Rattle.tl_tree.specs.declared.change.Part.TheVariants.{Put, Remove, Entry, Write, Erase, Stream, Later}
use Rattle.tl_tree.specs.Staged.{has_name}
use Rattle.tl_tree.specs.Changes.{own, leaving, coming, coming_by, named_bytes, names_of, made, written, has_entries, removed_all, changed, entries_after}
use Rattle.tl_tree.specs.Conditions.{spoken_names, spoken_names_by, put_names, put_by, spoken_paths, spoken_paths_by, kept_paths, PutsOwn, IsChange}
use Rattle.tl_tree.specs.Filled.{bytes_under}
use Rattle.tl_tree.specs.Packages.{files_among, stock_of, volume_of, Stocks, ReplacesWhole}
use Rattle.tl_tree.proofs.Distinct.{AreOnce, IsPart, all_of, once-cross, once-left, once-right, part-none, part-same, part-nil, part-flat, has_left, has_right, neither_has}
use Rattle.tl_tree.proofs.Lookups.{File, has_name-names_of, under-first, under-none, under-right, under-some}
use Rattle.tl_tree.proofs.Trees.{at-written, at-written_apart}
use Rattle.tl_tree.proofs.Spoken.{coming_part, coming_spoken, names_named, own_free, free_loose, written_once}
use Rattle.tl_tree.proofs.Entering.{Enters, enters, entry_of-after, entry_kept}

-- what a tree holds at some paths
at-files_among : (paths : List Name) (tree : Volume) (name : Name) → at (files_among paths tree) name ≡ cond (has_name name paths) (at tree name) None
at-files_among paths tree name =
    finite.get-retain_keys tree (λ path. has_name path paths) name (λ x equal. ap (λ (n : Name). has_name n paths) (sym (slice_cmp-IsAntisymmetric nat_cmp-IsAntisymmetric name x equal)))

-- two trees that hold the same at some paths
pub same_among : (paths : List Name) (v w : Volume) → ((name : Name) → has_name name paths ≡ true → at v name ≡ at w name) → files_among paths v ≡ files_among paths w
same_among paths v w same = same_volume _ _ (λ name. at-files_among paths v name ∙ by name (cases_Bool (has_name name paths)) ∙ sym (at-files_among paths w name))
  where
    by : (name : Name) → (has_name name paths ≡ true) ⊎ (has_name name paths ≡ false) → cond (has_name name paths) (at v name) None ≡ cond (has_name name paths) (at w name) None
    by name (inl e) = ap (λ (o : Option (List ℕ)). cond (has_name name paths) o None) (same name e)
    by name (inr e) = ap (λ b. cond b (at v name) None) e ∙ sym (ap (λ b. cond b (at w name) None) e)

-- a part that brings an entry with its files speaks of its name
put_part : (part : Part) → IsPart (put_by part) (spoken_names_by part)
put_part (Put entry files) = part-same (entry.name ∷ [])
put_part (Remove name) = part-nil (name ∷ [])
put_part (Entry entry) = part-nil (entry.name ∷ [])
put_part (Write path bytes) = part-nil []
put_part (Erase path) = part-nil []
put_part (Stream entry) = part-same (entry.name ∷ [])
put_part (Later paths) = part-nil []

put_spoken : (parts : List Part) → IsPart (put_names parts) (spoken_names parts)
put_spoken parts = part-flat put_by spoken_names_by put_part parts

all_map : {P Q : Part → Type 0} → ((part : Part) → P part → Q part) → (parts : List Part) → AllByRecursion P parts → AllByRecursion Q parts
all_map go [] all = tt
all_map go (part ∷ parts) all = (go part all.0, all_map go parts all.1)

-- what a file of a part holds is what it holds among all that come, and the paths of the part come once
record Brings (parts : List Part) (part : Part) : Type 0 where
  once : AreOnce (spoken_paths_by part)
  bytes : (name : Name) (bytes : List ℕ) → bytes_under name (coming_by part) ≡ Some bytes → bytes_under name (coming parts) ≡ Some bytes

-- a name under which files hold bytes is one of theirs
under_has : (files : List File) (name : Name) (bytes : List ℕ) → bytes_under name files ≡ Some bytes → has_name name (names_of files) ≡ true
under_has files name bytes is = elim (cases_Bool (has_name name (names_of files))) [ inl e ↦ e | inr e ↦ absurd (cc (sym (under-none files name e) ∙ is)) ]

brings : (parts : List Part) → AreOnce (spoken_paths parts) → AllByRecursion (Brings parts) parts
brings [] once = tt
brings (part ∷ parts) once = (
  record {
    once = once-left (spoken_paths_by part) (spoken_paths parts) once;
    bytes = λ name bytes is. under-first (coming_by part) (coming parts) name bytes is;
  },
  all_map (λ other here. record {
    once = here.once;
    bytes = λ name bytes is.
        let found = here.bytes name bytes is in
        let spoken : has_name name (spoken_paths parts) ≡ true = (coming_spoken parts).among name (under_has (coming parts) name bytes found) in
        let apart : has_name name (spoken_paths_by part) ≡ false = false_from_ne_true _ (λ both. true≢false (sym spoken ∙ once-cross (spoken_paths_by part) (spoken_paths parts) once name both)) in
        under-right (coming_by part) (coming parts) name (part-none _ _ (coming_part part) name apart) ∙ found;
  }) parts (brings parts (once-right (spoken_paths_by part) (spoken_paths parts) once)),
)

-- the name of an entry that is entered is not one of those that are brought with their files
abbrev Unput : List Part → Part → Type 0
Unput parts (Put entry files) = Unit {0}
Unput parts (Remove name) = Unit {0}
Unput parts (Entry entry) = (has_name entry.name (spoken_names parts) ≡ true) × (has_name entry.name (put_names parts) ≡ false)
Unput parts (Write path bytes) = Unit {0}
Unput parts (Erase path) = Unit {0}
Unput parts (Stream entry) = Unit {0}
Unput parts (Later paths) = Unit {0}

unput_head : (part : Part) (parts : List Part) → AreOnce (spoken_names (part ∷ parts)) → Unput (part ∷ parts) part
unput_head (Put entry files) parts once = tt
unput_head (Remove name) parts once = tt
unput_head (Entry entry) parts once = (
  has_left entry.name (entry.name ∷ []) (spoken_names parts) (here entry.name),
  part-none _ _ (put_spoken parts) entry.name (once-cross (entry.name ∷ []) (spoken_names parts) once entry.name (here entry.name)),
)
  where
    here : (name : Name) → has_name name (name ∷ []) ≡ true
    here name = ap (λ b. b || false) (same_name-refl name)
unput_head (Write path bytes) parts once = tt
unput_head (Erase path) parts once = tt
unput_head (Stream entry) parts once = tt
unput_head (Later paths) parts once = tt

unput_more : (part : Part) (parts : List Part) → AreOnce (spoken_names (part ∷ parts)) → (other : Part) → Unput parts other → Unput (part ∷ parts) other
unput_more part parts once (Put entry files) here = tt
unput_more part parts once (Remove name) here = tt
unput_more part parts once (Entry entry) here = (
  has_right entry.name (spoken_names_by part) (spoken_names parts) here.0,
  neither_has entry.name (put_by part) (put_names parts)
      (part-none _ _ (put_part part) entry.name (false_from_ne_true _ (λ both. true≢false (sym here.0 ∙ once-cross (spoken_names_by part) (spoken_names parts) once entry.name both))))
      here.1,
)
unput_more part parts once (Write path bytes) here = tt
unput_more part parts once (Erase path) here = tt
unput_more part parts once (Stream entry) here = tt
unput_more part parts once (Later paths) here = tt

unput : (parts : List Part) → AreOnce (spoken_names parts) → AllByRecursion (Unput parts) parts
unput [] once = tt
unput (part ∷ parts) once = (unput_head part parts once, all_map (unput_more part parts once) parts (unput parts (once-right (spoken_names_by part) (spoken_names parts) once)))

module _ (db : List Object) (parts : List Part) (label : List ℕ) (is : IsChange db parts label) (tree : Volume) where
  abbrev next : List Object
  next = entries_after parts db

  abbrev rest : Volume
  rest = removed_all (leaving db parts) tree

  -- a file that a change keeps holds what it held, unless it leaves
  kept_holds : (path : Name) → has_name path (kept_paths db parts) ≡ true → is_reserved path ≡ false → at (changed db parts tree) path ≡ at rest path
  kept_holds path kept free =
      let unspoken : has_name path (spoken_paths parts) ≡ false = false_from_ne_true _ (λ here. true≢false (sym kept ∙ all_of (λ p. has_name p (kept_paths db parts) ≡ false) (spoken_paths parts) path is.keeps here)) in
      let none : has_name path (names_of (written parts next)) ≡ false = unwritten (has_entries parts) path (part-none _ _ (coming_spoken parts) path unspoken) (free_loose path free).unmade in
      at-written_apart (written parts next) rest path (sym (has_name-names_of path (written parts next)) ∙ none)
    where
      unwritten : (b : Bool) (path : Name) → has_name path (names_of (coming parts)) ≡ false → has_name path (names_of (made [])) ≡ false → has_name path (names_of (coming parts ++ (if b then made next else []))) ≡ false
      unwritten true path far near = ap (λ (l : List Name). has_name path l) (map-append (λ (file : File). file.0) (coming parts) (made next)) ∙ neither_has path (names_of (coming parts)) (names_of (made next)) far near
      unwritten false path far near = ap (λ (l : List File). has_name path (names_of l)) (append-nil (coming parts)) ∙ far

  -- the files of an entry that a change keeps
  kept_files : (name : Name) (entry : Object) → entry_of name next ≡ Some entry → has_name name (put_names parts) ≡ false → files_among (own entry) (changed db parts tree) ≡ files_among (own entry) rest
  kept_files name entry found unput =
      same_among (own entry) (changed db parts tree) rest (λ path here. kept_holds path (entry_kept (put_names parts) next name path entry found unput here) (own_free entry path here))

  -- at a name of which the change doesn't speak
  pub others_stay : (name : Name) → has_name name (spoken_names parts) ≡ false → stock_of next (changed db parts tree) name ≡ stock_of db rest name
  others_stay name none = by (entry_of name db) refl
    where
      same : entry_of name next ≡ entry_of name db
      same = entry_of-after parts name db none

      by : (o : Option Object) → entry_of name db ≡ o → stock_of next (changed db parts tree) name ≡ stock_of db rest name
      by None found = ap (λ (o : Option Object). option_map (λ (entry : Object). (entry, files_among (own entry) (changed db parts tree))) o) (same ∙ found)
          ∙ sym (ap (λ (o : Option Object). option_map (λ (entry : Object). (entry, files_among (own entry) rest)) o) found)
      by (Some entry) found = ap (λ (o : Option Object). option_map (λ (entry : Object). (entry, files_among (own entry) (changed db parts tree))) o) (same ∙ found)
          ∙ ap (λ (v : Volume). Some (entry, v)) (kept_files name entry (same ∙ found) (part-none _ _ (put_spoken parts) name none))
          ∙ sym (ap (λ (o : Option Object). option_map (λ (entry : Object). (entry, files_among (own entry) rest)) o) found)

  -- the files of an entry put
  put_files : (entry : Object) (files : List FileBytes) → PutsOwn (Put entry files) → Brings parts (Put entry files) → files_among (own entry) (changed db parts tree) ≡ volume_of (map named_bytes files)
  put_files entry files puts here = same_volume _ _ (λ name. at-files_among (own entry) (changed db parts tree) name ∙ by name (cases_Bool (has_name name (own entry))))
    where
      named : (name : Name) → has_name name (names_of (map named_bytes files)) ≡ has_name name (own entry)
      named name = ap (λ (l : List Name). has_name name l) (names_named files) ∙ puts name

      once : AreOnce (names_of (map named_bytes files))
      once = subst (λ (l : List Name). AreOnce l) (sym (names_named files)) here.once

      by : (name : Name) → (has_name name (own entry) ≡ true) ⊎ (has_name name (own entry) ≡ false) → cond (has_name name (own entry)) (at (changed db parts tree) name) None ≡ at (volume_of (map named_bytes files)) name
      by name (inl e) =
          let one = under-some (map named_bytes files) name (named name ∙ e) in
          ap (λ b. cond b (at (changed db parts tree) name) None) e
          ∙ at-written (written parts next) rest name (written_once db parts label is next)
          ∙ ap (λ (o : Option (List ℕ)). option_or o (at rest name)) (under-first (coming parts) (if has_entries parts then made next else []) name one.0 (here.bytes name one.0 one.1))
          ∙ sym (at-written (map named_bytes files) finite.empty name once ∙ ap (λ (o : Option (List ℕ)). option_or o (at finite.empty name)) one.1)
      by name (inr e) =
          ap (λ b. cond b (at (changed db parts tree) name) None) e
          ∙ sym (at-written (map named_bytes files) finite.empty name once
          ∙ ap (λ (o : Option (List ℕ)). option_or o (at finite.empty name)) (under-none (map named_bytes files) name (named name ∙ e))
          ∙ finite.get-empty (slice_cmp nat_cmp) name)

  stocks_by : (part : Part) → Enters next part → Brings parts part → Unput parts part → PutsOwn part → Stocks next (changed db parts tree) rest part
  stocks_by (Put entry files) found here un puts =
      ap (λ (o : Option Object). option_map (λ (entry : Object). (entry, files_among (own entry) (changed db parts tree))) o) found ∙ ap (λ (v : Volume). Some (entry, v)) (put_files entry files puts here)
  stocks_by (Remove name) found here un puts = ap (λ (o : Option Object). option_map (λ (entry : Object). (entry, files_among (own entry) (changed db parts tree))) o) found
  stocks_by (Entry entry) found here un puts =
      ap (λ (o : Option Object). option_map (λ (entry : Object). (entry, files_among (own entry) (changed db parts tree))) o) found ∙ ap (λ (v : Volume). Some (entry, v)) (kept_files entry.name entry found un.1)
  stocks_by (Write path bytes) found here un puts = tt
  stocks_by (Erase path) found here un puts = tt
  stocks_by (Stream entry) found here un puts = tt
  stocks_by (Later paths) found here un puts = tt

  stocks_all : (some : List Part) → AllByRecursion (Enters next) some → AllByRecursion (Brings parts) some → AllByRecursion (Unput parts) some → AllByRecursion PutsOwn some
      → AllByRecursion (Stocks next (changed db parts tree) rest) some
  stocks_all [] a b c d = tt
  stocks_all (part ∷ some) a b c d = (stocks_by part a.0 b.0 c.0 d.0, stocks_all some a.1 b.1 c.1 d.1)

  -- whole packages are replaced
  pub replaces : ReplacesWhole db parts tree next (changed db parts tree)
  replaces = record {
    changes = stocks_all parts (enters parts db is.names) (brings parts is.paths) (unput parts is.names) is.puts;
    others = others_stay;
  }
