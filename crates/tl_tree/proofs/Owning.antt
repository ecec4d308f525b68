-- Names among those that an entry has.
use Rattle.std.proofs.Common.{◌≡◌, ◌<◌, ◌+◌, ℕ, zero, suc, Bool, true, false, cond, ◌||◌, List, [], ◌∷◌, ◌++◌, length, take, get_or, Some, None, refl, sym, ◌∙◌, ap, arith}
use Rattle.std.specs.Prelude.{not, filter, map, find, option_map}
use Rattle.std.specs.List.{flat_map}
use Rattle.std.proofs.lemmas.Bool.{true≢false}
use Rattle.std.proofs.lemmas.List.{append-nil, take_more}
use Rattle.std.proofs.lemmas.List.Concat.{flat_map-append}
use Rattle.tl_model.specs.Volume.{Name, same_name, same_name-is}
use Rattle.tl_path.specs.Reserved.{is_reserved}
use Rattle.tl_entry.specs.Rising.{has_key}
use Rattle.tl_entry.specs.Parts.{FileEntry}
use Rattle.tl_entry.specs.declared.object.Object.{Object}
use Rattle.tl_entry.specs.declared.object.BinFiles.{BinFiles}
use Rattle.tl_tree.specs.Changes.{path_of, bin_paths, listed, own}
use Rattle.tl_tree.specs.Owners.{owner_of, name_of}

or_assoc : (a b c : Bool) → (a || (b || c)) ≡ ((a || b) || c)
or_assoc true b c = refl
or_assoc false b c = refl

-- in two lists
pub key-append : (path : Name) (xs ys : List Name) → has_key (λ (p : Name). p) path (xs ++ ys) ≡ (has_key (λ (p : Name). p) path xs || has_key (λ (p : Name). p) path ys)
key-append path [] ys = refl
key-append path (x ∷ xs) ys = ap (λ b. same_name x path || b) (key-append path xs ys) ∙ or_assoc (same_name x path) _ _

pub key-files : (path : Name) (files : List FileEntry) → has_key (λ (f : FileEntry). f.path) path files ≡ has_key (λ (p : Name). p) path (map path_of files)
key-files path [] = refl
key-files path (f ∷ files) = ap (λ b. same_name f.path path || b) (key-files path files)

kept : (path n : Name) (rest : List Name) → is_reserved path ≡ false → (b : Bool) → is_reserved n ≡ b
    → has_key (λ (p : Name). p) path (cond (not b) (n ∷ rest) rest) ≡ (same_name n path || has_key (λ (p : Name). p) path rest)
kept path n rest free false is = refl
kept path n rest free true is = by (same_name n path) (λ e. true≢false (sym is ∙ ap is_reserved (same_name-is n path e) ∙ free))
  where
    by : (b : Bool) → (b ≡ true → ⊥) → has_key (λ (p : Name). p) path rest ≡ (b || has_key (λ (p : Name). p) path rest)
    by true never = absurd (never refl)
    by false never = refl

-- a path that isn't reserved is among those kept where it is among all
pub key-kept : (path : Name) (names : List Name) → is_reserved path ≡ false → has_key (λ (p : Name). p) path (filter (λ n. not (is_reserved n)) names) ≡ has_key (λ (p : Name). p) path names
key-kept path [] free = refl
key-kept path (n ∷ names) free = kept path n (filter (λ m. not (is_reserved m)) names) free (is_reserved n) refl ∙ ap (λ b. same_name n path || b) (key-kept path names free)

other_name : (path n : Name) (rest : List Name) → is_reserved path ≡ true → is_reserved n ≡ false → (b : Bool) → same_name n path ≡ b → (b || has_key (λ (p : Name). p) path rest) ≡ has_key (λ (p : Name). p) path rest
other_name path n rest held free true is = absurd (true≢false (sym held ∙ ap is_reserved (sym (same_name-is n path is)) ∙ free))
other_name path n rest held free false is = refl

none_more : (path n : Name) (rest : List Name) → is_reserved path ≡ true → has_key (λ (p : Name). p) path rest ≡ false → (b : Bool) → is_reserved n ≡ b → has_key (λ (p : Name). p) path (cond (not b) (n ∷ rest) rest) ≡ false
none_more path n rest held none true is = none
none_more path n rest held none false is = other_name path n rest held is (same_name n path) refl ∙ none

-- none of an entry's files is reserved
pub own_reserved : (path : Name) (names : List Name) → is_reserved path ≡ true → has_key (λ (p : Name). p) path (filter (λ n. not (is_reserved n)) names) ≡ false
own_reserved path [] held = refl
own_reserved path (n ∷ names) held = none_more path n (filter (λ m. not (is_reserved m)) names) held (own_reserved path names held) (is_reserved n) refl

-- so no entry owns a reserved path
pub owner_reserved : (path : Name) (db : List Object) → is_reserved path ≡ true → owner_of path db ≡ None
owner_reserved path [] held = refl
owner_reserved path (entry ∷ db) held =
    ap (λ b. option_map name_of (cond b (Some entry) (find (λ (o : Object). has_key (λ (p : Name). p) path (own o)) db))) (own_reserved path (listed entry) held) ∙ owner_reserved path db held

-- the files of an entry, section by section
pub key-own : (path : Name) (entry : Object) → is_reserved path ≡ false → has_key (λ (p : Name). p) path (own entry)
    ≡ (((has_key (λ (p : Name). p) path entry.run.paths || has_key (λ (p : Name). p) path (map path_of entry.doc.files)) || has_key (λ (p : Name). p) path entry.src.paths) || has_key (λ (p : Name). p) path (flat_map bin_paths entry.bin))
key-own path entry free =
    key-kept path (listed entry) free
    ∙ key-append path ((entry.run.paths ++ map path_of entry.doc.files) ++ entry.src.paths) (flat_map bin_paths entry.bin)
    ∙ ap (λ b. b || has_key (λ (p : Name). p) path (flat_map bin_paths entry.bin)) (key-append path (entry.run.paths ++ map path_of entry.doc.files) entry.src.paths)
    ∙ ap (λ b. (b || has_key (λ (p : Name). p) path entry.src.paths) || has_key (λ (p : Name). p) path (flat_map bin_paths entry.bin)) (key-append path entry.run.paths (map path_of entry.doc.files))

-- the binaries of the first sections, one more
pub key-bins_more : (path : Name) (bins : List BinFiles) (i : ℕ) (bin : BinFiles) → i < length bins → bin ≡ get_or bins i bin
    → has_key (λ (p : Name). p) path (flat_map bin_paths (take (i + 1) bins)) ≡ (has_key (λ (p : Name). p) path (flat_map bin_paths (take i bins)) || has_key (λ (p : Name). p) path bin.paths)
key-bins_more path bins i bin lt is =
    ap (λ (bs : List BinFiles). has_key (λ (p : Name). p) path (flat_map bin_paths bs)) (take_more bins i bin lt ∙ ap (λ (b : BinFiles). take i bins ++ b ∷ []) (sym is))
    ∙ ap (λ (ps : List Name). has_key (λ (p : Name). p) path ps) (flat_map-append bin_paths (take i bins) (bin ∷ []))
    ∙ key-append path (flat_map bin_paths (take i bins)) (bin.paths ++ [])
    ∙ ap (λ (ps : List Name). has_key (λ (p : Name). p) path (flat_map bin_paths (take i bins)) || has_key (λ (p : Name). p) path ps) (append-nil bin.paths)

or_true : (a b : Bool) → b ≡ true → (a || b) ≡ true
or_true true b e = refl
or_true false b e = e

-- a section that has it
pub key-bins_at : (path : Name) (bins : List BinFiles) (i : ℕ) (bin : BinFiles) → i < length bins → bin ≡ get_or bins i bin → has_key (λ (p : Name). p) path bin.paths ≡ true
    → has_key (λ (p : Name). p) path (flat_map bin_paths bins) ≡ true
key-bins_at path [] i bin lt is there = absurd (omega arith)
key-bins_at path (b ∷ bins) zero bin lt is there =
    key-append path b.paths (flat_map bin_paths bins) ∙ ap (λ t. t || has_key (λ (p : Name). p) path (flat_map bin_paths bins)) (ap (λ (w : BinFiles). has_key (λ (p : Name). p) path w.paths) (sym is) ∙ there)
key-bins_at path (b ∷ bins) (suc i) bin lt is there = key-append path b.paths (flat_map bin_paths bins) ∙ or_true _ _ (key-bins_at path bins i bin (omega arith) is there)

module _ (path : Name) (entry : Object) (free : is_reserved path ≡ false) where
  -- where a path is found in one of the sections
  pub own_run : has_key (λ (p : Name). p) path entry.run.paths ≡ true → has_key (λ (p : Name). p) path (own entry) ≡ true
  own_run e = key-own path entry free
      ∙ ap (λ b. ((b || has_key (λ (p : Name). p) path (map path_of entry.doc.files)) || has_key (λ (p : Name). p) path entry.src.paths) || has_key (λ (p : Name). p) path (flat_map bin_paths entry.bin)) e

  pub own_doc : has_key (λ (p : Name). p) path (map path_of entry.doc.files) ≡ true → has_key (λ (p : Name). p) path (own entry) ≡ true
  own_doc e = key-own path entry free
      ∙ ap (λ b. (b || has_key (λ (p : Name). p) path entry.src.paths) || has_key (λ (p : Name). p) path (flat_map bin_paths entry.bin)) (or_true (has_key (λ (p : Name). p) path entry.run.paths) _ e)

  pub own_src : has_key (λ (p : Name). p) path entry.src.paths ≡ true → has_key (λ (p : Name). p) path (own entry) ≡ true
  own_src e = key-own path entry free
      ∙ ap (λ b. b || has_key (λ (p : Name). p) path (flat_map bin_paths entry.bin)) (or_true (has_key (λ (p : Name). p) path entry.run.paths || has_key (λ (p : Name). p) path (map path_of entry.doc.files)) _ e)

  -- or only in the last one, if there
  pub own_bin : has_key (λ (p : Name). p) path entry.run.paths ≡ false → has_key (λ (p : Name). p) path (map path_of entry.doc.files) ≡ false → has_key (λ (p : Name). p) path entry.src.paths ≡ false
      → has_key (λ (p : Name). p) path (own entry) ≡ has_key (λ (p : Name). p) path (flat_map bin_paths entry.bin)
  own_bin run doc src = key-own path entry free
      ∙ ap (λ b. ((b || has_key (λ (p : Name). p) path (map path_of entry.doc.files)) || has_key (λ (p : Name). p) path entry.src.paths) || has_key (λ (p : Name). p) path (flat_map bin_paths entry.bin)) run
      ∙ ap (λ b. (b || has_key (λ (p : Name). p) path entry.src.paths) || has_key (λ (p : Name). p) path (flat_map bin_paths entry.bin)) doc
      ∙ ap (λ b. b || has_key (λ (p : Name). p) path (flat_map bin_paths entry.bin)) src
