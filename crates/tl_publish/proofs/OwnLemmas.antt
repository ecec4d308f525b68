-- The entries that have the list among their files, or something above or below it.
use Rattle.std.proofs.Common.{◌≡◌, ◌<◌, ◌&&◌, ◌||◌, not, ℕ, zero, suc, Bool, true, false, cond, nat_eq, List, [], ◌∷◌, ◌++◌, length, get_or, Some, None, refl, sym, ap, subst, ◌∙◌, arith}
use Rattle.std.specs.Prelude.{codes, filter, map, find, option_map, bytes_eq}
use Rattle.std.specs.List.{flat_map, list_any, starts_with}
use Rattle.std.proofs.lemmas.Bool.{true≢false}
use Rattle.std.proofs.lemmas.List.Folds.{list_any-append}
use Rattle.tl_model.specs.Volume.{Name, same_name, same_name-is}
use Rattle.tl_path.specs.Components.{is_below, is_touching}
use Rattle.tl_path.specs.Reserved.{is_reserved}
use Rattle.tl_entry.specs.declared.object.Object.{Object}
use Rattle.tl_entry.specs.declared.object.BinFiles.{BinFiles}
use Rattle.tl_lsr.specs.Items.{folder}
use Rattle.tl_lsr.specs.Lists.{list_path}
use Rattle.tl_tree.specs.Staged.{has_name}
use Rattle.tl_tree.specs.Changes.{own, listed, path_of, bin_paths}
use Rattle.tl_tree.specs.Owners.{name_of}
use Rattle.tl_publish.specs.Owning.{touches_list, list_owner, claims_list}
use Rattle.tl_publish.proofs.BelowLemmas.{IsName, below_starts, only_front}

named_folder : IsName folder
named_folder = (refl, (refl, (refl, (refl, (refl, (refl, (refl, (refl, (refl, (refl, tt))))))))))

named_list : IsName (codes "ls-R")
named_list = (refl, (refl, (refl, (refl, tt))))

or_assoc : (a b c : Bool) → ((a || b) || c) ≡ (a || (b || c))
or_assoc true b c = refl
or_assoc false b c = refl

-- what touches the list: itself, what begins with it and a '/', and the folder
pub touching_list : (path : Name) → ((bytes_eq path list_path || starts_with nat_eq path (codes "texmf-dist/ls-R/")) || bytes_eq path (codes "texmf-dist")) ≡ is_touching path list_path
touching_list path =
    or_assoc (bytes_eq path list_path) (starts_with nat_eq path (codes "texmf-dist/ls-R/")) (bytes_eq path (codes "texmf-dist"))
    ∙ ap (λ b. bytes_eq path list_path || (b || bytes_eq path (codes "texmf-dist"))) (sym (below_starts list_path path))
    ∙ ap (λ b. bytes_eq path list_path || (is_below path list_path || b)) (sym (only_front path folder (codes "ls-R") named_folder named_list))

pub touching_else : (path : Name) → bytes_eq path list_path ≡ false → starts_with nat_eq path (codes "texmf-dist/ls-R/") ≡ false → bytes_eq path (codes "texmf-dist") ≡ is_touching path list_path
touching_else path other past =
    sym (ap (λ t. (t || starts_with nat_eq path (codes "texmf-dist/ls-R/")) || bytes_eq path (codes "texmf-dist")) other ∙ ap (λ t. t || bytes_eq path (codes "texmf-dist")) past) ∙ touching_list path

any_filtered : (t r : Name → Bool) (names : List Name) → list_any t (filter (λ p. not (r p)) names) ≡ list_any (λ p. t p && not (r p)) names
any_filtered t r [] = refl
any_filtered t r (name ∷ names) = by (r name) (any_filtered t r names)
  where
    and_false : (b : Bool) → (b && false) ≡ false
    and_false true = refl
    and_false false = refl

    and_true : (b : Bool) → b ≡ (b && true)
    and_true true = refl
    and_true false = refl

    by : (b : Bool) → list_any t (filter (λ p. not (r p)) names) ≡ list_any (λ p. t p && not (r p)) names
        → list_any t (cond (not b) (name ∷ filter (λ p. not (r p)) names) (filter (λ p. not (r p)) names)) ≡ ((t name && not b) || list_any (λ p. t p && not (r p)) names)
    by true rest = rest ∙ sym (ap (λ c. c || list_any (λ p. t p && not (r p)) names) (and_false (t name)))
    by false rest = ap (λ c. t name || c) rest ∙ ap (λ c. c || list_any (λ p. t p && not (r p)) names) (and_true (t name))

-- whether an entry has such a file, section by section
pub touches_sections : (entry : Object)
    → (((list_any claims_list entry.run.paths || list_any claims_list (map path_of entry.doc.files)) || list_any claims_list entry.src.paths) || list_any claims_list (flat_map bin_paths entry.bin)) ≡ touches_list entry
touches_sections entry =
    ap (λ b. (b || list_any claims_list entry.src.paths) || list_any claims_list (flat_map bin_paths entry.bin)) (sym (list_any-append claims_list entry.run.paths (map path_of entry.doc.files)))
    ∙ ap (λ b. b || list_any claims_list (flat_map bin_paths entry.bin)) (sym (list_any-append claims_list (entry.run.paths ++ map path_of entry.doc.files) entry.src.paths))
    ∙ sym (list_any-append claims_list ((entry.run.paths ++ map path_of entry.doc.files) ++ entry.src.paths) (flat_map bin_paths entry.bin))
    ∙ sym (any_filtered (λ path. is_touching path list_path) is_reserved (listed entry))

-- ---- where the sections are looked at one after another

module _ (entry : Object) where
  abbrev in_run : Bool
  in_run = list_any claims_list entry.run.paths

  abbrev in_doc : Bool
  in_doc = list_any claims_list (map path_of entry.doc.files)

  abbrev in_src : Bool
  in_src = list_any claims_list entry.src.paths

  abbrev in_bin : Bool
  in_bin = list_any claims_list (flat_map bin_paths entry.bin)

  pub touched_run : in_run ≡ true → true ≡ touches_list entry
  touched_run run = sym (ap (λ b. ((b || in_doc) || in_src) || in_bin) run) ∙ touches_sections entry

  pub touched_doc : in_run ≡ false → in_doc ≡ true → true ≡ touches_list entry
  touched_doc run doc = sym (ap (λ b. ((b || in_doc) || in_src) || in_bin) run ∙ ap (λ b. (b || in_src) || in_bin) doc) ∙ touches_sections entry

  pub touched_src : in_run ≡ false → in_doc ≡ false → in_src ≡ true → true ≡ touches_list entry
  touched_src run doc src =
      sym (ap (λ b. ((b || in_doc) || in_src) || in_bin) run ∙ ap (λ b. (b || in_src) || in_bin) doc ∙ ap (λ b. b || in_bin) src) ∙ touches_sections entry

  pub touched_bin : in_run ≡ false → in_doc ≡ false → in_src ≡ false → in_bin ≡ touches_list entry
  touched_bin run doc src =
      sym (ap (λ b. ((b || in_doc) || in_src) || in_bin) run ∙ ap (λ b. (b || in_src) || in_bin) doc ∙ ap (λ b. b || in_bin) src) ∙ touches_sections entry

-- ---- where no entry has one, the list is none of their files

touches_itself : is_touching list_path list_path ≡ true
touches_itself = refl

not_among : (names : List Name) → list_any (λ path. is_touching path list_path) names ≡ false → has_name list_path names ≡ false
not_among [] none = refl
not_among (name ∷ names) none = by (same_name list_path name) refl (or_parts (is_touching name list_path) (list_any (λ path. is_touching path list_path) names) none) (not_among names)
  where
    or_parts : (a b : Bool) → (a || b) ≡ false → (a ≡ false) × (b ≡ false)
    or_parts true b is = absurd (true≢false is)
    or_parts false b is = (refl, is)

    by : (b : Bool) → same_name list_path name ≡ b → (is_touching name list_path ≡ false) × (list_any (λ path. is_touching path list_path) names ≡ false)
        → (list_any (λ path. is_touching path list_path) names ≡ false → has_name list_path names ≡ false) → (b || has_name list_path names) ≡ false
    by true same none more = absurd (true≢false (sym (subst (λ (n : Name). is_touching n list_path ≡ true) (same_name-is list_path name same) touches_itself) ∙ none.0))
    by false apart none more = more none.1

append_none : (xs ys : List Name) → has_name list_path xs ≡ false → has_name list_path ys ≡ false → has_name list_path (xs ++ ys) ≡ false
append_none xs ys first second = list_any-append (same_name list_path) xs ys ∙ ap (λ b. b || has_name list_path ys) first ∙ second

pub list_unowned : (stays : Object → Bool) (db : List Object) → list_owner db ≡ None → has_name list_path (flat_map own (filter stays db)) ≡ false
list_unowned stays [] none = refl
list_unowned stays (entry ∷ db) none = by (touches_list entry) refl none (list_unowned stays db)
  where
    kept : (b : Bool) → has_name list_path (own entry) ≡ false → has_name list_path (flat_map own (filter stays db)) ≡ false → has_name list_path (flat_map own (cond b (entry ∷ filter stays db) (filter stays db))) ≡ false
    kept true here rest = append_none (own entry) (flat_map own (filter stays db)) here rest
    kept false here rest = rest

    by : (b : Bool) → touches_list entry ≡ b → option_map name_of (cond b (Some entry) (find touches_list db)) ≡ None → (list_owner db ≡ None → has_name list_path (flat_map own (filter stays db)) ≡ false)
        → has_name list_path (flat_map own (filter stays (entry ∷ db))) ≡ false
    by true is found more = absurd (cc)
    by false is found more = kept (stays entry) (not_among (own entry) is) (more found)

-- ---- one of some

pub any_map_at : {A : Type 0} (p : Name → Bool) (f : A → Name) (xs : List A) (i : ℕ) (x : A) → i < length xs → x ≡ get_or xs i x → p (f x) ≡ true → list_any p (map f xs) ≡ true
any_map_at p f [] i x lt is here = absurd (omega arith)
any_map_at p f (y ∷ xs) zero x lt is here = ap (λ b. b || list_any p (map f xs)) (ap (λ z. p (f z)) (sym is) ∙ here)
any_map_at p f (y ∷ xs) (suc i) x lt is here = ap (λ b. p (f y) || b) (any_map_at p f xs i x (omega arith) is here) ∙ or_true (p (f y))
  where
    or_true : (b : Bool) → (b || true) ≡ true
    or_true true = refl
    or_true false = refl

pub any_bins_at : (p : Name → Bool) (bins : List BinFiles) (i : ℕ) (bin : BinFiles) → i < length bins → bin ≡ get_or bins i bin → list_any p bin.paths ≡ true → list_any p (flat_map bin_paths bins) ≡ true
any_bins_at p [] i bin lt is here = absurd (omega arith)
any_bins_at p (b ∷ bins) zero bin lt is here = list_any-append p b.paths (flat_map bin_paths bins) ∙ ap (λ t. t || list_any p (flat_map bin_paths bins)) (ap (λ (w : BinFiles). list_any p w.paths) (sym is) ∙ here)
any_bins_at p (b ∷ bins) (suc i) bin lt is here = list_any-append p b.paths (flat_map bin_paths bins) ∙ ap (λ t. list_any p b.paths || t) (any_bins_at p bins i bin (omega arith) is here) ∙ or_true (list_any p b.paths)
  where
    or_true : (b : Bool) → (b || true) ≡ true
    or_true true = refl
    or_true false = refl
