-- A tree after names have left and files have come.
use Rattle.std.proofs.Common.{◌≡◌, ◌⊎◌, ℕ, Bool, true, false, cond, ◌||◌, List, [], ◌∷◌, ◌++◌, Option, Some, None, refl, sym, ◌∙◌, ap, subst, inl, inr}
use Rattle.std.specs.List.{AllByRecursion}
use Rattle.std.specs.List.Sorted.{IsPermutation}
use Rattle.std.specs.Option.{option_or}
use Rattle.std.specs.FinMap as finite
use Rattle.std.specs.FinSet as set
use Rattle.std.specs.Cmp.Lexicographic.{nat_list_cmp_total}
use Rattle.std.proofs.lemmas.Bool.{cases_Bool, or_parts}
use Rattle.std.proofs.lemmas.List.Elements.{All-from_recursion, recursion_from_All}
use Rattle.std.proofs.lemmas.List.Sorted.{All-permutation, list_any-IsPermutation}
use Rattle.tl_model.specs.Volume.{Name, Names, Volume, at, same_name, same_name-is, same_name-refl}
use Rattle.tl_journal_text.specs.Records.{Record, after}
use Rattle.tl_tree.specs.Changes.{removed_all, written_all, names_of}
use Rattle.tl_tree.specs.Filled.{bytes_under}
use Rattle.tl_tree.specs.Staged.{has_name, has_file, LeavesOut, writes_of, records_for}
use Rattle.tl_tree.proofs.Distinct.{AreOnce, once-head, once-tail}
use Rattle.tl_tree.proofs.Lookups.{File, under-here, under-next, under-none}

-- a name, once some names have left
pub at-removed_all : (names : List Name) (tree : Volume) (name : Name) → at (removed_all names tree) name ≡ cond (has_name name names) None (at tree name)
at-removed_all [] tree name = refl
at-removed_all (gone ∷ names) tree name =
    at-removed_all names (finite.remove tree gone) name
    ∙ ap (λ (o : Option (List ℕ)). cond (has_name name names) None o) (finite.get-remove nat_list_cmp_total tree gone name)
    ∙ by (has_name name names) (same_name name gone)
  where
    by : (b c : Bool) → cond b None (cond c None (at tree name)) ≡ cond (c || b) None (at tree name)
    by true true = refl
    by true false = refl
    by false true = refl
    by false false = refl

-- what a tree holds after files were written that come once
pub at-written : (files : List File) (tree : Volume) (name : Name) → AreOnce (names_of files) → at (written_all files tree) name ≡ option_or (bytes_under name files) (at tree name)
at-written [] tree name once = refl
at-written (file ∷ files) tree name once =
    at-written files (finite.insert tree file.0 file.1) name (once-tail file.0 (names_of files) once)
    ∙ ap (λ (o : Option (List ℕ)). option_or (bytes_under name files) o) (finite.get-insert nat_list_cmp_total tree file.0 file.1 name)
    ∙ elim (cases_Bool (same_name name file.0)) [
      | inl e ↦
          let none : has_name name (names_of files) ≡ false = subst (λ (n : Name). has_name n (names_of files) ≡ false) (sym (same_name-is name file.0 e)) (once-head file.0 (names_of files) once) in
          ap (λ b. option_or (bytes_under name files) (cond b (Some file.1) (at tree name))) e
          ∙ ap (λ (o : Option (List ℕ)). option_or o (Some file.1)) (under-none files name none)
          ∙ ap (λ (o : Option (List ℕ)). option_or o (at tree name)) (sym (under-here file files name e))
      | inr e ↦
          ap (λ b. option_or (bytes_under name files) (cond b (Some file.1) (at tree name))) e
          ∙ ap (λ (o : Option (List ℕ)). option_or o (at tree name)) (sym (under-next file files name e))
    ]

-- a name that no file of those written has
pub at-written_apart : (files : List File) (tree : Volume) (name : Name) → has_file name files ≡ false → at (written_all files tree) name ≡ at tree name
at-written_apart [] tree name none = refl
at-written_apart (file ∷ files) tree name none =
    at-written_apart files (finite.insert tree file.0 file.1) name (or_parts _ _ none).1
    ∙ finite.get-insert nat_list_cmp_total tree file.0 file.1 name
    ∙ ap (λ b. cond b (Some file.1) (at tree name)) (or_parts _ _ none).0

-- a name that files have, each with the same bytes
at-written_here : (files : List File) (tree : Volume) (name : Name) (bytes : List ℕ) → AllByRecursion (λ (file : File). file.0 ≡ name → file.1 ≡ bytes) files
    → (has_file name files ≡ true) ⊎ (at tree name ≡ Some bytes) → at (written_all files tree) name ≡ Some bytes
at-written_here [] tree name bytes all (inl here) = absurd (cc)
at-written_here [] tree name bytes all (inr there) = there
at-written_here (file ∷ files) tree name bytes all holds =
    at-written_here files (finite.insert tree file.0 file.1) name bytes all.1 (by (cases_Bool (same_name name file.0)) holds)
  where
    next : at (finite.insert tree file.0 file.1) name ≡ cond (same_name name file.0) (Some file.1) (at tree name)
    next = finite.get-insert nat_list_cmp_total tree file.0 file.1 name

    by : (same_name name file.0 ≡ true) ⊎ (same_name name file.0 ≡ false) → ((same_name name file.0 || has_file name files) ≡ true) ⊎ (at tree name ≡ Some bytes)
        → (has_file name files ≡ true) ⊎ (at (finite.insert tree file.0 file.1) name ≡ Some bytes)
    by (inl e) some = inr (next ∙ ap (λ b. cond b (Some file.1) (at tree name)) e ∙ ap (λ (l : List ℕ). Some l) (all.0 (sym (same_name-is _ _ e))))
    by (inr e) (inl some) = inl (ap (λ b. b || has_file name files) (sym e) ∙ some)
    by (inr e) (inr there) = inr (next ∙ ap (λ b. cond b (Some file.1) (at tree name)) e ∙ there)

-- among files that come once, each with a name holds the same
one_under : (files : List File) (name : Name) → AreOnce (names_of files) → has_file name files ≡ true → (bytes : List ℕ) × AllByRecursion (λ (file : File). file.0 ≡ name → file.1 ≡ bytes) files
one_under [] name once there = absurd (cc)
one_under (file ∷ files) name once there = elim (cases_Bool (same_name name file.0)) [
  | inl e ↦ (file.1, (λ is. refl, no_other files (subst (λ (n : Name). has_name n (names_of files) ≡ false) (sym (same_name-is name file.0 e)) (once-head file.0 (names_of files) once))))
  | inr e ↦
      let rest = one_under files name (once-tail file.0 (names_of files) once) (ap (λ b. b || has_file name files) (sym e) ∙ there) in
      (rest.0, (λ is. absurd (apart e is), rest.1))
]
  where
    apart : same_name name file.0 ≡ false → file.0 ≡ name → ⊥
    apart e is = absurd (cc (sym e ∙ subst (λ (n : Name). same_name name n ≡ true) (sym is) (same_name-refl name)))

    no_other : (others : List File) → has_name name (names_of others) ≡ false → AllByRecursion (λ (other : File). other.0 ≡ name → other.1 ≡ file.1) others
    no_other [] none = tt
    no_other (other ∷ others) none =
        let both = or_parts (same_name name other.0) (has_name name (names_of others)) none in
        (λ is. absurd (cc (sym both.0 ∙ subst (λ (n : Name). same_name name n ≡ true) (sym is) (same_name-refl name))), no_other others both.1)

-- files in another order come to the same, and so do fewer names that leave, where those left out come or are waited for
pub at-arranged : (files sorted : List File) (waiting : Names) (names kept : List Name) (tree : Volume) (name : Name) → AreOnce (names_of files) → IsPermutation files sorted → LeavesOut sorted waiting names kept
    → set.contains waiting name ≡ false → at (written_all sorted (removed_all kept tree)) name ≡ at (written_all files (removed_all names tree)) name
at-arranged files sorted waiting names kept tree name once moved left free = by (cases_Bool (has_file name files))
  where
    same : has_file name sorted ≡ has_file name files
    same = sym (list_any-IsPermutation (λ (file : File). same_name name file.0) files sorted moved)

    by : (has_file name files ≡ true) ⊎ (has_file name files ≡ false) → at (written_all sorted (removed_all kept tree)) name ≡ at (written_all files (removed_all names tree)) name
    by (inl there) =
        let one = one_under files name once there in
        let Bytes : File → Type 0 = λ file. file.0 ≡ name → file.1 ≡ one.0 in
        let moved_all : AllByRecursion Bytes sorted = recursion_from_All Bytes sorted (All-permutation Bytes files sorted moved (All-from_recursion Bytes files one.1)) in
        at-written_here sorted (removed_all kept tree) name one.0 moved_all (inl (same ∙ there))
        ∙ sym (at-written_here files (removed_all names tree) name one.0 one.1 (inl there))
    by (inr none) =
        at-written_apart sorted (removed_all kept tree) name (same ∙ none)
        ∙ at-removed_all kept tree name
        ∙ ap (λ b. cond b None (at tree name)) (left name (same ∙ none) free)
        ∙ sym (at-removed_all names tree name)
        ∙ sym (at-written_apart files (removed_all names tree) name none)

after_writes : (files : List File) (tree : Volume) → after (writes_of files) tree ≡ written_all files tree
after_writes [] tree = refl
after_writes (file ∷ files) tree = after_writes files (finite.insert tree file.0 file.1)

-- what the records of a step make of a tree
pub after-records : (names : List Name) (files : List File) (tree : Volume) → after (records_for names files) tree ≡ written_all files (removed_all names tree)
after-records [] files tree = after_writes files tree
after-records (name ∷ names) files tree = after-records names files (finite.remove tree name)

after-append : (rs ss : List Record) (tree : Volume) → after (rs ++ ss) tree ≡ after ss (after rs tree)
after-append [] ss tree = refl
after-append (r ∷ rs) ss tree = after-append rs ss _

-- and more files behind them
pub after-records_more : (names : List Name) (files more : List File) (tree : Volume) → after (records_for names files ++ writes_of more) tree ≡ written_all more (written_all files (removed_all names tree))
after-records_more names files more tree =
    after-append (records_for names files) (writes_of more) tree
    ∙ after_writes more (after (records_for names files) tree)
    ∙ ap (λ (v : Volume). written_all more v) (after-records names files tree)
