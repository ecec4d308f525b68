-- The records of a step make of a tree what its change says, with the files that were given for it.
use Rattle.std.proofs.Common.{◌≡◌, ◌⊎◌, ℕ, true, false, List, [], ◌++◌, Option, Some, sym, ◌∙◌, ap, subst, inl, inr}
use Rattle.std.specs.Prelude.{if◌then◌else◌}
use Rattle.std.specs.Option.{option_or, unwrap_or}
use Rattle.std.specs.List.Sorted.{IsPermutation}
use Rattle.std.specs.FinSet as set
use Rattle.std.specs.Cmp.Lexicographic.{nat_list_cmp_total}
use Rattle.std.proofs.lemmas.Bool.{cases_Bool}
use Rattle.tl_model.specs.Volume.{Name, Volume, at, same_volume}
use Rattle.tl_journal_text.specs.Records.{after}
use Rattle.tl_entry.specs.declared.object.Object.{Object}
use Rattle.tl_tree.specs.declared.change.Part.{Part}
use Rattle.tl_tree.specs.Staged.{has_name, has_file, LeavesOut, writes_of, records_for}
use Rattle.tl_tree.specs.Changes.{later, leaving, coming, names_of, made, written, has_entries, removed_all, written_all, changed, entries_after}
use Rattle.tl_tree.specs.Conditions.{IsChange}
use Rattle.tl_tree.specs.Filled.{bytes_under, filled}
use Rattle.tl_tree.proofs.Distinct.{AreOnce}
use Rattle.tl_tree.proofs.Lookups.{File, has_name-names_of, under-append, under-none, under-some}
use Rattle.tl_tree.proofs.Trees.{at-written, at-arranged, after-records_more}
use Rattle.tl_tree.proofs.Spoken.{written_once}
use Rattle.tl_tree.proofs.Fillings.{leaving-filled, entries-filled, has_entries-filled, change-filled, under-other, under-late}

module _ (db : List Object) (parts : List Part) (label : List ℕ) (is : IsChange db parts label) (files writes : List File) (removes : List Name)
    (moved : IsPermutation (written parts (entries_after parts db)) writes) (left : LeavesOut writes (set.from_list (later parts)) (leaving db parts) removes)
    (once : AreOnce (names_of files)) (came : (name : Name) → has_file name files ≡ has_name name (later parts)) (tree : Volume) where
  abbrev next : List Object
  next = entries_after parts db

  abbrev rest : Volume
  rest = removed_all (leaving db parts) tree

  abbrev made_now : List File
  made_now = if has_entries parts then made next else []

  -- the change with the files, over what is left of the tree
  filled_is : changed db (filled files parts) tree ≡ written_all (coming (filled files parts) ++ made_now) rest
  filled_is =
      ap (λ (os : List Object). written_all (coming (filled files parts) ++ (if has_entries (filled files parts) then made os else [])) (removed_all (leaving db (filled files parts)) tree)) (entries-filled files parts db)
      ∙ ap (λ b. written_all (coming (filled files parts) ++ (if b then made next else [])) (removed_all (leaving db (filled files parts)) tree)) (has_entries-filled files parts)
      ∙ ap (λ (names : List Name). written_all (coming (filled files parts) ++ made_now) (removed_all names tree)) (leaving-filled files db parts)

  filled_once : AreOnce (names_of (coming (filled files parts) ++ made_now))
  filled_once = subst (λ b. AreOnce (names_of (coming (filled files parts) ++ (if b then made next else [])))) (has_entries-filled files parts) (written_once db (filled files parts) label (change-filled files db parts label is) next)

  -- what it holds
  at-filled : (name : Name) → at (changed db (filled files parts) tree) name ≡ option_or (option_or (bytes_under name (coming (filled files parts))) (bytes_under name made_now)) (at rest name)
  at-filled name =
      ap (λ (v : Volume). at v name) filled_is
      ∙ at-written (coming (filled files parts) ++ made_now) rest name filled_once
      ∙ ap (λ (o : Option (List ℕ)). option_or o (at rest name)) (under-append (coming (filled files parts)) made_now name)

  -- and what the records make
  abbrev staged_tree : Volume
  staged_tree = written_all writes (removed_all removes tree)

  pub whole : after (records_for removes writes ++ writes_of files) tree ≡ changed db (filled files parts) tree
  whole = after-records_more removes writes files tree ∙ same_volume _ _ (λ name. at-written files staged_tree name once ∙ by name (cases_Bool (has_name name (later parts))) ∙ sym (at-filled name))
    where
      by : (name : Name) → (has_name name (later parts) ≡ true) ⊎ (has_name name (later parts) ≡ false)
          → option_or (bytes_under name files) (at staged_tree name) ≡ option_or (option_or (bytes_under name (coming (filled files parts))) (bytes_under name made_now)) (at rest name)
      by name (inl late) =
          let one = under-some files name (has_name-names_of name files ∙ came name ∙ late) in
          ap (λ (o : Option (List ℕ)). option_or o (at staged_tree name)) one.1
          ∙ sym (ap (λ (o : Option (List ℕ)). option_or (option_or o (bytes_under name made_now)) (at rest name)) (under-late files parts name is.paths late ∙ ap (λ (o : Option (List ℕ)). Some (unwrap_or o [])) one.1))
      by name (inr other) =
          let free : set.contains (set.from_list (later parts)) name ≡ false = set.contains-from_list nat_list_cmp_total (later parts) name ∙ other in
          ap (λ (o : Option (List ℕ)). option_or o (at staged_tree name)) (under-none files name (has_name-names_of name files ∙ came name ∙ other))
          ∙ at-arranged (written parts next) writes (set.from_list (later parts)) (leaving db parts) removes tree name (written_once db parts label is next) moved left free
          ∙ at-written (written parts next) rest name (written_once db parts label is next)
          ∙ ap (λ (o : Option (List ℕ)). option_or o (at rest name)) (under-append (coming parts) made_now name)
          ∙ sym (ap (λ (o : Option (List ℕ)). option_or (option_or o (bytes_under name made_now)) (at rest name)) (under-other files parts name other))
