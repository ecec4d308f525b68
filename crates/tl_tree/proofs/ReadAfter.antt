-- After a change the database in the tree reads as its entries.
use Rattle.std.proofs.Common.{◌≡◌, ℕ, true, false, cond, List, [], Option, None, sym, ◌∙◌, ap, subst, inl, inr}
use Rattle.std.specs.Prelude.{if◌then◌else◌}
use Rattle.std.specs.Option.{option_or, unwrap_or}
use Rattle.std.proofs.lemmas.Bool.{cases_Bool, false_from_ne_true}
use Rattle.tl_model.specs.Volume.{Volume, at}
use Rattle.tl_entry.specs.declared.object.Object.{Object}
use Rattle.tl_db.specs.Reading.{IsRead}
use Rattle.tl_db.specs.Text.{db_text}
use Rattle.tl_tree.specs.declared.change.Part.{Part}
use Rattle.tl_tree.specs.Planted.{database, database_text}
use Rattle.tl_tree.specs.Staged.{has_name}
use Rattle.tl_tree.specs.Changes.{leaving, coming, names_of, made, written, has_entries, removed_all, changed, entries_after}
use Rattle.tl_tree.specs.Conditions.{IsLoose, IsChange}
use Rattle.tl_tree.specs.Filled.{bytes_under}
use Rattle.tl_tree.proofs.Lookups.{under-right}
use Rattle.tl_tree.proofs.Trees.{at-written, at-removed_all}
use Rattle.tl_tree.proofs.Spoken.{leaving_loose, coming_loose, written_once}
use Rattle.tl_tree.proofs.AfterParts.{after_none}

-- the database is one of the files that steps make
not_loose : {G : Type 0} → IsLoose database → G
not_loose is = absurd (cc (is.unmade))

module _ (db : List Object) (parts : List Part) (label : List ℕ) (is : IsChange db parts label) (tree : Volume) where
  unspoken : has_name database (names_of (coming parts)) ≡ false
  unspoken = false_from_ne_true _ (λ here. not_loose (coming_loose db parts label is database here))

  stays : has_name database (leaving db parts) ≡ false
  stays = false_from_ne_true _ (λ here. not_loose (leaving_loose db parts is.beside database here))

  here : at (changed db parts tree) database ≡ option_or (bytes_under database (if has_entries parts then made (entries_after parts db) else [])) (at (removed_all (leaving db parts) tree) database)
  here =
      at-written (written parts (entries_after parts db)) (removed_all (leaving db parts) tree) database (written_once db parts label is (entries_after parts db))
      ∙ ap (λ (o : Option (List ℕ)). option_or o (at (removed_all (leaving db parts) tree) database))
      (under-right (coming parts) (if has_entries parts then made (entries_after parts db) else []) database unspoken)

  -- where it speaks of an entry, the text is that of the new entries; else it is what it was
  pub read_after : (has_entries parts ≡ true → IsRead (db_text (entries_after parts db)) (entries_after parts db)) → IsRead (database_text tree) db
      → IsRead (database_text (changed db parts tree)) (entries_after parts db)
  read_after entered read = elim (cases_Bool (has_entries parts)) [
    | inl e ↦
        let text : database_text (changed db parts tree) ≡ db_text (entries_after parts db) =
        ap (λ (o : Option (List ℕ)). unwrap_or o []) (here ∙ ap (λ b. option_or (bytes_under database (if b then made (entries_after parts db) else [])) (at (removed_all (leaving db parts) tree) database)) e) in
        subst (λ (l : List ℕ). IsRead l (entries_after parts db)) (sym text) (entered e)
    | inr e ↦
        let text : database_text (changed db parts tree) ≡ database_text tree =
        ap (λ (o : Option (List ℕ)). unwrap_or o []) (here ∙ ap (λ b. option_or (bytes_under database (if b then made (entries_after parts db) else [])) (at (removed_all (leaving db parts) tree) database)) e
        ∙ at-removed_all (leaving db parts) tree database ∙ ap (λ b. cond b None (at tree database)) stays) in
        subst (λ (l : List ℕ). IsRead l (entries_after parts db)) (sym text) (subst (λ (os : List Object). IsRead (database_text tree) os) (sym (after_none parts db e)) read)
  ]
