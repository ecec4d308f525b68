-- The sets of names of an update, by what walks gather.
use Rattle.std.proofs.Common.{◌≡◌, ◌↔◌, ℕ, Bool, true, false, ◌||◌, ◌&&◌, List, [], ◌++◌, length, map, Option, refl, sym, ap, subst, ◌∙◌}
use Rattle.std.specs.Prelude.{filter, not, is_some, IsTrue}
use Rattle.std.specs.List.{flat_map}
use Rattle.std.specs.Str.{bytes_eq}
use Rattle.std.proofs.Math.Path.{fun_ext}
use Rattle.std.proofs.lemmas.List.Folds.{list_any-append}
use Rattle.indexmap.specs.IndexSet.{insert_all}
use Rattle.tl_entry.specs.declared.object.Object.{Object}
use Rattle.tl_db.specs.Entries.{entry_of}
use Rattle.tl_db.specs.declared.repo.Repo.{Repo}
use Rattle.tl_pin.specs.declared.line.PinLine.{PinLine}
use Rattle.tl_pin.specs.Candidates.{view_entry}
use Rattle.tl_depend.specs.Names.{named_of}
use Rattle.tl_depend.specs.Needed.{tree_platforms}
use Rattle.tl_depend.specs.Reach.{IsReached}
use Rattle.tl_plan.specs.Removal.{is_among}
use Rattle.tl_bring.specs.Coming.{known_entries, may_come, parts_in}
use Rattle.tl_bring.specs.Reached.{reached_by, all_named}
use Rattle.tl_bring.proofs.InstallLaws.{enough, reached_at}
use Rattle.tl_renew.specs.Sets.{HaveSame}
use Rattle.tl_renew.specs.Updated.{has_update, updated_among, with_beside, comes_beside}
use Rattle.tl_renew.specs.Unasked.{named_installed, named_newly, collected, newly_collected, may_come_unasked, reached_in_view, auto_installed, may_leave, auto_removed}
use Rattle.tl_renew.proofs.SameLaws.{Texts, among_filter, same_set, same_two, same_filter, same_flat, same_reached}

-- one of two sets, where each of the second's names that isn't in the first passes a test
either_passes : (a b m : Bool) → ((a || m) && (a || b)) ≡ (a || (m && b))
either_passes true b m = refl
either_passes false b m = refl

both_pass : (c b m : Bool) → (m && ((m && c) || b)) ≡ ((m && c) || (m && b))
both_pass c b true = refl
both_pass c b false = refl

module _ (pins : List PinLine) (repos : List Repo) (db : List Object) where
  abbrev entry : List ℕ → Option Object
  entry = view_entry pins repos db

  abbrev parts : Texts → Texts
  parts names = parts_in entry (tree_platforms db) names

  -- names and their binary parts, by what a walk over a view gathers
  pub parts_gathered : (view : List Object) (platforms names keys : Texts) → ((name : List ℕ) → entry_of name view ≡ view_entry pins repos db name) → platforms ≡ tree_platforms db
      → keys ≡ insert_all bytes_eq (insert_all bytes_eq [] names) (parts_in (λ n. entry_of n view) platforms names) → HaveSame keys (names ++ parts_in (view_entry pins repos db) (tree_platforms db) names)
  parts_gathered view platforms names keys at are is name =
      ap (is_among name) (is
      ∙ ap (λ (e : List ℕ → Option Object). insert_all bytes_eq (insert_all bytes_eq [] names) (parts_in e platforms names)) (fun_ext at)
      ∙ ap (λ (ps : Texts). insert_all bytes_eq (insert_all bytes_eq [] names) (parts_in entry ps names)) are)
      ∙ same_two names (parts names) name

  -- what is updated where the same names are asked for
  pub updated_alike : (all : Bool) (asked names : Texts) → HaveSame asked names → updated_among pins repos all asked db ≡ updated_among pins repos all names db
  updated_alike all asked names same =
      ap (λ (p : Object → Bool). map (λ (e : Object). e.name) (filter p db))
      (fun_ext (λ (e : Object). ap (λ t. has_update pins repos e && (all || t)) (same e.name)))

  -- updated names and what comes beside them
  pub beside_is : (updated names looked keys : Texts) → HaveSame updated names → HaveSame looked (updated ++ parts_in (view_entry pins repos db) (tree_platforms db) updated)
      → keys ≡ insert_all bytes_eq [] (filter (comes_beside pins repos db updated) looked) → HaveSame keys (with_beside pins repos db names)
  beside_is updated names looked keys same looks is name =
      ap (is_among name) is ∙ same_set (filter (comes_beside pins repos db updated) looked) name
      ∙ among_filter (comes_beside pins repos db updated) name looked
      ∙ ap (λ t. (is_among name updated || may_come pins repos db name) && t) (looks name ∙ list_any-append (bytes_eq name) updated (parts updated))
      ∙ either_passes (is_among name updated) (is_among name (parts updated)) (may_come pins repos db name)
      ∙ ap (λ t. t || (may_come pins repos db name && is_among name (parts updated))) (same name)
      ∙ ap (λ t. is_among name names || t) (sym (among_filter (may_come pins repos db) name (parts updated))
      ∙ same_filter (may_come pins repos db) (parts updated) (parts names) (same_flat _ updated names same) name)
      ∙ sym (list_any-append (bytes_eq name) names (filter (may_come pins repos db) (parts names)))

  -- names that leave and the binary parts that leave with them
  pub leaving_is : (named leaving looked keys : Texts) → HaveSame named (collected db) → leaving ≡ insert_all bytes_eq [] (filter (may_leave pins repos db) named)
      → HaveSame looked (leaving ++ parts_in (view_entry pins repos db) (tree_platforms db) leaving)
      → keys ≡ insert_all bytes_eq [] (filter (may_leave pins repos db) looked) → HaveSame keys (auto_removed pins repos db)
  leaving_is named leaving looked keys same left looks is name =
      let leaves : List ℕ → Bool = may_leave pins repos db in
      let all : Texts = filter leaves (collected db) in
      let alike : HaveSame leaving all = λ n. ap (is_among n) left ∙ same_set (filter leaves named) n ∙ same_filter leaves named (collected db) same n in
      ap (is_among name) is ∙ same_set (filter leaves looked) name
      ∙ among_filter leaves name looked
      ∙ ap (λ t. leaves name && t) (looks name ∙ list_any-append (bytes_eq name) leaving (parts leaving))
      ∙ ap (λ t. leaves name && (t || is_among name (parts leaving))) (alike name ∙ among_filter leaves name (collected db))
      ∙ both_pass (is_among name (collected db)) (is_among name (parts leaving)) (leaves name)
      ∙ ap (λ t. t || (leaves name && is_among name (parts leaving))) (sym (among_filter leaves name (collected db)))
      ∙ ap (λ t. is_among name all || t) (sym (among_filter leaves name (parts leaving))
      ∙ same_filter leaves (parts leaving) (parts all) (same_flat _ leaving all alike) name)
      ∙ sym (list_any-append (bytes_eq name) all (filter leaves (parts all)))

  -- what some names reach, by what a walk over a view gathers
  pub reached_same : (view : List Object) (platforms roots keys : Texts) → ((name : List ℕ) → entry_of name view ≡ view_entry pins repos db name) → platforms ≡ tree_platforms db
      → ((name : List ℕ) → IsTrue (is_among name keys) ↔ IsReached view platforms roots name) → HaveSame keys (reached_in_view pins repos db roots)
  reached_same view platforms roots keys at are means name =
      let count : ℕ = length (all_named (tree_platforms db) (known_entries repos db)) in
      reached_at view (tree_platforms db) count (enough pins repos db view (tree_platforms db) at) roots name (is_among name keys)
      (subst (λ (ps : Texts). IsTrue (is_among name keys) ↔ IsReached view ps roots name) are (means name))
      ∙ ap (λ (e : List ℕ → Option Object). is_among name (reached_by count (λ n. named_of (tree_platforms db) (e n)) roots)) (fun_ext at)

  -- what comes though no one asked for it
  pub unasked_is : (again : Bool) (named newly roots all keys : Texts) → HaveSame named (collected db) → HaveSame newly (newly_collected pins repos db)
      → roots ≡ insert_all bytes_eq [] (filter (may_come_unasked pins repos db named again) newly) → HaveSame all (reached_in_view pins repos db roots)
      → keys ≡ insert_all bytes_eq [] (filter (may_come_unasked pins repos db named again) all) → HaveSame keys (auto_installed pins repos db again)
  unasked_is again named newly roots all keys same news rooted reaches is name =
      let comes : List ℕ → Bool = may_come_unasked pins repos db (collected db) again in
      let test : may_come_unasked pins repos db named again ≡ comes =
      fun_ext (λ n. ap (λ t. may_come pins repos db n && not (not again && (t && not (is_some (entry_of n db))))) (same n)) in
      let first : HaveSame roots (filter comes (newly_collected pins repos db)) =
      λ n. ap (is_among n) (rooted ∙ ap (λ (p : List ℕ → Bool). insert_all bytes_eq [] (filter p newly)) test) ∙ same_set (filter comes newly) n
      ∙ same_filter comes newly (newly_collected pins repos db) news n in
      let reached : HaveSame all (reached_in_view pins repos db (filter comes (newly_collected pins repos db))) =
      λ n. reaches n ∙ same_reached (length (all_named (tree_platforms db) (known_entries repos db))) (λ x. named_of (tree_platforms db) (view_entry pins repos db x)) roots (filter comes (newly_collected pins repos db)) first n in
      ap (is_among name) (is ∙ ap (λ (p : List ℕ → Bool). insert_all bytes_eq [] (filter p all)) test) ∙ same_set (filter comes all) name
      ∙ same_filter comes all (reached_in_view pins repos db (filter comes (newly_collected pins repos db))) reached name

  pub collected_same : (platforms keys : Texts) → platforms ≡ tree_platforms db → keys ≡ insert_all bytes_eq [] (flat_map (named_installed platforms) db) → HaveSame keys (collected db)
  collected_same platforms keys are is name =
      ap (is_among name) (is ∙ ap (λ (ps : Texts). insert_all bytes_eq [] (flat_map (named_installed ps) db)) are) ∙ same_set (collected db) name

  pub newly_same : (platforms keys : Texts) → platforms ≡ tree_platforms db → keys ≡ insert_all bytes_eq [] (flat_map (named_newly pins repos platforms) db)
      → HaveSame keys (newly_collected pins repos db)
  newly_same platforms keys are is name =
      ap (is_among name) (is ∙ ap (λ (ps : Texts). insert_all bytes_eq [] (flat_map (named_newly pins repos ps) db)) are) ∙ same_set (newly_collected pins repos db) name
