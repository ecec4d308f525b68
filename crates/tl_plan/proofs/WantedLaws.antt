-- What the sets of names say that a walk over the entries gathers.
use Rattle.std.proofs.Common.{◌≡◌, ℕ, Bool, true, false, cond, Vec, not, ◌||◌, ◌&&◌, List, [], ◌∷◌, ◌++◌, Option, refl, sym, ap, subst, ◌∙◌}
use Rattle.std.specs.Prelude.{find, filter, map, is_some, option_map, codes}
use Rattle.std.specs.declared.alloc.Global.{Global}
use Rattle.tl_path.specs.Names.{is_name}
use Rattle.std.specs.List.{list_any, flat_map}
use Rattle.std.specs.Str.{bytes_eq}
use Rattle.std.proofs.Math.Path.{fun_ext}
use Rattle.indexmap.specs.IndexSet.{insert_all}
use Rattle.tl_entry.specs.declared.object.Object.{Object}
use Rattle.tl_depend.specs.Names.{named_by}
use Rattle.tl_depend.specs.Needed.{tree_platforms, is_meta, stands_for, needs_name, needed_by}
use Rattle.tl_plan.specs.Removal.{is_among, is_protected, is_collection, gathers, is_gathered, is_needed, leaves_itself, leaves_with, binary_parts, parts_by, names_by, leaving_names}
use Rattle.tl_plan.specs.Wanted.{leaves_by, AreWanted}
use Rattle.tl_plan.specs.declared.asked.Wanted.{Wanted}
use Rattle.tl_plan.proofs.SetLaws.{any_alike, find_alike, found_any, any_flat, among_either, among_all}

abbrev Texts : Type 0
Texts = List (List ℕ)

-- the names that depends stand for are found by the test of each depend
pub named_among : (platforms : Texts) (name : List ℕ) (depends : Texts) → is_among name (flat_map (named_by platforms) depends) ≡ list_any (stands_for platforms name) depends
named_among platforms name depends =
    any_flat (bytes_eq name) (named_by platforms) depends
    ∙ any_alike (λ depend. list_any (bytes_eq name) (named_by platforms depend)) (stands_for platforms name) depends (λ depend. among_either name (named_by platforms depend))

-- names to which those are added that some depends stand for
pub named_added : (platforms : Texts) (name : List ℕ) (keys depends : Texts)
    → is_among name (insert_all bytes_eq keys (flat_map (named_by platforms) depends)) ≡ (is_among name keys || list_any (stands_for platforms name) depends)
named_added platforms name keys depends =
    among_all name keys (flat_map (named_by platforms) depends) ∙ ap (λ t. is_among name keys || t) (named_among platforms name depends)

-- what is among names to which those of a collection were added that is asked for
pub gathered_here : (platforms asked keys after depends : Texts) (entry : Object) (name : List ℕ) → is_collection entry.category ≡ true → is_among entry.name asked ≡ true → depends ≡ entry.depends
    → after ≡ insert_all bytes_eq keys (flat_map (named_by platforms) depends) → is_among name after ≡ (is_among name keys || gathers platforms asked name entry)
gathered_here platforms asked keys after depends entry name collects among same is =
    let found : Bool = list_any (stands_for platforms name) entry.depends in
    ap (is_among name) is ∙ named_added platforms name keys depends
    ∙ ap (λ (ds : Texts). is_among name keys || list_any (stands_for platforms name) ds) same
    ∙ ap (λ t. is_among name keys || t) (sym (ap (λ t. (t && is_among entry.name asked) && found) collects ∙ ap (λ t. (true && t) && found) among))

-- what is among names to which those of a collection or scheme were added that isn't asked for
pub needed_here : (platforms asked keys after depends : Texts) (entry : Object) (name : List ℕ) → is_meta entry.category ≡ true → is_among entry.name asked ≡ false → depends ≡ entry.depends
    → after ≡ insert_all bytes_eq keys (flat_map (named_by platforms) depends) → is_among name after ≡ (is_among name keys || needs_name platforms name asked entry)
needed_here platforms asked keys after depends entry name meta apart same is =
    let found : Bool = list_any (stands_for platforms name) entry.depends in
    ap (is_among name) is ∙ named_added platforms name keys depends
    ∙ ap (λ (ds : Texts). is_among name keys || list_any (stands_for platforms name) ds) same
    ∙ ap (λ t. is_among name keys || t) (sym (ap (λ t. (t && not (is_among entry.name asked)) && found) meta ∙ ap (λ t. (true && not t) && found) apart))

-- the binary parts of an entry that has some
pub parts_named : (platforms : List (Vec ℕ Global)) (entry : Object) (front : List ℕ) → front ≡ entry.name → is_among (entry.name ++ codes ".ARCH") entry.depends ≡ true
    → filter is_name (map (λ (platform : Vec ℕ Global). front ++ 46 ∷ platform.items) platforms) ≡ binary_parts (map (λ (platform : Vec ℕ Global). platform.items) platforms) entry
parts_named platforms entry front is there =
    ap (filter is_name) (texts platforms)
    ∙ sym (ap (λ t. cond t (filter is_name (map (λ (platform : List ℕ). entry.name ++ 46 ∷ platform) (map (λ (platform : Vec ℕ Global). platform.items) platforms))) []) there)
  where
    texts : (ps : List (Vec ℕ Global)) → map (λ (platform : Vec ℕ Global). front ++ 46 ∷ platform.items) ps ≡ map (λ (platform : List ℕ). entry.name ++ 46 ∷ platform) (map (λ (platform : Vec ℕ Global). platform.items) ps)
    texts [] = refl
    texts (p ∷ ps) =
        ap (λ (f : List ℕ). (f ++ 46 ∷ p.items) ∷ map (λ (platform : Vec ℕ Global). front ++ 46 ∷ platform.items) ps) is
        ∙ ap (λ (rest : Texts). (entry.name ++ 46 ∷ p.items) ∷ rest) (texts ps)

module _ (db : List Object) (names asked : Texts) (same : (name : List ℕ) → is_among name asked ≡ is_among name names) where
  gathers_alike : (platforms : Texts) (name : List ℕ) (entry : Object) → gathers platforms asked name entry ≡ gathers platforms names name entry
  gathers_alike platforms name entry = ap (λ t. (is_collection entry.category && t) && list_any (stands_for platforms name) entry.depends) (same entry.name)

  needs_alike : (platforms : Texts) (name : List ℕ) (entry : Object) → needs_name platforms name asked entry ≡ needs_name platforms name names entry
  needs_alike platforms name entry = ap (λ t. (is_meta entry.category && not t) && list_any (stands_for platforms name) entry.depends) (same entry.name)

  -- what is gathered and needed where the same names are asked for
  pub gathered_alike : (name : List ℕ) → is_gathered db asked name ≡ is_gathered db names name
  gathered_alike name = any_alike _ _ db (gathers_alike (tree_platforms db) name)

  pub needed_alike : (name : List ℕ) → needed_by db name asked ≡ needed_by db name names
  needed_alike name = ap (option_map (λ (entry : Object). entry.name)) (find_alike _ _ db (needs_alike (tree_platforms db) name))

  -- the sets of a walk
  pub are_wanted : (wanted : Wanted) → wanted.asked.keys ≡ asked
      → ((name : List ℕ) → is_among name wanted.gathered.keys ≡ list_any (gathers (tree_platforms db) asked name) db)
      → ((name : List ℕ) → is_among name wanted.needed.keys ≡ list_any (needs_name (tree_platforms db) name asked) db)
      → AreWanted db names wanted
  are_wanted wanted is gathered needed = record {
    as_asked = λ name. ap (λ (keys : Texts). is_among name keys) is ∙ same name;
    as_gathered = λ name. gathered name ∙ gathered_alike name;
    as_needed = λ name. needed name ∙ sym (found_any (λ (entry : Object). entry.name) (needs_name (tree_platforms db) name asked) db) ∙ ap is_some (needed_alike name);
  }

module _ (db : List Object) (names : Texts) (wanted : Wanted) (are : AreWanted db names wanted) where
  itself_alike : (entry : Object) → leaves_by wanted entry ≡ leaves_itself db names entry
  itself_alike entry =
      ap (λ t. t || (not (is_meta entry.category) && (is_among entry.name wanted.gathered.keys && not (is_among entry.name wanted.needed.keys)))) (are.as_asked entry.name)
      ∙ ap (λ t. is_among entry.name names || (not (is_meta entry.category) && (t && not (is_among entry.name wanted.needed.keys)))) (are.as_gathered entry.name)
      ∙ ap (λ t. is_among entry.name names || (not (is_meta entry.category) && (is_gathered db names entry.name && not t))) (are.as_needed entry.name)

  -- the names that leave by the sets
  pub names_alike : (parts : Texts) → parts ≡ insert_all bytes_eq [] (parts_by (leaves_by wanted) (tree_platforms db) db) → names_by (leaves_by wanted) parts db ≡ leaving_names db names
  names_alike parts is =
      let itself : leaves_by wanted ≡ leaves_itself db names = fun_ext itself_alike in
      let all : Texts = parts_by (leaves_by wanted) (tree_platforms db) db in
      let test : leaves_with (leaves_by wanted) parts ≡ leaves_with (leaves_by wanted) all =
      fun_ext (λ (entry : Object). ap (λ t. not (is_protected entry.name) && (leaves_by wanted entry || t)) (ap (λ (keys : Texts). is_among entry.name keys) is ∙ among_all entry.name [] all)) in
      ap (λ (t : Object → Bool). map (λ (entry : Object). entry.name) (filter t db)) test
      ∙ ap (λ (t : Object → Bool). names_by t (parts_by t (tree_platforms db) db) db) itself
