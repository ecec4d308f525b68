-- The entries of a database after a change, by their names.
use Rattle.std.proofs.Common.{◌≡◌, Bool, true, false, cond, ◌||◌, List, [], ◌∷◌, Some, None, refl, sym, ◌∙◌, ap, subst}
use Rattle.std.specs.Prelude.{not, filter, find}
use Rattle.std.specs.List.{flat_map, AllByRecursion}
use Rattle.std.proofs.lemmas.Bool.{true≢false, false_from_ne_true, or_parts}
use Rattle.tl_model.specs.Volume.{Name, same_name, same_name-is, same_name-refl}
use Rattle.tl_entry.specs.Rising.{insert_by, comes_before}
use Rattle.tl_entry.specs.declared.object.Object.{Object}
use Rattle.tl_db.specs.Entries.{entry_of, others}
use Rattle.tl_tree.specs.declared.change.Part.{Part}
use Rattle.tl_tree.specs.declared.change.Part.TheVariants.{Put, Remove, Entry, Write, Erase, Stream, Later}
use Rattle.tl_tree.specs.Staged.{has_name}
use Rattle.tl_tree.specs.Changes.{own, with_entry, entries_by, entries_after}
use Rattle.tl_tree.specs.Conditions.{spoken_names, spoken_names_by}
use Rattle.tl_tree.proofs.Distinct.{AreOnce, has_name-append, has_left, has_right, once-cross, once-right}

-- whether an entry has this name
abbrev test : Name → Object → Bool
test name entry = same_name entry.name name

name_of : Object → Name
name_of entry = entry.name

-- one entry more, which alone may pass a test
abbrev Again : (Object → Bool) → Object → List Object → Type 0
Again p x ys = (p x ≡ true → find p ys ≡ None) → find p (insert_by (λ (o : Object). o.name) x ys) ≡ cond (p x) (Some x) (find p ys)

find-insert : (p : Object → Bool) (x : Object) (ys : List Object) → Again p x ys
find-insert p x [] alone = refl
find-insert p x (y ∷ ys) alone = by (find-insert p x ys) (comes_before x.name y.name)
  where
    rest : p x ≡ true → p y ≡ false → find p ys ≡ None
    rest e none = sym (ap (λ b. cond b (Some y) (find p ys)) none) ∙ alone e

    here : Again p x ys → (b c : Bool) → p x ≡ b → p y ≡ c → cond c (Some y) (find p (insert_by (λ (o : Object). o.name) x ys)) ≡ cond b (Some x) (cond c (Some y) (find p ys))
    here again true true ex ey = absurd (cc (sym (ap (λ b. cond b (Some y) (find p ys)) ey) ∙ alone ex))
    here again true false ex ey = again (λ e. rest e ey) ∙ ap (λ b. cond b (Some x) (find p ys)) ex
    here again false true ex ey = refl
    here again false false ex ey = again (λ e. absurd (true≢false (sym e ∙ ex))) ∙ ap (λ b. cond b (Some x) (find p ys)) ex

    by : Again p x ys → (b : Bool) → find p (cond b (x ∷ y ∷ ys) (y ∷ insert_by (λ (o : Object). o.name) x ys)) ≡ cond (p x) (Some x) (find p (y ∷ ys))
    by again true = refl
    by again false = here again (p x) (p y) refl refl

-- entries that are left out don't have the name, or none with it is left out
find-left : (p q : Object → Bool) (xs : List Object) (b : Bool) → ((x : Object) → p x ≡ true → q x ≡ b) → find p (filter q xs) ≡ cond b (find p xs) None
find-left p q [] true alike = refl
find-left p q [] false alike = refl
find-left p q (x ∷ xs) b alike = by (find-left p q xs b alike) (q x) refl
  where
    kept : find p (filter q xs) ≡ cond b (find p xs) None → (c : Bool) → p x ≡ c → q x ≡ true → cond c (Some x) (find p (filter q xs)) ≡ cond b (cond c (Some x) (find p xs)) None
    kept again true ep eq = ap (λ d. cond d (Some x) None) (sym eq ∙ alike x ep)
    kept again false ep eq = again

    is_false : p x ≡ true → q x ≡ false → b ≡ false
    is_false ep eq = sym (alike x ep) ∙ eq

    gone : find p (filter q xs) ≡ cond b (find p xs) None → (c : Bool) → p x ≡ c → q x ≡ false → find p (filter q xs) ≡ cond b (cond c (Some x) (find p xs)) None
    gone again true ep eq = again ∙ ap (λ d. cond d (find p xs) None) (is_false ep eq) ∙ sym (ap (λ d. cond d (Some x) None) (is_false ep eq))
    gone again false ep eq = again

    by : find p (filter q xs) ≡ cond b (find p xs) None → (c : Bool) → q x ≡ c → find p (cond c (x ∷ filter q xs) (filter q xs)) ≡ cond b (find p (x ∷ xs)) None
    by again true eq = kept again (p x) refl eq
    by again false eq = gone again (p x) refl eq

-- the entries with another name
pub entry_of-others : (name gone : Name) (db : List Object) → entry_of name (others gone db) ≡ cond (not (same_name name gone)) (entry_of name db) None
entry_of-others name gone db = find-left (test name) (λ (o : Object). not (same_name o.name gone)) db (not (same_name name gone)) (λ x e. ap (λ (n : Name). not (same_name n gone)) (same_name-is x.name name e))

-- an entry in the place of the one with its name
pub entry_of-with : (name : Name) (entry : Object) (db : List Object) → entry_of name (with_entry entry db) ≡ cond (same_name entry.name name) (Some entry) (entry_of name db)
entry_of-with name entry db =
    find-insert (test name) entry (others entry.name db) (λ e. entry_of-others name entry.name db ∙ ap (λ b. cond (not b) (entry_of name db) None) (ap (λ (n : Name). same_name name n) (same_name-is entry.name name e) ∙ same_name-refl name))
    ∙ by (same_name entry.name name) refl
  where
    by : (b : Bool) → same_name entry.name name ≡ b → cond b (Some entry) (entry_of name (others entry.name db)) ≡ cond b (Some entry) (entry_of name db)
    by true e = refl
    by false e =
        entry_of-others name entry.name db
        ∙ ap (λ b. cond (not b) (entry_of name db) None) (false_from_ne_true (same_name name entry.name) (λ is. true≢false (sym (subst (λ (n : Name). same_name entry.name n ≡ true) (sym (same_name-is name entry.name is)) (same_name-refl entry.name)) ∙ e)))

-- a part that doesn't speak of a name
apart : (name other : Name) → has_name name (other ∷ []) ≡ false → same_name other name ≡ false
apart name other none = false_from_ne_true _ (λ is. true≢false (sym (subst (λ (n : Name). same_name name n ≡ true) (sym (same_name-is other name is)) (same_name-refl name)) ∙ (or_parts (same_name name other) false none).0))

entry_of-by : (part : Part) (name : Name) (db : List Object) → has_name name (spoken_names_by part) ≡ false → entry_of name (entries_by part db) ≡ entry_of name db
entry_of-by (Put entry files) name db none = entry_of-with name entry db ∙ ap (λ b. cond b (Some entry) (entry_of name db)) (apart name entry.name none)
entry_of-by (Remove n) name db none = entry_of-others name n db ∙ ap (λ b. cond (not b) (entry_of name db) None) (or_parts (same_name name n) false none).0
entry_of-by (Entry entry) name db none = entry_of-with name entry db ∙ ap (λ b. cond b (Some entry) (entry_of name db)) (apart name entry.name none)
entry_of-by (Write path bytes) name db none = refl
entry_of-by (Erase path) name db none = refl
entry_of-by (Stream entry) name db none = entry_of-with name entry db ∙ ap (λ b. cond b (Some entry) (entry_of name db)) (apart name entry.name none)
entry_of-by (Later paths) name db none = refl

-- a change that doesn't speak of a name
pub entry_of-after : (parts : List Part) (name : Name) (db : List Object) → has_name name (spoken_names parts) ≡ false → entry_of name (entries_after parts db) ≡ entry_of name db
entry_of-after [] name db none = refl
entry_of-after (part ∷ parts) name db none =
    let both = or_parts (has_name name (spoken_names_by part)) (has_name name (spoken_names parts)) (sym (has_name-append name (spoken_names_by part) (spoken_names parts)) ∙ none) in
    entry_of-after parts name (entries_by part db) both.1 ∙ entry_of-by part name db both.0

-- what each part of a change makes of its name
abbrev pub Enters : List Object → Part → Type 0
Enters next (Put entry files) = entry_of entry.name next ≡ Some entry
Enters next (Remove name) = entry_of name next ≡ None
Enters next (Entry entry) = entry_of entry.name next ≡ Some entry
Enters next (Write path bytes) = Unit {0}
Enters next (Erase path) = Unit {0}
Enters next (Stream entry) = entry_of entry.name next ≡ Some entry
Enters next (Later paths) = Unit {0}

itself : (entry : Object) (db : List Object) → entry_of entry.name (with_entry entry db) ≡ Some entry
itself entry db = entry_of-with entry.name entry db ∙ ap (λ b. cond b (Some entry) (entry_of entry.name db)) (same_name-refl entry.name)

enters_by : (part : Part) (parts : List Part) (db : List Object) → ((name : Name) → has_name name (spoken_names_by part) ≡ true → has_name name (spoken_names parts) ≡ false) → Enters (entries_after parts (entries_by part db)) part
enters_by (Put entry files) parts db cross = entry_of-after parts entry.name _ (cross entry.name (ap (λ b. b || false) (same_name-refl entry.name))) ∙ itself entry db
enters_by (Remove name) parts db cross =
    entry_of-after parts name _ (cross name (ap (λ b. b || false) (same_name-refl name))) ∙ entry_of-others name name db ∙ ap (λ b. cond (not b) (entry_of name db) None) (same_name-refl name)
enters_by (Entry entry) parts db cross = entry_of-after parts entry.name _ (cross entry.name (ap (λ b. b || false) (same_name-refl entry.name))) ∙ itself entry db
enters_by (Write path bytes) parts db cross = tt
enters_by (Erase path) parts db cross = tt
enters_by (Stream entry) parts db cross = entry_of-after parts entry.name _ (cross entry.name (ap (λ b. b || false) (same_name-refl entry.name))) ∙ itself entry db
enters_by (Later paths) parts db cross = tt

pub enters : (parts : List Part) (db : List Object) → AreOnce (spoken_names parts) → AllByRecursion (Enters (entries_after parts db)) parts
enters [] db once = tt
enters (part ∷ parts) db once =
    (enters_by part parts db (once-cross (spoken_names_by part) (spoken_names parts) once), enters parts (entries_by part db) (once-right (spoken_names_by part) (spoken_names parts) once))

-- ---- the files of entries

-- what is found passes the test
find_passes : (p : Object → Bool) (xs : List Object) (x : Object) → find p xs ≡ Some x → p x ≡ true
find_passes p [] x is = absurd (cc)
find_passes p (y ∷ ys) x is = by (p y) refl (find_passes p ys x) is
  where
    same : Some y ≡ Some x → y ≡ x
    same e = cc

    by : (b : Bool) → p y ≡ b → (find p ys ≡ Some x → p x ≡ true) → cond b (Some y) (find p ys) ≡ Some x → p x ≡ true
    by true e again found = ap p (sym (same found)) ∙ e
    by false e again found = again found

pub entry_named : (name : Name) (db : List Object) (entry : Object) → entry_of name db ≡ Some entry → entry.name ≡ name
entry_named name db entry is = same_name-is entry.name name (find_passes (test name) db entry is)

-- a file of an entry that is found is one of those of the entries that are kept
found_kept : (p q : Object → Bool) (xs : List Object) (x : Object) (path : Name) → find p xs ≡ Some x → q x ≡ true → has_name path (own x) ≡ true → has_name path (flat_map own (filter q xs)) ≡ true
found_kept p q [] x path is keeps here = absurd (cc)
found_kept p q (y ∷ ys) x path is keeps here = by (p y) refl (λ found. found_kept p q ys x path found keeps here) is
  where
    same : Some y ≡ Some x → y ≡ x
    same e = cc

    more : has_name path (flat_map own (filter q ys)) ≡ true → (c : Bool) → has_name path (flat_map own (cond c (y ∷ filter q ys) (filter q ys))) ≡ true
    more found true = has_right path (own y) (flat_map own (filter q ys)) found
    more found false = found

    by : (b : Bool) → p y ≡ b → (find p ys ≡ Some x → has_name path (flat_map own (filter q ys)) ≡ true) → cond b (Some y) (find p ys) ≡ Some x → has_name path (flat_map own (filter q (y ∷ ys))) ≡ true
    by true e again found =
        let is_x = same found in
        ap (λ c. has_name path (flat_map own (cond c (y ∷ filter q ys) (filter q ys)))) (ap q is_x ∙ keeps)
        ∙ has_left path (own y) (flat_map own (filter q ys)) (ap (λ (o : Object). has_name path (own o)) is_x ∙ here)
    by false e again found = more (again found) (q y)

-- an entry after a change that isn't one of those brought with their files
pub entry_kept : (names : List Name) (db : List Object) (name path : Name) (entry : Object) → entry_of name db ≡ Some entry → has_name name names ≡ false → has_name path (own entry) ≡ true
    → has_name path (flat_map own (filter (λ (o : Object). not (has_name o.name names)) db)) ≡ true
entry_kept names db name path entry is none here =
    found_kept (test name) (λ (o : Object). not (has_name o.name names)) db entry path is (ap (λ (n : Name). not (has_name n names)) (entry_named name db entry is) ∙ ap not none) here
