-- Calls that ask a tree, one after another, and the names of a tree that are in the way of packages that come.
use Rattle.std.proofs.Common.{◌≡◌, ◌≤◌, ◌<◌, ◌+◌, ℕ, Bool, true, false, cond, not, ◌||◌, ◌&&◌, List, [], ◌∷◌, ◌++◌, length, Option, Some, None, Result, Ok, Err, refl, sym, ap, ◌∙◌, arith, inl, inr}
use Rattle.std.specs.Prelude.{nat_lt, find, filter, option_map, IfErr, OnOk}
use Rattle.std.specs.List.{list_any, flat_map}
use Rattle.std.specs.Str.{bytes_eq}
use Rattle.std.specs.FinMap.{keys}
use Rattle.std.specs.Cmp.Lexicographic.{nat_list_eq_equiv}
use Rattle.std.specs.Cmp.{IsEquivalence}
use Rattle.std.proofs.lemmas.Bool.{cases_Bool, lt-ltb, ltb-true}
use Rattle.std.proofs.lemmas.List.Elements.{filter-append}
use Rattle.std.proofs.lemmas.List.Folds.{list_any-append}
use Rattle.tl_model.specs.Seen.{Told}
use Rattle.tl_model.specs.Pictures.{quiet_start, quiet_join}
use Rattle.tl_model.specs.Volume.{Name, Volume, IsNext, same_name, same_name-refl}
use Rattle.tl_journal_text.specs.Stand.{tree_of}
use Rattle.tl_kind.specs.declared.quantity.What.TheVariants.{Files}
use Rattle.tl_path.specs.Components.{is_touching, is_below}
use Rattle.tl_entry.specs.Rising.{has_key}
use Rattle.tl_entry.specs.FilePaths.{listed_paths, file_paths}
use Rattle.tl_entry.proofs.SetLemmas.{has-rising_of}
use Rattle.tl_entry.specs.declared.object.Object.{Object}
use Rattle.tl_tree.specs.Changes.{own}
use Rattle.tl_tree.specs.Planted.{Planted}
use Rattle.tl_touch.proofs.Touching.{any_members, any_at}
use Rattle.tl_touch.proofs.Walks.{HasWalked, walk_step, walk_end, seen_le}
use Rattle.tl_coming.specs.Asked.{IsAsked, IsCausedBy, Answers, IsFaultOf, tree_in, unless_fault}
use Rattle.tl_coming.specs.Refused.{first_of, files_fault, loose_names, occupied_path, standing_fault}
use Rattle.std.specs.Option.{option_or}
use Rattle.tl_coming.specs.Refused.{IsWantedFault}
use Rattle.tl_coming.specs.Listings.{is_in_way}
use Rattle.tl_coming.specs.declared.error.ComingError.{ComingError}
use Rattle.tl_coming.specs.declared.error.ComingError.TheVariants.{Occupied, TooLarge, NoMemory, HostFault}
use Rattle.tl_plan.proofs.SetLaws.{any_alike}
use Rattle.tl_coming.proofs.ClashLaws.{any_filter}

abbrev Texts : Type 0
Texts = List (List ℕ)

pub asked_start : (tells : Bool) (tree : Planted) → IsAsked tells tree tree
asked_start tells tree = record { quiet = λ t. quiet_start tree.seen; db = refl; later = omega arith }

pub asked_join : (tells : Bool) (old mid new : Planted) → IsAsked tells old mid → IsAsked tells mid new → IsAsked tells old new
asked_join tells old mid new far near = record {
  quiet = λ t. quiet_join old.seen mid.seen new.seen (far.quiet t) (near.quiet t);
  db = near.db ∙ far.db;
  later = let a = far.later in let b = near.later in omega arith;
}

-- the tree is the same one
pub asked_tree : (tells : Bool) (old new : Planted) → IsAsked tells old new → Told tells (tree_in new ≡ tree_in old)
asked_tree tells old new asked t = ap (λ (m : _). tree_of m.held) (asked.quiet t).present

-- the names in the way among those that were seen
pub record HasFound (wanted : Name → Bool) (tree : Volume) (number : ℕ) (last : Option Name) (names : List Name) : Type 0 where
  pub walk : HasWalked tree number last
  pub found_all : names ≡ filter wanted walk.seen

pub found_start : (wanted : Name → Bool) (tree : Volume) → HasFound wanted tree 0 None []
found_start wanted tree = record { walk = record { seen = []; rest = keys tree; all = refl; at_last = refl; count = refl }; found_all = refl }

pub found_step : (wanted : Name → Bool) (tree : Volume) (number : ℕ) (last : Option Name) (names more : List Name) (name : Name) → HasFound wanted tree number last names → IsNext tree last (Some name)
    → more ≡ names ++ filter wanted (name ∷ []) → HasFound wanted tree (number + 1) (Some name) more
found_step wanted tree number last names more name has next pushed =
    let stepped = walk_step tree number last name has.walk next in record {
      walk = stepped.0;
      found_all = pushed ∙ ap (λ (l : List Name). l ++ filter wanted (name ∷ [])) has.found_all ∙ sym (filter-append wanted has.walk.seen (name ∷ [])) ∙ ap (filter wanted) (sym stepped.1);
    }

pub found_end : (wanted : Name → Bool) (tree : Volume) (number : ℕ) (last : Option Name) (names : List Name) → HasFound wanted tree number last names → number ≤ 1048576 → IsNext tree last None
    → unless_fault (files_fault tree) (filter wanted (keys tree)) ≡ Ok names
found_end wanted tree number last names has few next =
    let all = walk_end tree number last has.walk next in
    let count : length (keys tree) ≡ number = ap length all ∙ has.walk.count in
    elim (cases_Bool (nat_lt 1048576 (length (keys tree)))) [
      | inl past ↦ absurd (let less = ltb-true 1048576 (length (keys tree)) past in omega (arith, less, few, count))
      | inr short ↦ ap (λ b. unless_fault (cond b (Some (TooLarge Files 1048576)) None) (filter wanted (keys tree))) short
          ∙ ap (λ (l : List Name). Ok (filter wanted l)) all ∙ ap (λ (l : List Name). Ok l) (sym has.found_all)
    ]

pub found_many : {X : Type 0} (wanted : Name → Bool) (tree : Volume) (number : ℕ) (last : Option Name) (names : List Name) (x : X) → HasFound wanted tree number last names → 1048576 < number
    → unless_fault (files_fault tree) x ≡ Err (TooLarge Files 1048576)
found_many wanted tree number last names x has many =
    let le = seen_le tree number last has.walk in
    ap (λ b. unless_fault (cond b (Some (TooLarge Files 1048576)) None) x) (lt-ltb 1048576 (length (keys tree)) (omega (arith, le, many)))

or_comm : (a b : Bool) → (a || b) ≡ (b || a)
or_comm true true = refl
or_comm true false = refl
or_comm false true = refl
or_comm false false = refl

touch_flips : (a b : List ℕ) → is_touching a b ≡ is_touching b a
touch_flips a b =
    let laws : IsEquivalence bytes_eq = nat_list_eq_equiv in
    ap (λ t. t || (is_below a b || is_below b a)) (laws.symm a b) ∙ ap (λ t. bytes_eq b a || t) (or_comm (is_below a b) (is_below b a))

and_false : (a : Bool) → (a && false) ≡ false
and_false true = refl
and_false false = refl

and_true : (a : Bool) → (a && true) ≡ a
and_true true = refl
and_true false = refl

-- of the names that no package has, those that touch a path which comes are in the way
in_way_same : (owned coming : Texts) (db : List Object) → ((w : List ℕ) → has_key (λ p. p) w owned ≡ has_key (λ p. p) w (flat_map own db)) → (path : List ℕ) → has_key (λ p. p) path coming ≡ true
    → (names : List Name) → list_any (is_touching path) (filter (is_in_way owned coming) names) ≡ list_any (is_touching path) (filter (λ (n : Name). not (has_key (λ (p : Name). p) n (flat_map own db))) names)
in_way_same owned coming db same path comes names =
    any_filter (is_touching path) (is_in_way owned coming) names
    ∙ any_alike (λ n. is_in_way owned coming n && is_touching path n) (λ n. not (has_key (λ (p : Name). p) n (flat_map own db)) && is_touching path n) names at_one
    ∙ sym (any_filter (is_touching path) (λ (n : Name). not (has_key (λ (p : Name). p) n (flat_map own db))) names)
  where
    at_one : (n : Name) → (is_in_way owned coming n && is_touching path n) ≡ (not (has_key (λ (p : Name). p) n (flat_map own db)) && is_touching path n)
    at_one n = elim (cases_Bool (is_touching path n)) [
      | inl is ↦
          let touches : list_any (is_touching n) coming ≡ true = any_at (is_touching n) path coming comes (touch_flips n path ∙ is) in
          ap (λ t. (not (has_key (λ (p : Name). p) n owned) && t) && is_touching path n) touches
          ∙ ap (λ t. t && is_touching path n) (and_true (not (has_key (λ (p : Name). p) n owned)) ∙ ap not (same n))
      | inr off ↦ ap (λ t. is_in_way owned coming n && t) off ∙ and_false (is_in_way owned coming n)
          ∙ sym (ap (λ t. not (has_key (λ (p : Name). p) n (flat_map own db)) && t) off ∙ and_false (not (has_key (λ (p : Name). p) n (flat_map own db))))
    ]

or_true : (a : Bool) → (a || true) ≡ true
or_true true = refl
or_true false = refl

find_members : (p q : List ℕ → Bool) (xs : Texts) → ((x : List ℕ) → has_key (λ (w : List ℕ). w) x xs ≡ true → p x ≡ q x) → find p xs ≡ find q xs
find_members p q [] alike = refl
find_members p q (x ∷ xs) alike =
    ap (λ t. cond t (Some x) (find p xs)) (alike x (ap (λ t. t || has_key (λ (w : List ℕ). w) x xs) (same_name-refl x)))
    ∙ ap (λ (o : Option (List ℕ)). cond (q x) (Some x) o) (find_members p q xs (λ w has. alike w (ap (λ t. same_name x w || t) has ∙ or_true (same_name x w))))

-- refusals by lists that touch each path alike
first_same : (some others all : Texts) (coming : List Object) → ((w : List ℕ) → has_key (λ p. p) w all ≡ true → list_any (is_touching w) some ≡ list_any (is_touching w) others)
    → ((w : List ℕ) → has_key (λ p. p) w (flat_map listed_paths coming) ≡ true → has_key (λ p. p) w all ≡ true) → first_of (occupied_path some) coming ≡ first_of (occupied_path others) coming
first_same some others all [] alike within = refl
first_same some others all (entry ∷ coming) alike within =
    let here : occupied_path some entry ≡ occupied_path others entry =
    ap (option_map Occupied) (find_members (λ path. list_any (is_touching path) some) (λ path. list_any (is_touching path) others) (file_paths entry)
    (λ w has. alike w (within w (list_any-append (λ p. same_name p w) (listed_paths entry) (flat_map listed_paths coming)
    ∙ ap (λ t. t || has_key (λ (p : List ℕ). p) w (flat_map listed_paths coming)) (sym (has-rising_of w (listed_paths entry)) ∙ has))))) in
    ap (λ (o : Option ComingError). option_or o (first_of (occupied_path some) coming)) here
    ∙ ap (option_or (occupied_path others entry)) (first_same some others all coming alike (λ w has. within w (list_any-append (λ p. same_name p w) (listed_paths entry) (flat_map listed_paths coming)
    ∙ ap (λ t. has_key (λ (p : List ℕ). p) w (listed_paths entry) || t) has ∙ or_true (has_key (λ (p : List ℕ). p) w (listed_paths entry)))))

-- the names in the way refuse what all names of no package do
pub occupied_same : (owned coming names : Texts) (db : List Object) (tree : Volume) (entries : List Object) → ((w : List ℕ) → has_key (λ p. p) w owned ≡ has_key (λ p. p) w (flat_map own db))
    → ((w : List ℕ) → has_key (λ p. p) w coming ≡ has_key (λ p. p) w (flat_map listed_paths entries)) → ((w : List ℕ) → has_key (λ p. p) w names ≡ has_key (λ p. p) w (filter (is_in_way owned coming) (keys tree)))
    → first_of (occupied_path names) entries ≡ first_of (occupied_path (loose_names db tree)) entries
occupied_same owned coming names db tree entries same comes are =
    first_same names (loose_names db tree) coming entries
    (λ w has. any_members (is_touching w) names (filter (is_in_way owned coming) (keys tree)) are ∙ in_way_same owned coming db same w has (keys tree))
    (λ w has. comes w ∙ has)

-- what a tree refuses where it has few names, and where it has too many
few_fault : {X : Type 0} (fault : Option ComingError) (x y : X) → unless_fault fault x ≡ Ok y → (x ≡ y) × (fault ≡ None)
few_fault None x y is = (cc, refl)
few_fault (Some fault) x y is = absurd (cc)

-- where a tree has few names, those in the way refuse what all do
pub standing_is : (owned coming names found : Texts) (db : List Object) (tree : Volume) (entries : List Object) → ((w : List ℕ) → has_key (λ p. p) w owned ≡ has_key (λ p. p) w (flat_map own db))
    → ((w : List ℕ) → has_key (λ p. p) w coming ≡ has_key (λ p. p) w (flat_map listed_paths entries)) → ((w : List ℕ) → has_key (λ p. p) w names ≡ has_key (λ p. p) w found)
    → unless_fault (files_fault tree) (filter (is_in_way owned coming) (keys tree)) ≡ Ok found → standing_fault db tree entries ≡ first_of (occupied_path names) entries
standing_is owned coming names found db tree entries same comes are is =
    let few = few_fault (files_fault tree) (filter (is_in_way owned coming) (keys tree)) found is in
    ap (λ (o : Option ComingError). option_or o (first_of (occupied_path (loose_names db tree)) entries)) few.1
    ∙ sym (occupied_same owned coming names db tree entries same comes (λ w. are w ∙ ap (has_key (λ (p : List ℕ). p) w) (sym few.0)))

-- a refusal that was answered is the fault of the tree
pub as_fault : (w all : Option ComingError) (e : ComingError) → all ≡ w → IsWantedFault w e → IsFaultOf all e
as_fault w all NoMemory is given = tt
as_fault w all HostFault is given = tt
as_fault w all e is given = is ∙ given

pub as_fault_result : {T : Type 0} (r : Result T ComingError) (w all : Option ComingError) → all ≡ w → IfErr r (IsWantedFault w) → IfErr r (IsFaultOf all)
as_fault_result (Ok t) w all is given = tt
as_fault_result (Err e) w all is given = as_fault w all e is given

pub as_none_result : {T : Type 0} (r : Result T ComingError) (w all : Option ComingError) → all ≡ w → OnOk r (w ≡ None) → OnOk r (all ≡ None)
as_none_result (Ok t) w all is given = is ∙ given
as_none_result (Err e) w all is given = tt

-- it is no fault of the host
pub never_host : (w : Option ComingError) (e : ComingError) (old new : Planted) → IsWantedFault w e → IsCausedBy old new e
never_host w NoMemory old new given = λ is. absurd (cc)
never_host w HostFault old new given = absurd given
never_host w e old new given = λ is. absurd (cc)

pub never_host_result : {T : Type 0} (r : Result T ComingError) (w : Option ComingError) (old new : Planted) → IfErr r (IsWantedFault w) → IfErr r (IsCausedBy old new)
never_host_result (Ok t) w old new given = tt
never_host_result (Err e) w old new given = never_host w e old new given

-- a fault of a tree that has too many names, as the first of its faults
pub names_fault : (fault rest : Option ComingError) (x : Texts) (e : ComingError) → Answers (λ (names : Texts). names) (Err e) (unless_fault fault x) → IsFaultOf (option_or fault rest) e
names_fault fault rest x NoMemory given = tt
names_fault fault rest x HostFault given = tt
names_fault fault rest x e given = by fault given
  where
    by : (f : Option ComingError) → unless_fault f x ≡ Err e → option_or f rest ≡ Some e
    by None given = absurd (cc)
    by (Some other) given = cc

-- a refusal that comes first is the answer
pub wanted_answers : {X Y : Type 0} (view : X → Y) (w rest : Option ComingError) (y : Y) (e : ComingError) → IsWantedFault w e → Answers view (Err e) (unless_fault (option_or w rest) y)
wanted_answers view w rest y NoMemory given = tt
wanted_answers view w rest y HostFault given = tt
wanted_answers view w rest y e given = ap (λ (o : Option ComingError). unless_fault (option_or o rest) y) given
