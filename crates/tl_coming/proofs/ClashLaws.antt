-- Paths that come, and the index of them: where nothing else there touches a path, no entry has a second one.
use Rattle.std.proofs.Common.{◌≡◌, ◌≤◌, ◌<◌, ◌+◌, ◌-◌, ◌⊎◌, ℕ, Bool, true, false, cond, not, ◌||◌, ◌&&◌, List, [], ◌∷◌, ◌++◌, length, get_or, take, drop, map, Bor, length-drop, drop-cons, suc, Option, Some, None, refl, sym, ap, subst, ◌∙◌, arith, inl, inr}
use Rattle.std.specs.Prelude.{nat_le, nat_lt, find, filter, option_map}
use Rattle.std.specs.List.{list_any, count_by, flat_map}
use Rattle.std.specs.Str.{bytes_eq}
use Rattle.std.proofs.lemmas.Bool.{cases_Bool, true≢false, ltb-true}
use Rattle.std.proofs.lemmas.Bool.Decides.{nat_tests}
use Rattle.std.proofs.lemmas.List.{append_assoc, map-append, take_all, take-append-drop}
use Rattle.std.proofs.lemmas.List.Folds.{list_any-append, list_any_at}
use Rattle.std.proofs.lemmas.List.Sums.{sum_by-append, sum_by-cons}
use Rattle.tl_model.specs.Volume.{same_name, same_name-refl}
use Rattle.tl_path.specs.Components.{is_touching, is_below}
use Rattle.tl_entry.specs.Rising.{has_key}
use Rattle.tl_entry.specs.Sections.{paths_of}
use Rattle.tl_entry.specs.FilePaths.{listed_paths, file_paths}
use Rattle.tl_entry.proofs.SetLemmas.{has-rising_of}
use Rattle.tl_entry.specs.declared.object.Object.{Object}
use Rattle.tl_entry.specs.declared.object.BinFiles.{BinFiles}
use Rattle.tl_tree.specs.Changes.{own, listed}
use Rattle.tl_tree.specs.Owners.{name_of}
use Rattle.tl_touch.specs.Listing.{AreListed}
use Rattle.tl_touch.specs.declared.repeated.Listed.{Listed}
use Rattle.tl_touch.proofs.Touching.{among_either, any_members}
use Rattle.std.specs.Option.{option_or}
use Rattle.tl_plan.specs.Removal.{is_among}
use Rattle.tl_coming.specs.Refused.{IsWantedFault}
use Rattle.tl_coming.specs.Refused.{first_of, clash, clash_at, second_with, owns_outside, owned_at}
use Rattle.tl_coming.specs.Listings.{IsSettled, owned_outside}
use Rattle.tl_coming.specs.declared.error.ComingError.{ComingError}
use Rattle.tl_coming.specs.declared.error.ComingError.TheVariants.{Owned, NoMemory, HostFault}
use Rattle.tl_plan.proofs.SetLaws.{any_flat}

abbrev Texts : Type 0
Texts = List (List ℕ)

or_nil : (t : Bool) → (t || false) ≡ t
or_nil true = refl
or_nil false = refl

or_false : (a b : Bool) → (a || b) ≡ false → (a ≡ false) × (b ≡ false)
or_false true b e = absurd (cc)
or_false false b e = (refl, e)

-- the paths that an entry lists, however its sections are joined
pub same_listed : (o : Object) → listed_paths o ≡ listed o
same_listed o =
    let bins = flat_map (λ (bin : BinFiles). bin.paths) o.bin in
    let docs = paths_of o.doc.files in
    sym (append_assoc (o.run.paths ++ docs) o.src.paths bins ∙ append_assoc o.run.paths docs (o.src.paths ++ bins))

-- where no path of some is below another one, and that one below none, only the same path touches it
touch_alone : (path : List ℕ) (xs : Texts) → list_any (λ o. is_below path o) xs ≡ false → list_any (λ o. is_below o path) xs ≡ false
    → count_by (is_touching path) xs ≡ count_by (bytes_eq path) xs
touch_alone path [] up down = refl
touch_alone path (x ∷ xs) up down =
    let u = or_false (is_below path x) (list_any (λ o. is_below path o) xs) up in
    let d = or_false (is_below x path) (list_any (λ o. is_below o path) xs) down in
    let head : is_touching path x ≡ bytes_eq path x = ap (λ t. bytes_eq path x || t) (ap (λ t. t || is_below x path) u.0 ∙ d.0) ∙ or_nil (bytes_eq path x) in
    sum_by-cons (λ o. cond (is_touching path o) 1 0) x xs
    ∙ ap (λ t. cond t 1 0 + count_by (is_touching path) xs) head ∙ ap (λ n. cond (bytes_eq path x) 1 0 + n) (touch_alone path xs u.1 d.1)
    ∙ sym (sum_by-cons (λ o. cond (bytes_eq path o) 1 0) x xs)

-- what is counted is there
none_counted : {X : Type 0} (p : X → Bool) (xs : List X) → count_by p xs ≡ 0 → list_any p xs ≡ false
none_counted p [] none = refl
none_counted p (x ∷ xs) none = elim (cases_Bool (p x)) [
  | inl is ↦
      let n = sym (sum_by-cons (λ o. cond (p o) 1 0) x xs) ∙ none in
      let one : 1 + count_by p xs ≡ 0 = subst (λ t. cond t 1 0 + count_by p xs ≡ 0) is n in absurd (omega (arith, one))
  | inr off ↦
      let n = sym (sum_by-cons (λ o. cond (p o) 1 0) x xs) ∙ none in
      let rest : 0 + count_by p xs ≡ 0 = subst (λ t. cond t 1 0 + count_by p xs ≡ 0) off n in
      ap (λ t. t || list_any p xs) off ∙ none_counted p xs (omega (arith, rest))
]

some_counted : {X : Type 0} (p : X → Bool) (xs : List X) → list_any p xs ≡ true → 1 ≤ count_by p xs
some_counted p xs there = elim (cases_Bool (nat_lt 0 (count_by p xs))) [
  | inl some ↦ ltb-true 0 (count_by p xs) some
  | inr none ↦
      let zero : count_by p xs ≡ 0 = grind (arith, nat_tests) in
      absurd (true≢false (sym there ∙ none_counted p xs zero))
]

below_two : (n : ℕ) → (2 ≤ n → ⊥) → n < 2
below_two n not_two = elim (cases_Bool (nat_lt n 2)) [
  | inl less ↦ ltb-true n 2 less
  | inr more ↦ let two : 2 ≤ n = grind (arith, nat_tests) in absurd (not_two two)
]

-- a path that comes once, and that nothing else touches
record ComesAlone (path : List ℕ) (entry later : Texts) : Type 0 where
  itself : nat_le 2 (count_by (is_touching path) entry) ≡ false
  behind : list_any (is_touching path) later ≡ false

alone : (path : List ℕ) (before entry later : Texts) → list_any (λ o. is_below path o) (before ++ (entry ++ later)) ≡ false → list_any (λ o. is_below o path) (before ++ (entry ++ later)) ≡ false
    → (2 ≤ count_by (bytes_eq path) (before ++ (entry ++ later)) → ⊥) → has_key (λ p. p) path entry ≡ true → ComesAlone path entry later
alone path before entry later up down once here =
    let count = sum_by-append (λ o. cond (bytes_eq path o) 1 0) before (entry ++ later) in
    let count' = sum_by-append (λ o. cond (bytes_eq path o) 1 0) entry later in
    let one : 1 ≤ count_by (bytes_eq path) entry = some_counted (bytes_eq path) entry (among_either path entry ∙ here) in
    let few : count_by (bytes_eq path) (before ++ (entry ++ later)) < 2 = below_two _ once in
    let u = or_false _ _ (sym (list_any-append (λ o. is_below path o) entry later) ∙ (or_false _ _ (sym (list_any-append (λ o. is_below path o) before (entry ++ later)) ∙ up)).1) in
    let d = or_false _ _ (sym (list_any-append (λ o. is_below o path) entry later) ∙ (or_false _ _ (sym (list_any-append (λ o. is_below o path) before (entry ++ later)) ∙ down)).1) in
    let here_few : count_by (bytes_eq path) entry < 2 = omega (arith, count, count', one, few) in
    let no_more : count_by (bytes_eq path) later ≡ 0 = omega (arith, count, count', one, few) in
    let touched : count_by (is_touching path) entry < 2 = subst (λ n. n < 2) (sym (touch_alone path entry u.0 d.0)) here_few in
    record {
      itself = grind (arith, nat_tests);
      behind = none_counted (is_touching path) later (touch_alone path later u.1 d.1 ∙ no_more);
    }

pub flat-append : {A B : Type 0} (f : A → List B) (xs ys : List A) → flat_map f (xs ++ ys) ≡ flat_map f xs ++ flat_map f ys
flat-append f [] ys = refl
flat-append {A} {B} f (x ∷ xs) ys = ap (λ (l : List B). f x ++ l) (flat-append f xs ys) ∙ sym (append_assoc (f x) (flat_map f xs) (flat_map f ys))

pub find_none : {A : Type 0} (p : A → Bool) (xs : List A) → list_any p xs ≡ false → find p xs ≡ None
find_none p [] none = refl
find_none {A} p (x ∷ xs) none = let parts = or_false (p x) (list_any p xs) none in ap (λ t. cond t (Some x) (find p xs)) parts.0 ∙ find_none p xs parts.1

pub any_filter : {A : Type 0} (p q : A → Bool) (xs : List A) → list_any p (filter q xs) ≡ list_any (λ x. q x && p x) xs
any_filter p q [] = refl
any_filter {A} p q (x ∷ xs) = by (cases_Bool (q x)) (any_filter p q xs)
  where
    by : (q x ≡ true) ⊎ (q x ≡ false) → list_any p (filter q xs) ≡ list_any (λ y. q y && p y) xs → list_any p (filter q (x ∷ xs)) ≡ list_any (λ y. q y && p y) (x ∷ xs)
    by (inl is) rest = ap (λ t. list_any p (cond t (x ∷ filter q xs) (filter q xs))) is ∙ ap (λ t. p x || t) rest ∙ ap (λ t. (t && p x) || list_any (λ y. q y && p y) xs) (sym is)
    by (inr off) rest = ap (λ t. list_any p (cond t (x ∷ filter q xs) (filter q xs))) off ∙ rest ∙ ap (λ t. (t && p x) || list_any (λ y. q y && p y) xs) (sym off)

-- the index of all paths that come settles each path
pub settled : (before later : List Object) (entry : Object) (index : Listed) → AreListed (flat_map listed_paths (before ++ entry ∷ later)) index → IsSettled index entry later
unfolding second_with
settled before later entry index are path has beset =
    let all : Texts = flat_map listed_paths before ++ (listed_paths entry ++ flat_map listed_paths later) in
    let is : flat_map listed_paths (before ++ entry ∷ later) ≡ all = flat-append listed_paths before (entry ∷ later) in
    let parts = or_false _ _ beset in
    let sides = or_false _ _ parts.1 in
    let up : list_any (λ o. is_below path o) all ≡ false = ap (list_any (λ o. is_below path o)) (sym is) ∙ sym (any_members (λ o. is_below path o) index.all (flat_map listed_paths (before ++ entry ∷ later)) are.as_all) ∙ sides.0 in
    let down : list_any (λ o. is_below o path) all ≡ false = ap (list_any (λ o. is_below o path)) (sym is) ∙ sym (any_members (λ o. is_below o path) index.all (flat_map listed_paths (before ++ entry ∷ later)) are.as_all) ∙ sides.1 in
    let once : 2 ≤ count_by (bytes_eq path) all → ⊥ = λ two. true≢false (sym (are.as_repeated path (subst (λ (l : Texts). 2 ≤ count_by (bytes_eq path) l) (sym is) two)) ∙ parts.0) in
    let found : ComesAlone path (listed_paths entry) (flat_map listed_paths later) =
    alone path (flat_map listed_paths before) (listed_paths entry) (flat_map listed_paths later) up down once (sym (has-rising_of path (listed_paths entry)) ∙ has) in
    ap (λ t. cond t (Some entry.name) (option_map name_of (find (λ (o : Object). list_any (is_touching path) (listed_paths o)) later))) found.itself
    ∙ ap (option_map name_of) (find_none (λ (o : Object). list_any (is_touching path) (listed_paths o)) later (sym (any_flat (is_touching path) listed_paths later) ∙ found.behind))

-- the index of the files of the packages outside settles each path
pub owned_settled : (db : List Object) (names set : Texts) → ((w : List ℕ) → has_key (λ p. p) w set ≡ has_key (λ p. p) w (owned_outside db names))
    → (path : List ℕ) → list_any (is_touching path) set ≡ false → owned_at db names path ≡ None
owned_settled db names set same path none =
    ap (option_map (λ (o : Object). Owned path o.name)) (find_none (owns_outside names path) db
    (sym (any_filter (λ (o : Object). list_any (is_touching path) (own o)) (λ (o : Object). not (is_among o.name names)) db)
    ∙ sym (any_flat (is_touching path) own (filter (λ (o : Object). not (is_among o.name names)) db))
    ∙ sym (any_members (is_touching path) set (owned_outside db names) same) ∙ none))

-- a path at a place of some is among them
pub has_item : (paths items : Texts) (at : ℕ) (path : List ℕ) → items ≡ paths → at < length items → path ≡ get_or items at path → has_key (λ p. p) path paths ≡ true
has_item paths items at path same less is =
    subst (λ (l : Texts). has_key (λ (p : List ℕ). p) path l ≡ true) same
    (list_any_at (λ p. same_name p path) items at path less (ap (λ (p : List ℕ). same_name p path) (sym is) ∙ same_name-refl path))

-- the entry at a place, and those behind it
pub settled_at : (coming : List (Bor Object)) (place : ℕ) (entry : Bor Object) (index : Listed) → AreListed (flat_map listed_paths (map (λ e. e.now) coming)) index → place < length coming
    → entry ≡ get_or coming place entry → IsSettled index entry.now (map (λ e. e.now) (take (length coming - (place + 1)) (drop (place + 1) coming)))
settled_at coming place entry index are less is =
    let rest : take (length coming - (place + 1)) (drop (place + 1) coming) ≡ drop (place + 1) coming =
    take_all (length coming - (place + 1)) (drop (place + 1) coming) (simp (length-drop) (omega arith)) in
    let here : drop place coming ≡ entry ∷ drop (place + 1) coming =
    drop-cons coming place entry less ∙ (let one : suc place ≡ place + 1 = omega arith in ap (λ (n : ℕ). get_or coming place entry ∷ drop n coming) one)
    ∙ ap (λ (e : Bor Object). e ∷ drop (place + 1) coming) (sym is) in
    let parts : map (λ (e : Bor Object). e.now) coming ≡ map (λ (e : Bor Object). e.now) (take place coming) ++ entry.now ∷ map (λ (e : Bor Object). e.now) (drop (place + 1) coming) =
    ap (map (λ (e : Bor Object). e.now)) (sym (take-append-drop place coming) ∙ ap (λ (l : List (Bor Object)). take place coming ++ l) here)
    ∙ map-append (λ (e : Bor Object). e.now) (take place coming) (entry ∷ drop (place + 1) coming) in
    subst (λ (l : List (Bor Object)). IsSettled index entry.now (map (λ e. e.now) l)) (sym rest)
    (settled (map (λ (e : Bor Object). e.now) (take place coming)) (map (λ (e : Bor Object). e.now) (drop (place + 1) coming)) entry.now index
    (subst (λ (l : List Object). AreListed (flat_map listed_paths l) index) parts are))

-- the first of two faults, where it was answered
pub fault_first : (w rest all : Option ComingError) (e : ComingError) → option_or w rest ≡ all → IsWantedFault w e → IsWantedFault all e
fault_first w rest all NoMemory is given = tt
fault_first w rest all HostFault is given = given
fault_first w rest all e is given = sym is ∙ ap (λ (o : Option ComingError). option_or o rest) given

-- the clashes of the entry at a place, and those of the entries behind it
pub clash_from : (coming : List (Bor Object)) (place : ℕ) (entry : Bor Object) → place < length coming → entry ≡ get_or coming place entry
    → clash (map (λ e. e.now) (drop place coming)) ≡ clash (map (λ e. e.now) coming)
    → let later = map (λ (e : Bor Object). e.now) (take (length coming - (place + 1)) (drop (place + 1) coming)) in
    option_or (first_of (clash_at entry.now later) (file_paths entry.now)) (clash later) ≡ clash (map (λ e. e.now) coming)
clash_from coming place entry less is so_far =
    let rest : take (length coming - (place + 1)) (drop (place + 1) coming) ≡ drop (place + 1) coming =
    take_all (length coming - (place + 1)) (drop (place + 1) coming) (simp (length-drop) (omega arith)) in
    let here : drop place coming ≡ entry ∷ drop (place + 1) coming =
    drop-cons coming place entry less ∙ (let one : suc place ≡ place + 1 = omega arith in ap (λ (n : ℕ). get_or coming place entry ∷ drop n coming) one)
    ∙ ap (λ (e : Bor Object). e ∷ drop (place + 1) coming) (sym is) in
    ap (λ (l : List (Bor Object)). option_or (first_of (clash_at entry.now (map (λ e. e.now) l)) (file_paths entry.now)) (clash (map (λ e. e.now) l))) rest
    ∙ ap (λ (l : List (Bor Object)). clash (map (λ e. e.now) l)) (sym here) ∙ so_far
