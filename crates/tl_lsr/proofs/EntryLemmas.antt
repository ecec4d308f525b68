-- The items of paths that can be listed.
use Rattle.std.proofs.Common.{◌≡◌, ◌<◌, ℕ, Bool, true, false, cond, ◌||◌, List, [], ◌∷◌, ◌++◌, length, refl, sym, ap, subst, ◌∙◌, append_assoc, arith}
use Rattle.std.specs.Prelude.{bytes_eq, drop}
use Rattle.std.specs.List.{AllByRecursion, list_any, onto_first, join_with_byte}
use Rattle.std.specs.Cmp.Lexicographic.{same_text as bytes_same}
use Rattle.std.specs.BTreeMap.{is_at}
use Rattle.std.proofs.lemmas.Bool.{true≢false, and_parts}
use Rattle.std.proofs.lemmas.List.{length-append}
use Rattle.std.proofs.lemmas.List.Splits.{join_with_byte-slice_split}
use Rattle.tl_path.specs.Path.{IsPath}
use Rattle.tl_path.specs.Components.{components, is_below, is_proper_front}
use Rattle.tl_lsr.specs.Items.{folder, item, path_in, items_of, items_below, all_items}
use Rattle.tl_lsr.specs.Lists.{AreListable}
use Rattle.tl_lsr.specs.Reading.{has}
use Rattle.tl_lsr.proofs.SetLemmas.{Text, order, any-items, or_true, has_itself}
use Rattle.tl_lsr.proofs.ItemLemmas.{IsName, slash, joined}
use Rattle.tl_lsr.proofs.PathLemmas.{dir_is_path}
use Rattle.tl_lsr.proofs.ReachLemmas.{Stands, stands_folder, stands_in, all_at, any_at}
use Rattle.tl_lsr.proofs.AcceptLemmas.{all_each}

-- the components of a text have no '/'
names_onto : (b : ℕ) (cs : List Text) → slash b ≡ false → AllByRecursion IsName cs → AllByRecursion IsName (onto_first b cs)
names_onto b [] other each = ((other, tt), tt)
names_onto b (c ∷ cs) other each = ((other, each.0), each.1)

pub names_of_components : (text : Text) → AllByRecursion IsName (components text)
names_of_components [] = (tt, tt)
names_of_components (b ∷ text) = by (slash b) refl (names_of_components text)
  where
    by : (t : Bool) → slash b ≡ t → AllByRecursion IsName (components text) → AllByRecursion IsName (cond t ([] ∷ components text) (onto_first b (components text)))
    by true is each = (tt, each)
    by false is each = names_onto b (components text) is each

pub joined_front : (a b : Text) (names : List Text) → joined (a ++ b) names ≡ a ++ joined b names
joined_front a b [] = refl
joined_front a b (name ∷ names) = ap (λ (t : Text). joined t names) (append_assoc a b (47 ∷ name)) ∙ joined_front a (path_in b name) names

pub join_joined : (dir : Text) (names : List Text) → join_with_byte 47 (dir ∷ names) ≡ joined dir names
join_joined dir [] = refl
join_joined dir (name ∷ names) =
    ap (λ (t : Text). dir ++ 47 ∷ t) (join_joined name names)
    ∙ sym (joined_front dir (47 ∷ name) names ∙ ap (λ (t : Text). dir ++ t) (joined_front (47 ∷ []) name names))

in_longer : (dir name : Text) → 0 < length (path_in dir name)
in_longer dir name = omega (arith, length-append dir (47 ∷ name))

joined_is_path : (names : List Text) (dir : Text) → 0 < length dir → AllByRecursion IsName names → IsPath (joined dir names) → IsPath dir
joined_is_path [] dir some each is = is
joined_is_path (name ∷ names) dir some each is = dir_is_path dir name each.0 some (joined_is_path names (path_in dir name) (in_longer dir name) each.1 is)

-- what stands at a name: the path itself, or a name in it
pub data Under (paths : List Text) (path : Text) : Type 0 where
  itself : has paths path ≡ true → Under paths path
  above : (next : Text) → has (all_items paths) (item path next) ≡ true → Under paths path

-- where a directory stands: it is the folder, or a name that is listed
pub data From (paths : List Text) (dir : Text) : Type 0 where
  at_folder : dir ≡ folder → From paths dir
  in_dir : (up name : Text) → dir ≡ path_in up name → has (all_items paths) (item up name) ≡ true → From paths dir

pub record Entry (paths : List Text) (it : Text) : Type 0 where
  pub dir : Text
  pub name : Text
  pub is : it ≡ item dir name
  pub stands : Stands dir
  pub named : IsName name
  pub form : IsPath (path_in dir name)
  pub some : 0 < length dir
  pub from : From paths dir
  pub under : Under paths (path_in dir name)

abbrev AreKnown : List Text → List Text → Type 0
AreKnown paths items = AllByRecursion (λ it. has (all_items paths) it ≡ true) items

under_of : (paths : List Text) (p path : Text) (names : List Text) → joined path names ≡ p → has paths p ≡ true → AreKnown paths (items_below path names) → Under paths path
under_of paths p path [] is there known = itself (subst (λ (t : Text). has paths t ≡ true) (sym is) there)
under_of paths p path (name ∷ names) is there known = above name known.0

entries_below : (paths : List Text) (p : Text) (names : List Text) (dir : Text) → Stands dir → 0 < length dir → AllByRecursion IsName names → joined dir names ≡ p → IsPath p → has paths p ≡ true → From paths dir
    → AreKnown paths (items_below dir names) → AllByRecursion (Entry paths) (items_below dir names)
entries_below paths p [] dir stands some each is path there from known = tt
entries_below paths p (name ∷ names) dir stands some each is path there from known = (
  record {
    dir = dir;
    name = name;
    is = refl;
    stands = stands;
    named = each.0;
    form = joined_is_path names (path_in dir name) (in_longer dir name) each.1 (subst IsPath (sym is) path);
    some = some;
    from = from;
    under = under_of paths p (path_in dir name) names is there known.1;
  },
  entries_below paths p names (path_in dir name) (stands_in dir name stands each.0) (in_longer dir name) each.1 is path there (in_dir dir name refl known.0) known.1,
)

items_known : (paths : List Text) (p : Text) → has paths p ≡ true → AreKnown paths (items_of p)
items_known paths p there =
    all_each (λ it. has (all_items paths) it ≡ true) (items_of p)
    (λ it there'. any-items (is_at (order it)) paths ∙ any_at (λ q. has (items_of q) it) p paths there there')

pub path_parts : (p : Text) → is_below p folder ≡ true → (names : List Text) × (components p ≡ folder ∷ names)
path_parts p is = by (components p) refl is
  where
    by : (cs : List Text) → components p ≡ cs → is_proper_front (components folder) cs ≡ true → (names : List Text) × (components p ≡ folder ∷ names)
    by [] e is = absurd (true≢false (sym is))
    by (c ∷ cs) e is = (cs, e ∙ ap (λ (t : Text). t ∷ cs) (sym (bytes_same folder c (sym (and_parts (bytes_eq folder c) (is_proper_front [] cs) is).0))))

pub path_entries : (paths : List Text) → AreListable paths → (p : Text) → has paths p ≡ true → AllByRecursion (Entry paths) (items_of p)
path_entries paths can p there =
    let found = path_parts p (all_at (λ q. is_below q folder ≡ true) p paths can.inside there) in
    let names = found.0 in
    let e : items_of p ≡ items_below folder names = ap (λ (cs : List Text). items_below folder (drop 1 cs)) found.1 in
    let is : joined folder names ≡ p = sym (join_joined folder names) ∙ ap (join_with_byte 47) (sym found.1) ∙ join_with_byte-slice_split 47 p in
    let each : AllByRecursion IsName (folder ∷ names) = subst (λ (cs : List Text). AllByRecursion IsName cs) found.1 (names_of_components p) in
    subst (λ (its : List Text). AllByRecursion (Entry paths) its) (sym e)
    (entries_below paths p names folder stands_folder (omega arith) each.1 is (all_at IsPath p paths can.form there) there (at_folder refl)
    (subst (λ (its : List Text). AreKnown paths its) e (items_known paths p there)))

pub any_gives : (q : Text → Bool) (xs : List Text) → list_any q xs ≡ true → (x : Text) × (has xs x ≡ true) × (q x ≡ true)
any_gives q [] is = absurd (true≢false (sym is))
any_gives q (x ∷ xs) is = by (q x) refl is (any_gives q xs)
  where
    by : (t : Bool) → q x ≡ t → (t || list_any q xs) ≡ true → (list_any q xs ≡ true → (y : Text) × (has xs y ≡ true) × (q y ≡ true)) → (y : Text) × (has (x ∷ xs) y ≡ true) × (q y ≡ true)
    by true here is more = (x, has_itself x xs, here)
    by false here is more = let found = more is in (found.0, ap (λ b. is_at (order found.0) x || b) found.1 ∙ or_true (is_at (order found.0) x), found.2)

pub all_entries : (paths : List Text) → AreListable paths → AllByRecursion (Entry paths) (all_items paths)
all_entries paths can =
    all_each (Entry paths) (all_items paths)
    (λ it there.
    let found = any_gives (λ p. has (items_of p) it) paths (sym (any-items (is_at (order it)) paths) ∙ there) in
    all_at (Entry paths) it (items_of found.0) (path_entries paths can found.0 found.1) found.2)
