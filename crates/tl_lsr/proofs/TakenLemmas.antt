-- The lines of paths that can be listed are taken.
use Rattle.std.proofs.Common.{◌≡◌, ◌≢◌, ◌⊎◌, ◌<◌, ◌≤◌, ◌+◌, ◌-◌, ℕ, suc, zero, Bool, true, false, cond, not, ◌&&◌, ◌||◌, nat_eq, List, [], ◌∷◌, ◌++◌, length, take, drop, Some, None, Ok, refl, sym, ap, subst, ◌∙◌, inl, inr, append_assoc, arith}
use Rattle.std.specs.Prelude.{bytes_eq}
use Rattle.std.specs.Cmp.Lexicographic.{same_text as bytes_same}
use Rattle.std.specs.List.{AllByRecursion, list_any}
use Rattle.std.specs.Option.{is_none, option_and_then}
use Rattle.std.specs.Ordering.{is_lt, is_eq}
use Rattle.std.specs.declared.cmp.Ordering.{Ordering}
use Rattle.std.specs.declared.cmp.Ordering.TheVariants.{Less, Equal, Greater}
use Rattle.std.specs.BTreeMap.{is_at}
use Rattle.std.specs.BTreeSet.{insert_key}
use Rattle.std.specs.Set.{remove_key}
use Rattle.std.proofs.lemmas.Bool.{true≢false}
use Rattle.std.proofs.lemmas.List.{length-append, append-nil}
use Rattle.tl_path.specs.Path.{IsPath}
use Rattle.tl_lsr.specs.Items.{folder, item, dir_of, name_of, path_in, items_of, all_items}
use Rattle.tl_lsr.specs.Lists.{list_path, heading, closing, turning, listing, AreListable}
use Rattle.tl_lsr.specs.Reading.{Listed, nothing, has, is_path, comes_before, comes_next, may_follow, may_begin, is_left_behind, headed, dir_headed, before_colon, begun, named, with_line, lines_taken}
use Rattle.tl_lsr.proofs.SetLemmas.{Text, order, Up, up-items, same_of, same_text, turned, less_trans, not_itself, or_true, has_itself}
use Rattle.tl_lsr.proofs.ItemLemmas.{IsClear, IsName, dir_of-item, name_of-item, item_names, item_dirs, front_less, joined}
use Rattle.tl_lsr.proofs.TakeLemmas.{taken_on, taken_all}
use Rattle.tl_lsr.proofs.PathLemmas.{dir_is_path, name_is_some, has_room, take_front}
use Rattle.tl_lsr.proofs.ReachLemmas.{Stands, items_in, IsChild, IsFile, IsDir, Reached, reached_none, reached_end, reached_name, reached_heading, all_at, any_at, any_more, state, same_eq}
use Rattle.tl_lsr.proofs.AcceptLemmas.{known_of, less_of, clear_path, line_taken_later, shorter}
use Rattle.tl_lsr.proofs.EntryLemmas.{Entry, Under, itself, above, From, at_folder, in_dir, all_entries, any_gives, joined_front}

-- ---- what is listed of an item

-- the directory of an item was begun, and its path is the one given or was begun
abbrev IsThere : List Text → Text → Text → Text → Type 0
IsThere dirs path dir name = (has dirs dir ≡ true) × ((path ≡ path_in dir name) ⊎ (has dirs (path_in dir name) ≡ true))

pub same_item : (d n e m : Text) → IsClear d → IsClear e → item d n ≡ item e m → (d ≡ e) × (n ≡ m)
same_item d n e m clear clear' is =
    (sym (dir_of-item d n clear) ∙ ap dir_of is ∙ dir_of-item e m clear', sym (name_of-item d n clear) ∙ ap name_of is ∙ name_of-item e m clear')

child_items : (dirs : List Text) (path d m : Text) → AllByRecursion (IsDir dirs) dirs → (child : IsChild dirs path) → IsClear d → has (items_of path) (item d m) ≡ true
    → ((q : Text) → length q < length path → has dirs q ≡ true → has (items_of q) (item d m) ≡ true → (has dirs d ≡ true) × (has dirs (path_in d m) ≡ true)) → IsThere dirs path d m
child_items dirs path d m each child clear there more =
    let up = child.dir in
    let parent = all_at (IsDir dirs) up dirs each child.there in
    let split = sym (any_more (is_at (order (item d m))) (items_of up) (item up child.name)) ∙ ap (λ its. has its (item d m)) (sym (items_in up child.name parent.stands child.named)) ∙ ap (λ p. has (items_of p) (item d m)) (sym child.is) ∙ there in
    by (is_at (order (item d m)) (item up child.name)) refl split parent.clear
  where
    by : (t : Bool) → is_at (order (item d m)) (item child.dir child.name) ≡ t → (t || has (items_of child.dir) (item d m)) ≡ true → IsClear child.dir → IsThere dirs path d m
    by true is there clear' =
        let same = same_item d m child.dir child.name clear clear' (same_of (item d m) (item child.dir child.name) is) in
        (subst (λ (p : Text). has dirs p ≡ true) (sym same.0) child.there, inl (child.is ∙ ap (λ (p : Text). path_in p child.name) (sym same.0) ∙ ap (path_in d) (sym same.1)))
    by false is there clear' =
        let found = more child.dir (omega (arith, shorter child.dir child.name, ap length child.is)) child.there there in (found.0, inr found.1)

dir_by : (dirs : List Text) (d m : Text) → AllByRecursion (IsDir dirs) dirs → IsClear d → (dir : Text) → has dirs dir ≡ true → has (items_of dir) (item d m) ≡ true
    → ((q : Text) → length q < length dir → has dirs q ≡ true → has (items_of q) (item d m) ≡ true → (has dirs d ≡ true) × (has dirs (path_in d m) ≡ true))
    → (has dirs d ≡ true) × (has dirs (path_in d m) ≡ true)
dir_by dirs d m each clear dir there is more = by (all_at (IsDir dirs) dir dirs each there).from
  where
    by : (dir ≡ folder) ⊎ IsChild dirs dir → (has dirs d ≡ true) × (has dirs (path_in d m) ≡ true)
    by (inl top) = absurd (true≢false (sym (subst (λ (t : Text). has (items_of t) (item d m) ≡ true) top is)))
    by (inr child) = end (child_items dirs dir d m each child clear is more)
      where
        end : IsThere dirs dir d m → (has dirs d ≡ true) × (has dirs (path_in d m) ≡ true)
        end (known, inl same) = (known, subst (λ (t : Text). has dirs t ≡ true) same there)
        end (known, inr was) = (known, was)

dir_items : (n : ℕ) (dirs : List Text) (d m : Text) → AllByRecursion (IsDir dirs) dirs → IsClear d → (dir : Text) → length dir ≤ n → has dirs dir ≡ true → has (items_of dir) (item d m) ≡ true
    → (has dirs d ≡ true) × (has dirs (path_in d m) ≡ true)
dir_items zero dirs d m each clear dir short there is = dir_by dirs d m each clear dir there is (λ q lt there' is'. absurd (omega arith))
dir_items (suc n) dirs d m each clear dir short there is = dir_by dirs d m each clear dir there is (λ q lt there' is'. dir_items n dirs d m each clear q (omega arith) there' is')

-- an item that is listed so far, where no section isn't ended
known_item : (ls files : List Text) (dir last : Text) (items dirs : List Text) → Reached ls (state files dir false last) items dirs → (d m : Text) → IsClear d → has items (item d m) ≡ true
    → (has dirs d ≡ true) × ((has files (path_in d m) ≡ true) ⊎ (has dirs (path_in d m) ≡ true))
known_item ls files dir last items dirs r d m clear there =
    let w = item d m in
    let some = any_gives (λ f. has (items_of f) w) files (closed (list_any (λ f. has (items_of f) w) files) (sym (r.sets w) ∙ there)) in
    let file = all_at (IsFile dirs) some.0 files r.files some.1 in
    by some.0 some.1 (child_items dirs some.0 d m r.known file.child clear some.2 (λ q lt known is. dir_items (length q) dirs d m r.known clear q (omega arith) known is))
  where
    closed : (a : Bool) → (a || false) ≡ true → a ≡ true
    closed true is = refl
    closed false is = absurd (cc)

    by : (f : Text) → has files f ≡ true → IsThere dirs f d m → (has dirs d ≡ true) × ((has files (path_in d m) ≡ true) ⊎ (has dirs (path_in d m) ≡ true))
    by f there (known, inl same) = (known, inl (subst (λ (p : Text). has files p ≡ true) same there))
    by f there (known, inr was) = (known, inr was)

-- ---- lists in order

front_has : (xs ys : List Text) (x w : Text) → Up (xs ++ x ∷ ys) → has (xs ++ x ∷ ys) w ≡ true → order w x ≡ Less → has xs w ≡ true
front_has [] ys x w up there lt = by (is_at (order w) x) refl there
  where
    none : (zs : List Text) → AllByRecursion (λ z. order x z ≡ Less) zs → has zs w ≡ false
    none [] each = refl
    none (z ∷ zs) each = ap (λ (o : Ordering). is_eq o || has zs w) (less_trans w x z lt each.0) ∙ none zs each.1

    by : (t : Bool) → is_at (order w) x ≡ t → (t || has ys w) ≡ true → has [] w ≡ true
    by true is there = absurd (not_itself x (subst (λ (a : Text). order a x ≡ Less) (same_of w x is) lt))
    by false is there = absurd (true≢false (sym there ∙ none ys up.0))
front_has (y ∷ xs) ys x w up there lt = by (is_at (order w) y) there (front_has xs ys x w up.1)
  where
    by : (t : Bool) → (t || has (xs ++ x ∷ ys) w) ≡ true → (has (xs ++ x ∷ ys) w ≡ true → order w x ≡ Less → has xs w ≡ true) → (t || has xs w) ≡ true
    by true there more = refl
    by false there more = more there lt

front_below : (xs ys : List Text) (x w : Text) → Up (xs ++ x ∷ ys) → has xs w ≡ true → order w x ≡ Less
front_below [] ys x w up there = absurd (true≢false (sym there))
front_below (y ∷ xs) ys x w up there = by (is_at (order w) y) refl there (front_below xs ys x w up.1)
  where
    at_x : (zs : List Text) → AllByRecursion (λ z. order y z ≡ Less) (zs ++ x ∷ ys) → order y x ≡ Less
    at_x [] each = each.0
    at_x (z ∷ zs) each = at_x zs each.1

    by : (t : Bool) → is_at (order w) y ≡ t → (t || has xs w) ≡ true → (has xs w ≡ true → order w x ≡ Less) → order w x ≡ Less
    by true is there more = subst (λ (a : Text). order a x ≡ Less) (sym (same_of w y is)) (at_x xs up.0)
    by false is there more = more there

middle_has : (xs ys : List Text) (x : Text) → has (xs ++ x ∷ ys) x ≡ true
middle_has [] ys x = has_itself x ys
middle_has (y ∷ xs) ys x = ap (λ b. is_at (order x) y || b) (middle_has xs ys x) ∙ or_true (is_at (order x) y)

-- ---- headings

drop_front : (a b : Text) → drop (length a) (a ++ b) ≡ b
drop_front [] b = refl
drop_front (x ∷ a) b = drop_front a b

colon : (rest : Text) → before_colon (rest ++ 58 ∷ []) ≡ Some rest
colon rest =
    let n : length (rest ++ 58 ∷ []) - 1 ≡ length rest = omega (arith, length-append rest (58 ∷ [])) in
    let end : drop (length (rest ++ 58 ∷ []) - 1) (rest ++ 58 ∷ []) ≡ 58 ∷ [] = ap (λ (k : ℕ). drop k (rest ++ 58 ∷ [])) n ∙ drop_front rest (58 ∷ []) in
    let front : take (length (rest ++ 58 ∷ []) - 1) (rest ++ 58 ∷ []) ≡ rest = ap (λ (k : ℕ). take k (rest ++ 58 ∷ [])) n ∙ take_front rest (58 ∷ []) in
    ap (λ (t : Text). cond (bytes_eq t (58 ∷ [])) (Some (take (length (rest ++ 58 ∷ []) - 1) (rest ++ 58 ∷ []))) None) end ∙ ap Some front

below_folder : (dir : Text) → Stands dir → (dir ≡ folder) ⊎ ((rest : Text) × (dir ≡ path_in folder rest))
below_folder dir stands = by stands.names stands.is
  where
    by : (names : List Text) → dir ≡ joined folder names → (dir ≡ folder) ⊎ ((rest : Text) × (dir ≡ path_in folder rest))
    by [] is = inl is
    by (name ∷ names) is = inr (joined name names, is ∙ joined_front folder (47 ∷ name) names ∙ ap (λ (t : Text). folder ++ t) (joined_front (47 ∷ []) name names))

-- a heading names its directory
heading_of : (dir : Text) → Stands dir → IsPath dir → (rest : Text) × (headed (heading dir) ≡ Some rest) × (dir_headed rest ≡ dir)
heading_of dir stands path = by (below_folder dir stands)
  where
    named_rest : (rest : Text) → dir ≡ path_in folder rest → dir_headed rest ≡ path_in folder rest
    named_rest [] is = let some = name_is_some folder [] tt (subst IsPath is path) in absurd (omega (arith, some))
    named_rest (b ∷ rest) is = refl

    by : (dir ≡ folder) ⊎ ((rest : Text) × (dir ≡ path_in folder rest)) → (rest : Text) × (headed (heading dir) ≡ Some rest) × (dir_headed rest ≡ dir)
    by (inl is) = ([], ap (λ (d : Text). headed (heading d)) is, sym is)
    by (inr (rest, is)) = (rest, ap (λ (d : Text). headed (heading d)) is ∙ colon rest, named_rest rest is ∙ sym is)

path_true : (text : Text) → IsPath text → is_path text ≡ true
path_true text is = ap is_none is

less_true : (a b : Text) → order a b ≡ Less → comes_before a b ≡ true
less_true a b lt = ap is_lt lt

name_true : (name : Text) → IsName name → not (list_any (λ b. nat_eq b 47) name) ≡ true
name_true [] is = refl
name_true (b ∷ name) is = ap (λ t. not (t || list_any (λ b. nat_eq b 47) name)) is.0 ∙ name_true name is.1

both : (a b : Bool) → a ≡ true → b ≡ true → (a && b) ≡ true
both a b is more = ap (λ t. t && b) is ∙ more

-- ---- one line

take_end : (files : List Text) (dir : Text) (b : ℕ) (last : Text) → with_line (state files dir true (b ∷ last)) [] ≡ Some (state files dir false (b ∷ last))
take_end files dir b last = refl

take_name : (files : List Text) (dir last : Text) (c : ℕ) (name : Text) → IsName (c ∷ name) → order last (c ∷ name) ≡ Less → IsPath (path_in dir (c ∷ name))
    → with_line (state files dir true last) (c ∷ name) ≡ Some (state (insert_key order files (path_in dir (c ∷ name))) dir true (c ∷ name))
take_name files dir last c name is lt path =
    let now = state files dir true last in
    let may : may_follow now (c ∷ name) ≡ true = both (comes_next now (c ∷ name)) (is_path (path_in dir (c ∷ name))) (both _ _ (name_true (c ∷ name) is) (less_true last (c ∷ name) lt)) (path_true (path_in dir (c ∷ name)) path) in
    ap (λ t. cond t (Some (state (insert_key order files (path_in dir (c ∷ name))) dir true (c ∷ name))) None) may

take_heading : (files : List Text) (dir last next : Text) → Stands next → IsPath next → IsPath (path_in next (120 ∷ [])) → order dir next ≡ Less → (bytes_eq next folder || has files next) ≡ true
    → is_left_behind files next ≡ false → with_line (state files dir false last) (heading next) ≡ Some (state (remove_key (is_at (order next)) files) next true [])
take_heading files dir last next stands path room lt known none =
    let now = state files dir false last in
    let found = heading_of next stands path in
    let may : may_begin now next ≡ true = both (is_path next) _ (path_true next path) (both (is_path (path_in next (120 ∷ []))) _ (path_true (path_in next (120 ∷ [])) room)
    (both (comes_before dir next) _ (less_true dir next lt) (both (bytes_eq next folder || has files next) (not (is_left_behind files next)) known (ap not none)))) in
    ap (option_and_then (λ rest. begun now (dir_headed rest))) found.1 ∙ ap (begun now) found.2
    ∙ ap (λ t. cond t (Some (state (remove_key (is_at (order next)) files) next true [])) None) may

-- ---- all lines

-- what the lines list that are taken: all of the items, where no section isn't ended
pub record Done (before : ℕ) (listed : Listed) (rest items : List Text) : Type 0 where
  pub lines : List Text
  pub files : List Text
  pub dir : Text
  pub last : Text
  pub dirs : List Text
  pub taken : lines_taken before listed rest ≡ Ok (state files dir false last)
  pub reached : Reached lines (state files dir false last) items dirs

done_more : (before : ℕ) (listed next : Listed) (line : Text) (rest items : List Text) → 2 ≤ before → with_line listed line ≡ Some next → Done (before + 1) next rest items → Done before listed (line ∷ rest) items
done_more before listed next line rest items late is d = record {
  lines = d.lines;
  files = d.files;
  dir = d.dir;
  last = d.last;
  dirs = d.dirs;
  taken = sym (taken_on before listed next line rest (line ∷ rest) refl (line_taken_later before listed line late ∙ is)) ∙ d.taken;
  reached = d.reached;
}

clear_front : (a b : Text) → IsClear (a ++ b) → IsClear a
clear_front [] b clear = tt
clear_front (x ∷ a) b clear = (clear.0, clear_front a b clear.1)

pub clear_in : (dir name : Text) → IsPath (path_in dir name) → IsClear dir
clear_in dir name path = clear_front dir (47 ∷ name) (clear_path (path_in dir name) path)

dir_before : (d e a b : Text) → IsClear d → IsClear e → order (item d a) (item e b) ≡ Less → (d ≡ e → ⊥) → order d e ≡ Less
dir_before d e a b clear clear' lt other = by (order d e) refl
  where
    by : (o : Ordering) → order d e ≡ o → o ≡ Less
    by Less is = refl
    by Equal is = absurd (other (same_text d e is))
    by Greater is = absurd (not_itself (item d a) (less_trans (item d a) (item e b) (item d a) lt (item_dirs e d b a clear' clear (turned d e is))))

first_of_name : (name : Text) → 0 < length name → (c : ℕ) × ((rest : Text) × (name ≡ c ∷ rest))
first_of_name [] some = absurd (omega arith)
first_of_name (c ∷ rest) some = (c, (rest, refl))

module _ (paths : List Text) (can : AreListable paths) where
  abbrev pub all : List Text
  all = all_items paths

  -- the file itself is no file where what is in it would have come
  pub not_pending : (ls files : List Text) (dir last : Text) (items dirs : List Text) → Reached ls (state files dir false last) items dirs → has files list_path ≡ true
      → ((w : Text) → has items w ≡ true → has all w ≡ true) → ((next : Text) → has all (item list_path next) ≡ true → has items (item list_path next) ≡ true) → ⊥
  not_pending ls files dir last items dirs r there in_all came =
      let file = all_at (IsFile dirs) list_path files r.files there in
      let up = file.child.dir in
      let name = file.child.name in
      let w = item up name in
      let parent = all_at (IsDir dirs) up dirs r.known file.child.there in
      let listed : has (items_of list_path) w ≡ true =
      ap (λ (p : Text). has (items_of p) w) file.child.is ∙ ap (λ (its : List Text). has its w) (items_in up name parent.stands file.child.named) ∙ any_more (is_at (order w)) (items_of up) w
      ∙ has_itself w (items_of up) in
      let here : has items w ≡ true = r.sets w ∙ ap (λ b. b || false) (any_at (λ f. has (items_of f) w) list_path files there listed) in
      let e = all_at (Entry paths) w all (all_entries paths can) (in_all w here) in
      let same = same_item up name e.dir e.name parent.clear (clear_in e.dir e.name e.form) e.is in
      let path : path_in e.dir e.name ≡ list_path = ap (λ (d : Text). path_in d e.name) (sym same.0) ∙ ap (path_in up) (sym same.1) ∙ sym file.child.is in
      by (subst (Under paths) path e.under)
    where
      by : Under paths list_path → ⊥
      by (itself is) = all_at (λ p. p ≢ list_path) list_path paths can.others is refl
      by (above next is) =
          let known = known_item ls files dir last items dirs r list_path next (clear_path list_path (all_at (IsFile dirs) list_path files r.files there).form) (came next is) in
          true≢false (sym there ∙ r.apart list_path known.0)

  abbrev Goes : List Text → Type 0
  Goes more = (items : List Text) (before : ℕ) (ls files : List Text) (dir : Text) (b : ℕ) (last : Text) (dirs : List Text) → 2 ≤ before → Reached ls (state files dir true (b ∷ last)) items dirs
      → items ++ more ≡ all → Done before (state files dir true (b ∷ last)) (listing dir more) all

  -- the items so far and one more
  split_more : (items more : List Text) (it : Text) → items ++ it ∷ more ≡ all → (items ++ it ∷ []) ++ more ≡ all
  split_more items more it is = append_assoc items (it ∷ []) more ∙ is

  up_split : (items more : List Text) (it : Text) → items ++ it ∷ more ≡ all → Up (items ++ it ∷ more)
  up_split items more it is = subst Up (sym is) (up-items paths)

  has_split : (items more : List Text) (it w : Text) → items ++ it ∷ more ≡ all → has all w ≡ true → has (items ++ it ∷ more) w ≡ true
  has_split items more it w is there = ap (λ (its : List Text). has its w) is ∙ there

  in_front : (xs ys : List Text) (w : Text) → has xs w ≡ true → has (xs ++ ys) w ≡ true
  in_front [] ys w there = absurd (true≢false (sym there))
  in_front (x ∷ xs) ys w there = by (is_at (order w) x) there (in_front xs ys w)
    where
      by : (t : Bool) → (t || has xs w) ≡ true → (has xs w ≡ true → has (xs ++ ys) w ≡ true) → (t || has (xs ++ ys) w) ≡ true
      by true there more = refl
      by false there more = more there

  -- a name of a section that was begun
  name_on : (more : List Text) → Goes more → (items : List Text) (before : ℕ) (ls files : List Text) (dir last : Text) (c : ℕ) (name : Text) (dirs : List Text) → 2 ≤ before
      → Reached ls (state files dir true last) items dirs → IsName (c ∷ name) → order last (c ∷ name) ≡ Less → IsPath (path_in dir (c ∷ name)) → items ++ item dir (c ∷ name) ∷ more ≡ all
      → Done before (state files dir true last) ((c ∷ name) ∷ listing dir more) all
  name_on more goes items before ls files dir last c name dirs late r named lt path is =
      done_more before (state files dir true last) (state (insert_key order files (path_in dir (c ∷ name))) dir true (c ∷ name)) (c ∷ name) (listing dir more) all late (take_name files dir last c name named lt path)
      (goes (items ++ item dir (c ∷ name) ∷ []) (before + 1) (ls ++ (c ∷ name) ∷ []) (insert_key order files (path_in dir (c ∷ name))) dir c name dirs (omega (arith, late))
      (reached_name ls files dir last c name items dirs r named lt path) (split_more items more (item dir (c ∷ name)) is))

  -- whether a directory may begin: it is the folder, or a file so far
  may_be_next : (ls files : List Text) (dir last : Text) (items dirs more : List Text) (it : Text) (e : Entry paths it) → Reached ls (state files dir false last) items dirs → order dir e.dir ≡ Less
      → items ++ it ∷ more ≡ all → (bytes_eq e.dir folder || has files e.dir) ≡ true
  may_be_next ls files dir last items dirs more it e r lt is = by e.from
    where
      clear : IsClear e.dir
      clear = clear_in e.dir e.name e.form

      later : (up name : Text) → e.dir ≡ path_in up name → (has files (path_in up name) ≡ true) ⊎ (has dirs (path_in up name) ≡ true) → has files e.dir ≡ true
      later up name same (inl there) = ap (has files) same ∙ there
      later up name same (inr was) = absurd (never (all_at (λ (d : Text). (order d dir ≡ Less) ⊎ (d ≡ dir)) e.dir dirs r.dirs_below (ap (has dirs) same ∙ was)))
        where
          never : (order e.dir dir ≡ Less) ⊎ (e.dir ≡ dir) → ⊥
          never (inl before) = not_itself dir (less_trans dir e.dir dir lt before)
          never (inr was) = not_itself dir (subst (λ (d : Text). order dir d ≡ Less) was lt)

      by : From paths e.dir → (bytes_eq e.dir folder || has files e.dir) ≡ true
      by (at_folder top) = ap (λ (d : Text). bytes_eq d folder || has files d) top
      by (in_dir up name same there) =
          let clear_up = clear_front up (47 ∷ name) (subst IsClear same clear) in
          let lower : order up e.dir ≡ Less = ap (order up) same ∙ front_less up 47 name in
          let w = item up name in
          let first : order w it ≡ Less = ap (order w) e.is ∙ item_dirs up e.dir name e.name clear_up clear lower in
          let came = front_has items more it w (up_split items more it is) (has_split items more it w is there) first in
          let known = known_item ls files dir last items dirs r up name clear_up came in
          ap (λ b. bytes_eq e.dir folder || b) (later up name same known.1) ∙ or_true (bytes_eq e.dir folder)

  -- the file itself isn't left behind
  none_behind : (ls files : List Text) (dir last : Text) (items dirs more : List Text) (it : Text) (e : Entry paths it) → Reached ls (state files dir false last) items dirs → items ++ it ∷ more ≡ all
      → is_left_behind files e.dir ≡ false
  none_behind ls files dir last items dirs more it e r is = by (comes_before list_path e.dir) refl (has files list_path) refl
    where
      by : (s : Bool) → comes_before list_path e.dir ≡ s → (t : Bool) → has files list_path ≡ t → (s && t) ≡ false
      by false lower t there = refl
      by true lower false there = refl
      by true lower true there =
          let clear = clear_in e.dir e.name e.form in
          let clear_list = clear_path list_path (all_at (IsFile dirs) list_path files r.files there).form in
          absurd (not_pending ls files dir last items dirs r there
          (λ w here. ap (λ (its : List Text). has its w) (sym is) ∙ in_front items (it ∷ more) w here)
          (λ next here.
          let w = item list_path next in
          front_has items more it w (up_split items more it is) (has_split items more it w is here) (ap (order w) e.is ∙ item_dirs list_path e.dir next e.name clear_list clear (less_of (order list_path e.dir) lower))))

  -- a section that begins, and its first name
  section_on : (more : List Text) → Goes more → (items : List Text) (before : ℕ) (ls files : List Text) (dir last : Text) (dirs : List Text) (it : Text) (e : Entry paths it) → 2 ≤ before
      → Reached ls (state files dir false last) items dirs → order dir e.dir ≡ Less → items ++ it ∷ more ≡ all
      → Done before (state files dir false last) (heading e.dir ∷ e.name ∷ listing e.dir more) all
  section_on more goes items before ls files dir last dirs it e late r lt is =
      let path = dir_is_path e.dir e.name e.named e.some e.form in
      let room = has_room e.dir e.name e.named e.form in
      let may = may_be_next ls files dir last items dirs more it e r lt is in
      let none = none_behind ls files dir last items dirs more it e r is in
      let next = remove_key (is_at (order e.dir)) files in
      let begun_ = reached_heading ls files dir last e.dir items dirs r (clear_path e.dir path) lt (known_of dirs files e.dir may) in
      let first = first_of_name e.name (name_is_some e.dir e.name e.named e.form) in
      let name_is : e.name ≡ first.0 ∷ first.1.0 = first.1.1 in
      done_more before (state files dir false last) (state next e.dir true []) (heading e.dir) (e.name ∷ listing e.dir more) all late (take_heading files dir last e.dir e.stands path room lt may none)
      (subst (λ (n : Text). Done (before + 1) (state next e.dir true []) (n ∷ listing e.dir more) all) (sym name_is)
      (name_on more goes items (before + 1) (ls ++ heading e.dir ∷ []) next e.dir [] first.0 first.1.0 (e.dir ∷ dirs) (omega (arith, late)) begun_
      (subst IsName name_is e.named) refl (subst (λ (n : Text). IsPath (path_in e.dir n)) name_is e.form)
      (ap (λ (x : Text). items ++ x ∷ more) (sym (e.is ∙ ap (item e.dir) name_is)) ∙ is)))

  goes_none : Goes []
  goes_none items before ls files dir b last dirs late r is =
      subst (λ (rest : List Text). Done before (state files dir true (b ∷ last)) rest all) (sym r.begun.ends)
      (done_more before (state files dir true (b ∷ last)) (state files dir false (b ∷ last)) [] [] all late (take_end files dir b last)
      (record {
        lines = ls ++ [] ∷ [];
        files = files;
        dir = dir;
        last = b ∷ last;
        dirs = dirs;
        taken = taken_all (before + 1) (state files dir false (b ∷ last)) [] refl;
        reached = subst (λ (its : List Text). Reached (ls ++ [] ∷ []) (state files dir false (b ∷ last)) its dirs) (sym (append-nil items) ∙ is) (reached_end ls files dir b last items dirs r);
      }))

  pub listing_next : (dir it : Text) (more : List Text) (e : Entry paths it) → listing dir (it ∷ more) ≡ turning dir e.dir ++ e.name ∷ listing e.dir more
  listing_next dir it more e =
      let clear = clear_in e.dir e.name e.form in
      let d : dir_of it ≡ e.dir = ap dir_of e.is ∙ dir_of-item e.dir e.name clear in
      let n : name_of it ≡ e.name = ap name_of e.is ∙ name_of-item e.dir e.name clear in
      ap (λ (x : Text). turning dir x ++ name_of it ∷ listing x more) d ∙ ap (λ (x : Text). turning dir e.dir ++ x ∷ listing e.dir more) n

  entry_at : (items more : List Text) (it : Text) → items ++ it ∷ more ≡ all → Entry paths it
  entry_at items more it is = all_at (Entry paths) it all (all_entries paths can) (ap (λ (its : List Text). has its it) (sym is) ∙ middle_has items more it)

  -- the last item so far
  last_there : (ls files : List Text) (dir : Text) (b : ℕ) (last : Text) (items dirs : List Text) → Reached ls (state files dir true (b ∷ last)) items dirs → has items (item dir (b ∷ last)) ≡ true
  last_there ls files dir b last items dirs r =
      let w = item dir (b ∷ last) in
      let listed : has (items_of (path_in dir (b ∷ last))) w ≡ true = ap (λ (its : List Text). has its w) (items_in dir (b ∷ last) r.begun.stands r.last_name.1) ∙ any_more (is_at (order w)) (items_of dir) w ∙ has_itself w (items_of dir) in
      r.sets w ∙ ap (λ t. t || has (items_of dir) w) (any_at (λ f. has (items_of f) w) (path_in dir (b ∷ last)) files r.last_name.0 listed)

  goes_more : (it : Text) (more : List Text) → Goes more → Goes (it ∷ more)
  goes_more it more goes items before ls files dir b last dirs late r is = by (bytes_eq (entry_at items more it is).dir dir) refl
    where
      e : Entry paths it
      e = entry_at items more it is

      lower : order (item dir (b ∷ last)) (item (entry_at items more it is).dir (entry_at items more it is).name) ≡ Less
      lower =
          ap (order (item dir (b ∷ last))) (sym (entry_at items more it is).is) ∙ front_below items more it (item dir (b ∷ last)) (up_split items more it is) (last_there ls files dir b last items dirs r)

      by : (t : Bool) → bytes_eq (entry_at items more it is).dir dir ≡ t → Done before (state files dir true (b ∷ last)) (listing dir (it ∷ more)) all
      by true eq =
          let en = entry_at items more it is in
          let same : en.dir ≡ dir = bytes_same en.dir dir (sym eq) in
          let first = first_of_name en.name (name_is_some en.dir en.name en.named en.form) in
          let n : Text = first.0 ∷ first.1.0 in
          let name_is : en.name ≡ n = first.1.1 in
          let lines_are : listing dir (it ∷ more) ≡ n ∷ listing dir more =
          listing_next dir it more en ∙ ap (λ t. cond t [] (closing dir ++ heading en.dir ∷ []) ++ en.name ∷ listing en.dir more) eq
          ∙ ap (λ (x : Text). x ∷ listing en.dir more) name_is ∙ ap (λ (d : Text). n ∷ listing d more) same in
          let item_is : it ≡ item dir n = en.is ∙ ap (λ (d : Text). item d en.name) same ∙ ap (item dir) name_is in
          let lt : order (b ∷ last) n ≡ Less = sym (item_names dir (b ∷ last) n) ∙ ap (order (item dir (b ∷ last))) (sym (ap (λ (d : Text). item d en.name) same ∙ ap (item dir) name_is)) ∙ lower in
          subst (λ (rest : List Text). Done before (state files dir true (b ∷ last)) rest all) (sym lines_are)
          (name_on more goes items before ls files dir (b ∷ last) first.0 first.1.0 dirs late r (subst IsName name_is en.named) lt
          (subst (λ (m : Text). IsPath (path_in dir m)) name_is (subst (λ (d : Text). IsPath (path_in d en.name)) same en.form)) (ap (λ (x : Text). items ++ x ∷ more) (sym item_is) ∙ is))
      by false eq =
          let en = entry_at items more it is in
          let other : dir ≡ en.dir → ⊥ = λ same. true≢false (sym (ap (λ (d : Text). bytes_eq en.dir d) same ∙ same_eq en.dir) ∙ eq) in
          let lt = dir_before dir en.dir (b ∷ last) en.name r.clear (clear_in en.dir en.name en.form) lower other in
          let lines_are : listing dir (it ∷ more) ≡ [] ∷ heading en.dir ∷ en.name ∷ listing en.dir more =
          listing_next dir it more en ∙ ap (λ t. cond t [] (closing dir ++ heading en.dir ∷ []) ++ en.name ∷ listing en.dir more) eq
          ∙ ap (λ (ls : List Text). (ls ++ heading en.dir ∷ []) ++ en.name ∷ listing en.dir more) r.begun.ends in
          subst (λ (rest : List Text). Done before (state files dir true (b ∷ last)) rest all) (sym lines_are)
          (done_more before (state files dir true (b ∷ last)) (state files dir false (b ∷ last)) [] (heading en.dir ∷ en.name ∷ listing en.dir more) all late (take_end files dir b last)
          (section_on more goes items (before + 1) (ls ++ [] ∷ []) files dir (b ∷ last) dirs it en (omega (arith, late)) (reached_end ls files dir b last items dirs r) lt is))

  goes : (more : List Text) → Goes more
  goes [] = goes_none
  goes (it ∷ more) = goes_more it more (goes more)

  some_dir : (dir : Text) → 0 < length dir → (order [] dir ≡ Less) × (bytes_eq dir [] ≡ false)
  some_dir [] some = absurd (omega arith)
  some_dir (b ∷ dir) some = (refl, refl)

  from_start : (items : List Text) → items ≡ all → Done 2 nothing (listing [] items) all
  from_start [] is = record {
    lines = [];
    files = [];
    dir = [];
    last = [];
    dirs = [];
    taken = taken_all 2 nothing [] refl;
    reached = subst (λ (its : List Text). Reached [] nothing its []) is reached_none;
  }
  from_start (it ∷ more) is =
      let en = entry_at [] more it is in
      let some = some_dir en.dir en.some in
      let lines_are : listing [] (it ∷ more) ≡ heading en.dir ∷ en.name ∷ listing en.dir more =
      listing_next [] it more en ∙ ap (λ t. cond t [] ([] ++ heading en.dir ∷ []) ++ en.name ∷ listing en.dir more) some.1 in
      subst (λ (rest : List Text). Done 2 nothing rest all) (sym lines_are) (section_on more (goes more) [] 2 [] [] [] [] [] it en (omega arith) reached_none some.0 is)

  -- the lines behind the first two are taken
  pub all_taken : Done 2 nothing (listing [] all) all
  all_taken = from_start all refl
