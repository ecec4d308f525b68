-- The folders in which a pattern of words and a name hits, found by their keys.
use Rattle.std.proofs.Common.{◌≡◌, ◌≢◌, ℕ, zero, suc, ◌+◌, ◌<◌, ◌≤◌, ◌==◌, ◌&&◌, ◌||◌, Bool, true, false, cond, not, List, [], ◌∷◌, ◌++◌, length, filter, drop, ◌-◌, refl, sym, ap, subst, ◌∙◌, arith, rules, eq-eqb, append_assoc, add-one, length-append, get_or, take, append-nil, bytes_eq}
use Rattle.std.specs.Ordering.{nat_cmp, is_le, is_eq, ordering_then}
use Rattle.std.specs.declared.cmp.Ordering.{Ordering}
use Rattle.std.specs.declared.cmp.Ordering.TheVariants.{Less, Equal, Greater}
use Rattle.std.specs.Cmp.Lexicographic.{slice_cmp}
use Rattle.std.specs.BTreeMap.{is_at}
use Rattle.std.specs.List.{list_any, list_all, onto_first, after_first}
use Rattle.std.proofs.lemmas.Bool.{cases_Bool, true≢false, and_parts, and_from, ne_eqb}
use Rattle.std.proofs.lemmas.Bool.Decides.{nat_tests}
use Rattle.std.proofs.lemmas.Slice.Eq.{bytes_eq-Decides}
use Rattle.std.proofs.Math.Seq.{drop-cons}
use Rattle.std.proofs.lemmas.List.{drop_all}
use Rattle.tl_model.specs.Volume.{same_name-is, same_name-refl}
use Rattle.tl_path.specs.Components.{components}
use Rattle.tl_pattern.specs.Form.{last_of, without_last}
use Rattle.tl_pattern.specs.Hits.{hits_tree, stands_before_last}
use Rattle.tl_index.specs.Fronts.{begins}
use Rattle.tl_index.specs.Folders.{key_of, has_folder, Knows, AreFolders}
use Rattle.tl_index.specs.Trees.{joined, folder_in, is_plain, AreWords, AreBounds}
use Rattle.tl_index.proofs.FrontLemmas.{Stands, Below, Same, Above, stands, begins_is, begins_append}
use Rattle.tl_index.proofs.FolderLemmas.{components_joined, first_part, last_behind}

abbrev Text : Type 0
Text = List ℕ

abbrev Parts : Type 0
Parts = List Text

-- ---- keys between two bounds

then_le : (o : Ordering) (t : Text) → is_le (ordering_then o (slice_cmp nat_cmp [] t)) ≡ is_le o
then_le Less t = refl
then_le Equal [] = refl
then_le Equal (b ∷ t) = refl
then_le Greater t = refl

pub between_slash : (z q : Text) → (is_le (slice_cmp nat_cmp (z ++ 47 ∷ []) q) && not (is_le (slice_cmp nat_cmp (z ++ 48 ∷ []) q))) ≡ begins (z ++ 47 ∷ []) q
between_slash [] [] = refl
between_slash [] (b ∷ q) = then_both (nat_cmp 47 b) (nat_cmp 48 b) ∙ by (stands 47 b)
  where
    then_both : (o r : Ordering) → (is_le (ordering_then o (slice_cmp nat_cmp [] q)) && not (is_le (ordering_then r (slice_cmp nat_cmp [] q)))) ≡ (is_le o && not (is_le r))
    then_both o r = ap (λ t. t && not (is_le (ordering_then r (slice_cmp nat_cmp [] q)))) (then_le o q) ∙ ap (λ t. is_le o && not t) (then_le r q)

    by : Stands 47 b → (is_le (nat_cmp 47 b) && not (is_le (nat_cmp 48 b))) ≡ ((47 == b) && true)
    by (Below e h) = elim (stands 48 b) [
      | Below f k ↦ ap (λ o. is_le o && not (is_le (nat_cmp 48 b))) e ∙ ap (λ o. not (is_le o)) f ∙ sym (ap (λ t. t && true) (ne_eqb 47 b (λ s. absurd (omega arith))))
      | Same f k ↦ ap (λ o. is_le o && not (is_le (nat_cmp 48 b))) e ∙ ap (λ o. not (is_le o)) f ∙ sym (ap (λ t. t && true) (ne_eqb 47 b (λ s. absurd (omega arith))))
      | Above f k ↦ absurd (omega arith)
    ]
    by (Same e h) = elim (stands 48 b) [
      | Below f k ↦ absurd (omega arith)
      | Same f k ↦ absurd (omega arith)
      | Above f k ↦ ap (λ o. is_le o && not (is_le (nat_cmp 48 b))) e ∙ ap (λ o. not (is_le o)) f ∙ sym (ap (λ t. t && true) (eq-eqb 47 b h))
    ]
    by (Above e h) = ap (λ o. is_le o && not (is_le (nat_cmp 48 b))) e ∙ sym (ap (λ t. t && true) (ne_eqb 47 b (λ s. absurd (omega arith))))
between_slash (c ∷ z) [] = refl
between_slash (c ∷ z) (b ∷ q) = by (stands c b) (between_slash z q)
  where
    both : Ordering → Bool
    both o = is_le (ordering_then o (slice_cmp nat_cmp (z ++ 47 ∷ []) q)) && not (is_le (ordering_then o (slice_cmp nat_cmp (z ++ 48 ∷ []) q)))

    by : Stands c b → both Equal ≡ begins (z ++ 47 ∷ []) q → both (nat_cmp c b) ≡ ((c == b) && begins (z ++ 47 ∷ []) q)
    by (Below e h) more = ap both e ∙ sym (ap (λ t. t && begins (z ++ 47 ∷ []) q) (ne_eqb c b (λ s. absurd (omega arith))))
    by (Same e h) more = ap both e ∙ more ∙ sym (ap (λ t. t && begins (z ++ 47 ∷ []) q) (eq-eqb c b h))
    by (Above e h) more = ap both e ∙ sym (ap (λ t. t && begins (z ++ 47 ∷ []) q) (ne_eqb c b (λ s. absurd (omega arith))))

-- ---- tests of some of a list

pub any_filter : {A : Type 0} (r t : A → Bool) (xs : List A) → list_any t (filter r xs) ≡ list_any (λ x. r x && t x) xs
any_filter r t [] = refl
any_filter r t (x ∷ xs) = by (r x) (any_filter r t xs)
  where
    by : (b : Bool) → list_any t (filter r xs) ≡ list_any (λ y. r y && t y) xs → list_any t (cond b (x ∷ filter r xs) (filter r xs)) ≡ ((b && t x) || list_any (λ y. r y && t y) xs)
    by true more = ap (λ b. t x || b) more
    by false more = more

or_true : (a : Bool) → (a || true) ≡ true
or_true true = refl
or_true false = refl

any_of_has : (f : Text → Bool) (keys : Parts) (key : Text) → has_folder keys key ≡ true → f key ≡ true → list_any f keys ≡ true
any_of_has f [] key has is = has
any_of_has f (k ∷ keys) key has is = by (is_at (slice_cmp nat_cmp key) k) refl has (λ h. any_of_has f keys key h is)
  where
    by : (b : Bool) → is_at (slice_cmp nat_cmp key) k ≡ b → (b || has_folder keys key) ≡ true → (has_folder keys key ≡ true → list_any f keys ≡ true) → (f k || list_any f keys) ≡ true
    by true same some more = ap (λ t. t || list_any f keys) (ap f (sym (same_name-is key k same)) ∙ is)
    by false other some more = ap (λ t. f k || t) (more some) ∙ or_true (f k)

record Found (f : Text → Bool) (keys : Parts) : Type 0 where
  key : Text
  there : has_folder keys key ≡ true
  is : f key ≡ true

found_of_any : (f : Text → Bool) (keys : Parts) → list_any f keys ≡ true → Found f keys
found_of_any f [] any = absurd (true≢false (sym any))
found_of_any f (k ∷ keys) any = by (f k) refl any (found_of_any f keys)
  where
    by : (b : Bool) → f k ≡ b → (b || list_any f keys) ≡ true → (list_any f keys ≡ true → Found f keys) → Found f (k ∷ keys)
    by true is some more = record { key = k; there = ap (λ t. t || has_folder keys k) (same_name-refl k); is = is }
    by false other some more =
        let later = more some in
        record { key = later.key; there = ap (λ t. is_at (slice_cmp nat_cmp later.key) k || t) later.there ∙ or_true (is_at (slice_cmp nat_cmp later.key) k); is = later.is }

-- ---- names without '/'

-- what stands behind the first '/'
behind_plain : (name u : Text) → is_plain name ≡ true → folder_in (name ++ 47 ∷ u) ≡ u
behind_plain [] u plain = refl
behind_plain (b ∷ name) u plain =
    let parts = and_parts (not (b == 47)) (is_plain name) plain in
    ap (λ t. cond t (name ++ 47 ∷ u) (folder_in (name ++ 47 ∷ u))) (not_true (b == 47) parts.0) ∙ behind_plain name u parts.1
  where
    not_true : (t : Bool) → not t ≡ true → t ≡ false
    not_true true e = absurd (true≢false (sym e))
    not_true false e = refl

-- two names before a '/'
record SameNames (a b x y : Text) : Type 0 where
  name : a ≡ b
  rest : begins x y ≡ true

plain_fronts : (a b x y : Text) → is_plain a ≡ true → is_plain b ≡ true → begins (a ++ 47 ∷ x) (b ++ 47 ∷ y) ≡ true → SameNames a b x y
plain_fronts [] [] x y pa pb is = record { name = refl; rest = (and_parts (47 == 47) (begins x y) is).1 }
plain_fronts [] (c ∷ b) x y pa pb is =
    let slash : 47 == c ≡ true = (and_parts (47 == c) (begins x (b ++ 47 ∷ y)) is).0 in
    let turned : c == 47 ≡ true = grind (arith, nat_tests, slash) in
    absurd (true≢false (sym (and_parts (not (c == 47)) (is_plain b) pb).0 ∙ ap not turned))
plain_fronts (c ∷ a) [] x y pa pb is =
    absurd (true≢false (sym (and_parts (not (c == 47)) (is_plain a) pa).0 ∙ ap not (and_parts (c == 47) (begins (a ++ 47 ∷ x) y) is).0))
plain_fronts (c ∷ a) (d ∷ b) x y pa pb is =
    let parts = and_parts (c == d) (begins (a ++ 47 ∷ x) (b ++ 47 ∷ y)) is in
    let same : c ≡ d = grind (arith, nat_tests, parts.0) in
    let more = plain_fronts a b x y (and_parts _ _ pa).1 (and_parts _ _ pb).1 parts.1 in
    record { name = ap (λ z. z ∷ a) same ∙ ap (λ (t : Text). d ∷ t) more.name; rest = more.rest }

plain_first : (name x y : Text) → begins x y ≡ true → begins (name ++ 47 ∷ x) (name ++ 47 ∷ y) ≡ true
plain_first [] x y is = is
plain_first (b ∷ name) x y is = and_from _ _ (search (rules, nat_tests)) (plain_first name x y is)

-- each component is plain
parts_plain : (text : Text) → list_all is_plain (components text) ≡ true
parts_plain [] = refl
parts_plain (x ∷ text) = by (x == 47) refl (first_part text) (parts_plain text)
  where
    by : (b : Bool) → (x == 47) ≡ b → (c : Text) × ((cs : Parts) × (components text ≡ c ∷ cs)) → list_all is_plain (components text) ≡ true
        → list_all is_plain (cond b ([] ∷ components text) (onto_first x (components text))) ≡ true
    by true is part all = all
    by false is part all =
        let first : (is_plain part.0 && list_all is_plain part.1.0) ≡ true = sym (ap (list_all is_plain) part.1.1) ∙ all in
        ap (λ (l : Parts). list_all is_plain (onto_first x l)) part.1.1
        ∙ and_from _ _ (and_from _ _ (ap not is) (and_parts _ _ first).0) (and_parts _ _ first).1

last_plain : (cs : Parts) → list_all is_plain cs ≡ true → is_plain (last_of cs) ≡ true
last_plain [] all = refl
last_plain (c ∷ []) all = (and_parts (is_plain c) true all).0
last_plain (c ∷ d ∷ cs) all = last_plain (d ∷ cs) (and_parts (is_plain c) (list_all is_plain (d ∷ cs)) all).1

-- a plain text has one component
one_component : (text : Text) → is_plain text ≡ true → components text ≡ text ∷ []
one_component [] plain = refl
one_component (b ∷ text) plain =
    let parts = and_parts (not (b == 47)) (is_plain text) plain in
    ap (λ t. cond t ([] ∷ components text) (onto_first b (components text))) (other (b == 47) parts.0) ∙ ap (onto_first b) (one_component text parts.1)
  where
    other : (t : Bool) → not t ≡ true → t ≡ false
    other true e = absurd (true≢false (sym e))
    other false e = refl

-- ---- components of joined words

-- what begins with joined words has them as its first components
components_front : (ws : Parts) (y : Text) → list_all is_plain ws ≡ true → components (joined ws ++ y) ≡ ws ++ components y
components_front [] y plain = refl
components_front (w ∷ ws) y plain =
    let parts = and_parts (is_plain w) (list_all is_plain ws) plain in
    ap components (append_assoc w (47 ∷ joined ws) y) ∙ components_joined w (joined ws ++ y)
    ∙ ap (λ (l : Parts). l ++ components (joined ws ++ y)) (one_component w parts.0) ∙ ap (λ (l : Parts). w ∷ l) (components_front ws y parts.1)

-- a text whose first component has others behind it
record FirstCut (text c : Text) (rest : Parts) : Type 0 where
  behind : Text
  is : text ≡ c ++ 47 ∷ behind
  parts : components behind ≡ rest

first_cut : (text c d : Text) (ds : Parts) → components text ≡ c ∷ d ∷ ds → FirstCut text c (d ∷ ds)
first_cut [] c d ds is = absurd (cc)
first_cut (x ∷ text) c d ds is = by (x == 47) refl is (first_part text) (first_cut text)
  where
    by : (b : Bool) → (x == 47) ≡ b → cond b ([] ∷ components text) (onto_first x (components text)) ≡ c ∷ d ∷ ds → (e : Text) × ((es : Parts) × (components text ≡ e ∷ es))
        → ((a b : Text) (bs : Parts) → components text ≡ a ∷ b ∷ bs → FirstCut text a (b ∷ bs)) → FirstCut (x ∷ text) c (d ∷ ds)
    by true slash same part more =
        let head : c ≡ [] = cc in
        let tail : components text ≡ d ∷ ds = cc in
        let here : x ≡ 47 = grind (arith, nat_tests, slash) in
        record { behind = text; is = ap (λ z. z ∷ text) here ∙ sym (ap (λ (t : Text). t ++ 47 ∷ text) head); parts = tail }
    by false other same part more =
        let shaped : (x ∷ part.0) ∷ part.1.0 ≡ c ∷ d ∷ ds = sym (ap (onto_first x) part.1.1) ∙ same in
        let head : x ∷ part.0 ≡ c = cc in
        let tail : part.1.0 ≡ d ∷ ds = cc in
        let cut = more part.0 d ds (part.1.1 ∙ ap (λ (l : Parts). part.0 ∷ l) tail) in
        record { behind = cut.behind; is = ap (λ (t : Text). x ∷ t) cut.is ∙ ap (λ (t : Text). t ++ 47 ∷ cut.behind) head; parts = cut.parts }

-- a text cut behind some of its components
record Cut (text : Text) (front : Parts) : Type 0 where
  folder : Text
  behind : Text
  is : text ≡ folder ++ 47 ∷ behind
  parts : components folder ≡ front

plain_of_first : (text c : Text) (cs : Parts) → components text ≡ c ∷ cs → is_plain c ≡ true
plain_of_first text c cs is = (and_parts (is_plain c) (list_all is_plain cs) (sym (ap (list_all is_plain) is) ∙ parts_plain text)).0

cut_at : (text c : Text) (front : Parts) (d : Text) (ds : Parts) → components text ≡ c ∷ (front ++ d ∷ ds) → Cut text (c ∷ front)
cut_at text c [] d ds is =
    let cut = first_cut text c d ds is in
    record { folder = c; behind = cut.behind; is = cut.is; parts = one_component c (plain_of_first text c (d ∷ ds) is) }
cut_at text c (e ∷ front) d ds is =
    let cut = first_cut text c e (front ++ d ∷ ds) is in
    let more = cut_at cut.behind e front d ds cut.parts in
    record {
      folder = c ++ 47 ∷ more.folder;
      behind = more.behind;
      is = cut.is ∙ ap (λ (t : Text). c ++ 47 ∷ t) more.is ∙ sym (append_assoc c (47 ∷ more.folder) (47 ∷ more.behind));
      parts = components_joined c more.folder ∙ ap (λ (l : Parts). l ++ components more.folder) (one_component c (plain_of_first text c (e ∷ (front ++ d ∷ ds)) is))
          ∙ ap (λ (l : Parts). c ∷ l) more.parts;
    }

-- a text whose components begin with some words, and has more, begins with them joined
begins_joined : (ws : Parts) (text : Text) (d : Text) (ds : Parts) → components text ≡ ws ++ d ∷ ds → begins (joined ws) text ≡ true
begins_joined [] text d ds is = refl
begins_joined (w ∷ []) text d ds is =
    let cut = first_cut text w d ds is in
    subst (λ (t : Text). begins (w ++ 47 ∷ []) t ≡ true) (sym cut.is) (plain_first w [] cut.behind refl)
begins_joined (w ∷ v ∷ ws) text d ds is =
    let cut = first_cut text w v (ws ++ d ∷ ds) is in
    subst (λ (t : Text). begins (joined (w ∷ v ∷ ws)) t ≡ true) (sym cut.is) (plain_first w (joined (v ∷ ws)) cut.behind (begins_joined (v ∷ ws) cut.behind d ds cut.parts))

-- ---- hits

same_bytes : (a : Text) → bytes_eq a a ≡ true
same_bytes a = (bytes_eq-Decides a a).1 refl

hits_behind : (ws : Parts) (name : Text) (cs : Parts) → hits_tree ws name (ws ++ cs) ≡ stands_before_last name cs
hits_behind [] name cs = refl
hits_behind (w ∷ ws) name cs = ap (λ t. t && hits_tree ws name (ws ++ cs)) (same_bytes w) ∙ hits_behind ws name cs

-- the last of some components stands before others
stands_of : (name : Text) (ms : Parts) (c : Text) (cs : Parts) (d : Text) (ds : Parts) → ms ≡ c ∷ cs → last_of ms ≡ name → stands_before_last name (ms ++ d ∷ ds) ≡ true
stands_of name [] c cs d ds is last = absurd (cc)
stands_of name (m ∷ []) c cs d ds is last = ap (λ t. t || list_any (λ e. bytes_eq e name) (without_last (d ∷ ds))) (subst (λ (t : Text). bytes_eq m t ≡ true) last (same_bytes m))
stands_of name (m ∷ n ∷ ms) c cs d ds is last =
    ap (λ t. bytes_eq m name || t) (stands_of name (n ∷ ms) n ms d ds refl last) ∙ or_true (bytes_eq m name)

-- components before and behind one that is the name
record Split (name : Text) (cs : Parts) : Type 0 where
  before : Parts
  next : Text
  behind : Parts
  is : cs ≡ before ++ name ∷ next ∷ behind

split_of : (name : Text) (cs : Parts) → stands_before_last name cs ≡ true → Split name cs
split_of name [] is = absurd (true≢false (sym is))
split_of name (c ∷ []) is = absurd (true≢false (sym is))
split_of name (c ∷ d ∷ cs) is = by (bytes_eq c name) refl is (split_of name (d ∷ cs))
  where
    by : (b : Bool) → bytes_eq c name ≡ b → (b || stands_before_last name (d ∷ cs)) ≡ true → (stands_before_last name (d ∷ cs) ≡ true → Split name (d ∷ cs)) → Split name (c ∷ d ∷ cs)
    by true same some more = record { before = []; next = d; behind = cs; is = ap (λ (t : Text). t ∷ d ∷ cs) ((bytes_eq-Decides c name).0 same) }
    by false other some more =
        let later = more some in
        record { before = c ∷ later.before; next = later.next; behind = later.behind; is = ap (λ (l : Parts). c ∷ l) later.is }

tree_split : (ws : Parts) (name : Text) (cs : Parts) → hits_tree ws name cs ≡ true → (rest : Parts) × ((cs ≡ ws ++ rest) × (stands_before_last name rest ≡ true))
tree_split [] name cs is = (cs, (refl, is))
tree_split (w ∷ ws) name [] is = absurd (true≢false (sym is))
tree_split (w ∷ ws) name (c ∷ cs) is =
    let parts = and_parts (bytes_eq c w) (hits_tree ws name cs) is in
    let more = tree_split ws name cs parts.1 in
    (more.0, (ap (λ (t : Text). t ∷ cs) ((bytes_eq-Decides c w).0 parts.0) ∙ ap (λ (l : Parts). w ∷ l) more.1.0, more.1.1))

-- ---- the keys of the folders in which a path is hit

module _ (keys : Parts) (path : Text) (ws : Parts) (name : Text) (words : AreWords ws name) (knows : Knows keys path) (folders : AreFolders keys) where
  -- the key has the name and begins with the words, and the path is in its folder
  serves : Text → Bool
  serves key = begins (name ++ 47 ∷ joined ws) key && begins (folder_in key ++ 47 ∷ []) path

  sound : list_any serves keys ≡ true → hits_tree ws name (components path) ≡ true
  unfolding serves
  sound any =
      let found = found_of_any serves keys any in
      let parts = and_parts (begins (name ++ 47 ∷ joined ws) found.key) (begins (folder_in found.key ++ 47 ∷ []) path) found.is in
      let (u, is) = folders found.key found.there in
      let last = last_of (components u) in
      let last_is : is_plain last ≡ true = last_plain (components u) (parts_plain u) in
      let same = plain_fronts name last (joined ws) u words.name_plain last_is (subst (λ (k : Text). begins (name ++ 47 ∷ joined ws) k ≡ true) is parts.0) in
      let folder : folder_in found.key ≡ u = ap folder_in is ∙ behind_plain last u last_is in
      let inside : begins (u ++ 47 ∷ []) path ≡ true = subst (λ (t : Text). begins (t ++ 47 ∷ []) path ≡ true) folder parts.1 in
      let y = drop (length (joined ws)) u in
      let u_is : u ≡ joined ws ++ y = begins_is (joined ws) u same.rest in
      let u_parts : components u ≡ ws ++ components y = ap components u_is ∙ components_front ws y words.plain in
      let r = drop (length (u ++ 47 ∷ [])) path in
      let path_is : path ≡ u ++ 47 ∷ r = begins_is (u ++ 47 ∷ []) path inside ∙ append_assoc u (47 ∷ []) r in
      let y_first = first_part y in
      let r_first = first_part r in
      let last_y : last_of (components y) ≡ name =
      ap last_of y_first.1.1 ∙ sym (last_behind ws y_first.0 y_first.1.0) ∙ ap (λ (l : Parts). last_of (ws ++ l)) (sym y_first.1.1) ∙ ap last_of (sym u_parts) ∙ sym same.name in
      let path_parts : components path ≡ ws ++ (components y ++ components r) =
      ap components path_is ∙ components_joined u r ∙ ap (λ (l : Parts). l ++ components r) u_parts ∙ append_assoc ws (components y) (components r) in
      ap (hits_tree ws name) path_parts ∙ hits_behind ws name (components y ++ components r)
      ∙ ap (λ (l : Parts). stands_before_last name (components y ++ l)) r_first.1.1
      ∙ stands_of name (components y) y_first.0 y_first.1.0 r_first.0 r_first.1.0 y_first.1.1 last_y

  complete : hits_tree ws name (components path) ≡ true → list_any serves keys ≡ true
  unfolding serves
  complete hit =
      let (rest, (parts, stand)) = tree_split ws name (components path) hit in
      let split = split_of name rest stand in
      let front = split.before ++ name ∷ [] in
      let whole : components path ≡ (ws ++ front) ++ split.next ∷ split.behind =
      parts ∙ ap (λ (l : Parts). ws ++ l) (split.is ∙ sym (append_assoc split.before (name ∷ []) (split.next ∷ split.behind))) ∙ sym (append_assoc ws front (split.next ∷ split.behind)) in
      let cut = cut_some ws front split.before (split.next) (split.behind) whole in
      let last : last_of (components cut.folder) ≡ name = ap last_of (cut.parts ∙ sym (append_assoc ws split.before (name ∷ []))) ∙ last_behind (ws ++ split.before) name [] in
      let inside : begins (cut.folder ++ 47 ∷ []) path ≡ true =
      subst (λ (t : Text). begins (cut.folder ++ 47 ∷ []) t ≡ true) (sym (cut.is ∙ sym (append_assoc cut.folder (47 ∷ []) cut.behind))) (begins_append (cut.folder ++ 47 ∷ []) cut.behind) in
      let key_is : key_of cut.folder ≡ name ++ 47 ∷ cut.folder = ap (λ (t : Text). t ++ 47 ∷ cut.folder) last in
      let (d, (ds, split_front)) = front_some split.before in
      let first : begins (name ++ 47 ∷ joined ws) (name ++ 47 ∷ cut.folder) ≡ true =
      plain_first name (joined ws) cut.folder (begins_joined ws cut.folder d ds (cut.parts ∙ ap (λ (l : Parts). ws ++ l) split_front)) in
      let folder : folder_in (name ++ 47 ∷ cut.folder) ≡ cut.folder = behind_plain name cut.folder words.name_plain in
      any_of_has serves keys (key_of cut.folder) (knows cut.folder inside)
      (subst (λ (k : Text). serves k ≡ true) (sym key_is) (and_from _ _ first (subst (λ (t : Text). begins (t ++ 47 ∷ []) path ≡ true) (sym folder) inside)))
    where
      front_some : (before : Parts) → (d : Text) × ((ds : Parts) × (before ++ name ∷ [] ≡ d ∷ ds))
      front_some [] = (name, ([], refl))
      front_some (b ∷ before) = (b, (before ++ name ∷ [], refl))

      cut_some : (vs front before : Parts) (d : Text) (ds : Parts) → components path ≡ (vs ++ (before ++ name ∷ [])) ++ d ∷ ds → Cut path (vs ++ (before ++ name ∷ []))
      cut_some [] front [] d ds is = cut_at path name [] d ds is
      cut_some [] front (b ∷ before) d ds is = cut_at path b (before ++ name ∷ []) d ds is
      cut_some (v ∷ vs) front before d ds is = cut_at path v (vs ++ (before ++ name ∷ [])) d ds is

  pub serves_is : list_any (λ key. begins (name ++ 47 ∷ joined ws) key && begins (folder_in key ++ 47 ∷ []) path) keys ≡ hits_tree ws name (components path)
  unfolding serves
  serves_is = by (list_any serves keys) (hits_tree ws name (components path)) sound complete
    where
      by : (a b : Bool) → (a ≡ true → b ≡ true) → (b ≡ true → a ≡ true) → a ≡ b
      by true b f g = sym (f refl)
      by false true f g = absurd (true≢false (sym (g refl)))
      by false false f g = refl

-- ---- the walks

-- what stands behind the first '/' of a key stands behind that of its rest
pub record BehindSoFar (key : Text) (at : ℕ) : Type 0 where
  pub same : folder_in key ≡ folder_in (drop at key)

pub behind_none : (key : Text) → BehindSoFar key 0
behind_none key = record { same = refl }

pub behind_more : (key : Text) (at : ℕ) → at < length key → get_or key at 0 ≢ 47 → BehindSoFar key at → BehindSoFar key (at + 1)
behind_more key at lt other so_far = record {
  same = so_far.same ∙ ap folder_in (drop-cons key at 0 lt) ∙ ap (λ t. cond t (drop (suc at) key) (folder_in (drop (suc at) key))) (ne_eqb (get_or key at 0) 47 other)
      ∙ ap (λ (n : ℕ). folder_in (drop n key)) (sym (add-one at));
}

pub behind_here : (key : Text) (at : ℕ) → at < length key → get_or key at 0 ≡ 47 → BehindSoFar key at → drop (at + 1) key ≡ folder_in key
behind_here key at lt here so_far = sym (so_far.same ∙ ap folder_in (drop-cons key at 0 lt) ∙ ap (λ b. cond (b == 47) (drop (suc at) key) (folder_in (drop (suc at) key))) here
    ∙ ap (λ (n : ℕ). drop n key) (sym (add-one at)))

pub behind_all : (key : Text) (at : ℕ) → length key ≤ at → BehindSoFar key at → [] ≡ folder_in key
behind_all key at all so_far = sym (so_far.same ∙ ap folder_in (drop_all at key all))

-- some words joined, and the others
pub record JoinedSoFar (words : Parts) (text : Text) (i : ℕ) : Type 0 where
  pub same : text ++ joined (drop i words) ≡ joined words

pub joined_none : (words : Parts) → JoinedSoFar words [] 0
joined_none words = record { same = refl }

pub joined_more : (words : Parts) (text word : Text) (i : ℕ) → i < length words → word ≡ get_or words i word → JoinedSoFar words text i → JoinedSoFar words ((text ++ word) ++ 47 ∷ []) (i + 1)
joined_more words text word i lt is so_far = record {
  same = append_assoc (text ++ word) (47 ∷ []) (joined (drop (i + 1) words)) ∙ append_assoc text word (47 ∷ joined (drop (i + 1) words))
      ∙ ap (λ (n : ℕ). text ++ (word ++ 47 ∷ joined (drop n words))) (add-one i)
      ∙ sym (ap (λ (l : Parts). text ++ joined l) (drop-cons words i word lt ∙ ap (λ (t : Text). t ∷ drop (suc i) words) (sym is))) ∙ so_far.same;
}

pub joined_all : (words : Parts) (text : Text) (i : ℕ) → length words ≤ i → JoinedSoFar words text i → text ≡ joined words
joined_all words text i all so_far = sym (append-nil text) ∙ ap (λ (l : Parts). text ++ joined l) (sym (drop_all i words all)) ∙ so_far.same

joined_ends : (words : Parts) → 0 < length words → (z : Text) × (joined words ≡ z ++ 47 ∷ [])
joined_ends [] some = absurd (omega arith)
joined_ends (w ∷ []) some = (w, refl)
joined_ends (w ∷ v ∷ words) some =
    let more = joined_ends (v ∷ words) (omega arith) in
    (w ++ 47 ∷ more.0, ap (λ (t : Text). w ++ 47 ∷ t) more.1 ∙ sym (append_assoc w (47 ∷ more.0) (47 ∷ [])))

less_last : (z : Text) (b : ℕ) → take (length (z ++ b ∷ []) - 1) (z ++ b ∷ []) ≡ z
less_last z b =
    let len : length (z ++ b ∷ []) - 1 ≡ length z = omega (arith, length-append z (b ∷ [])) in
    ap (λ (n : ℕ). take n (z ++ b ∷ [])) len ∙ front z
  where
    front : (y : Text) → take (length y) (y ++ b ∷ []) ≡ y
    front [] = refl
    front (x ∷ y) = ap (λ (t : Text). x ∷ t) (front y)

pub bounds_of : (words : Parts) (name text left front behind : Text) → AreWords words name → text ≡ joined words → left ≡ take (length text - 1) text
    → front ≡ name ++ 47 ∷ text → behind ≡ name ++ 47 ∷ (left ++ 48 ∷ []) → AreBounds words name front behind
bounds_of words name text left front behind are is left_is front_is behind_is =
    let ends = joined_ends words are.some in
    let whole : text ≡ ends.0 ++ 47 ∷ [] = is ∙ ends.1 in
    let start : left ≡ ends.0 = left_is ∙ ap (λ (t : Text). take (length t - 1) t) whole ∙ less_last ends.0 47 in
    record {
      start = ends.0;
      words_are = ends.1;
      front_is = front_is ∙ ap (λ (t : Text). name ++ 47 ∷ t) whole;
      behind_is = behind_is ∙ ap (λ (t : Text). name ++ 47 ∷ (t ++ 48 ∷ [])) start;
    }
