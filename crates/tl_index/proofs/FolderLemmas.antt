-- The folders of paths.
use Rattle.std.proofs.Common.{◌≡◌, ◌≢◌, ℕ, zero, suc, ◌+◌, ◌-◌, ◌<◌, ◌≤◌, ◌==◌, ◌&&◌, ◌||◌, Bool, true, false, cond, List, [], ◌∷◌, ◌++◌, length, get_or, set, take, drop, not, Result, Ok, Err, refl, sym, ap, subst, ◌∙◌, arith, inl, inr, IsTrue, append_assoc, length-append, length-drop, rules}
use Rattle.std.specs.Ordering.{nat_cmp, is_eq}
use Rattle.std.specs.Cmp.{tied_itself}
use Rattle.std.specs.Cmp.Lexicographic.{slice_cmp, nat_list_cmp_total}
use Rattle.std.specs.BTreeMap.{is_at}
use Rattle.std.specs.List.{AllByRecursion, list_any, onto_first, slice_split, insert}
use Rattle.std.proofs.lemmas.Bool.{cases_Bool, cases_lt, true≢false, and_parts, and_from, ne_eqb}
use Rattle.std.proofs.lemmas.Bool.Decides.{nat_tests}
use Rattle.std.proofs.lemmas.List.{take_more, get_or-drop, get_or_default}
use Rattle.tl_path.specs.Components.{components}
use Rattle.tl_model.specs.Volume.{same_name, same_name-is, same_name-refl, cases_name, same_name-apart}
use Rattle.tl_pattern.specs.Form.{last_of}
use Rattle.tl_index.specs.declared.hit.Hit.{Hit}
use Rattle.std.specs.Result.{OnOk}
use Rattle.tl_index.specs.Entries.{path_of, has, without, with_leaf}
use Rattle.tl_index.specs.Fronts.{begins, IsFirstFrom}
use Rattle.tl_index.specs.Folders.{key_of, has_folder, Knows, AreFolders, KnowsAll, Keeps, IsIndex}
use Rattle.tl_index.proofs.FrontLemmas.{begins_is, begins_append}
use Rattle.tl_entry.specs.Rising.{is_rising, IsPlace}
use Rattle.tl_entry.proofs.RisingLemmas.{placed}
use Rattle.tl_index.proofs.EntryLemmas.{all_at, rising_set, place_of_absent, has_here, put_at, all_put, rising_filter, all_filter}

abbrev Text : Type 0
Text = List ℕ

abbrev Keys : Type 0
Keys = List Text

pub keeps_same : (keys : Keys) → Keeps keys keys
keeps_same keys = record { stays = λ key has. has; folders = λ all. all }

pub keeps_then : (a b c : Keys) → Keeps a b → Keeps b c → Keeps a c
keeps_then a b c first second = record { stays = λ key has. second.stays key (first.stays key has); folders = λ all. second.folders (first.folders all) }

-- a folder more
pub kept_added : (old new : Keys) (folder key : Text) → key ≡ key_of folder → ((q : Text) → has_folder new q ≡ cond (is_at (slice_cmp nat_cmp key) q) true (has_folder old q)) → Keeps old new
kept_added old new folder key is updates = record {
  stays = λ q has. updates q ∙ by (is_at (slice_cmp nat_cmp key) q) (has_folder old q) has;
  folders = λ all q has. from q (is_at (slice_cmp nat_cmp key) q) refl all (sym (updates q) ∙ has);
}
  where
    by : (b c : Bool) → c ≡ true → cond b true c ≡ true
    by true c h = refl
    by false c h = h

    from : (q : Text) (b : Bool) → is_at (slice_cmp nat_cmp key) q ≡ b → AreFolders old → cond b true (has_folder old q) ≡ true → (u : Text) × (q ≡ key_of u)
    from q true same all has = (folder, sym (same_name-is key q same) ∙ is)
    from q false same all has = all q has

pub has_added : (old new : Keys) (folder key : Text) → key ≡ key_of folder → ((q : Text) → has_folder new q ≡ cond (is_at (slice_cmp nat_cmp key) q) true (has_folder old q)) → has_folder new (key_of folder) ≡ true
has_added old new folder key is updates =
    updates (key_of folder) ∙ ap (λ t. cond t true (has_folder old (key_of folder))) (ap (λ (k : Text). is_at (slice_cmp nat_cmp k) (key_of folder)) is ∙ same_name-refl (key_of folder))

pub none_known : KnowsAll [] []
none_known = record { knows = tt; folders = λ key has. absurd (true≢false (sym has)) }

pub knows_kept : (old new : Keys) (path : Text) → Keeps old new → Knows old path → Knows new path
knows_kept old new path keeps knows folder front = keeps.stays (key_of folder) (knows folder front)

pub all_kept : (old new : Keys) (hits : List Hit) → Keeps old new → AllByRecursion (λ (h : Hit). Knows old h.path) hits → AllByRecursion (λ (h : Hit). Knows new h.path) hits
all_kept old new [] keeps all = tt
all_kept old new (h ∷ hits) keeps all = (knows_kept old new h.path keeps all.0, all_kept old new hits keeps all.1)

-- ---- the folders of one path

length_front : (front text : Text) → begins front text ≡ true → length front ≤ length text
length_front front text is = omega (arith, ap length (begins_is front text is), length-append front (drop (length front) text))

pub front_taken : (front text : Text) → begins front text ≡ true → take (length front) text ≡ front
front_taken front text is = ap (take (length front)) (begins_is front text is) ∙ take_front front (drop (length front) text)
  where
    take_front : (a b : Text) → take (length a) (a ++ b) ≡ a
    take_front [] b = refl
    take_front (x ∷ a) b = ap (λ (t : Text). x ∷ t) (take_front a b)

pub begins_taken : (front text : Text) → take (length front) text ≡ front → begins front text ≡ true
begins_taken [] text is = refl
begins_taken (f ∷ front) [] is = absurd (cc)
begins_taken (f ∷ front) (b ∷ text) is =
    let head : b ≡ f = cc in
    let tail : take (length front) text ≡ front = cc in
    and_from _ _ (grind (arith, nat_tests, head)) (begins_taken front text tail)

-- a folder that two texts have in common
pub shared_folder : (folder path other : Text) (n : ℕ) → begins (folder ++ 47 ∷ []) path ≡ true → length folder < n → take n other ≡ take n path → begins (folder ++ 47 ∷ []) other ≡ true
shared_folder folder path other n front lt same =
    let len : length (folder ++ 47 ∷ []) ≡ length folder + 1 = length-append folder (47 ∷ []) in
    begins_taken (folder ++ 47 ∷ []) other
    (shorter (length (folder ++ 47 ∷ [])) n other path (omega (arith, len, lt)) same ∙ front_taken (folder ++ 47 ∷ []) path front)
  where
    shorter : (k n : ℕ) (a b : Text) → k ≤ n → take n a ≡ take n b → take k a ≡ take k b
    shorter zero n a b le e = refl
    shorter (suc k) zero a b le e = absurd (omega arith)
    shorter (suc k) (suc n) [] [] le e = refl
    shorter (suc k) (suc n) [] (y ∷ b) le e = absurd (cc)
    shorter (suc k) (suc n) (x ∷ a) [] le e = absurd (cc)
    shorter (suc k) (suc n) (x ∷ a) (y ∷ b) le e =
        let head : x ≡ y = cc in
        let tail : take n a ≡ take n b = cc in
        ap (λ z. z ∷ take k a) head ∙ ap (λ (t : Text). y ∷ t) (shorter k n a b (omega arith) tail)

-- ---- the components of joined texts

is_slash : ℕ → Bool
is_slash b = b == 47

pub first_part : (text : Text) → (c : Text) × ((cs : Keys) × (components text ≡ c ∷ cs))
first_part [] = ([], ([], refl))
first_part (x ∷ text) = by (x == 47) (first_part text)
  where
    by : (b : Bool) → (c : Text) × ((cs : Keys) × (components text ≡ c ∷ cs)) → (c : Text) × ((cs : Keys) × (cond b ([] ∷ components text) (onto_first x (components text)) ≡ c ∷ cs))
    by true part = ([], (components text, refl))
    by false part = (x ∷ part.0, (part.1.0, ap (onto_first x) part.1.1))

pub components_joined : (a b : Text) → components (a ++ 47 ∷ b) ≡ components a ++ components b
components_joined [] b = refl
components_joined (x ∷ a) b = by (x == 47) (components_joined a b) (first_part a)
  where
    by : (t : Bool) → components (a ++ 47 ∷ b) ≡ components a ++ components b → (c : Text) × ((cs : Keys) × (components a ≡ c ∷ cs))
        → cond t ([] ∷ components (a ++ 47 ∷ b)) (onto_first x (components (a ++ 47 ∷ b))) ≡ cond t ([] ∷ components a) (onto_first x (components a)) ++ components b
    by true more part = ap (λ (l : Keys). [] ∷ l) more
    by false more part = ap (onto_first x) (more ∙ ap (λ (l : Keys). l ++ components b) part.1.1) ∙ sym (ap (λ (l : Keys). onto_first x l ++ components b) part.1.1)

pub last_behind : (xs : Keys) (y : Text) (ys : Keys) → last_of (xs ++ y ∷ ys) ≡ last_of (y ∷ ys)
last_behind [] y ys = refl
last_behind (x ∷ []) y ys = refl
last_behind (x ∷ w ∷ xs) y ys = last_behind (w ∷ xs) y ys

-- the last of some components with one byte more
grown : ℕ → Keys → Keys
grown b [] = []
grown b (c ∷ []) = (c ++ b ∷ []) ∷ []
grown b (c ∷ d ∷ cs) = c ∷ grown b (d ∷ cs)

grown_onto : (b x : ℕ) (c : Text) (cs : Keys) → onto_first x (grown b (c ∷ cs)) ≡ grown b (onto_first x (c ∷ cs))
unfolding grown
grown_onto b x c [] = refl
grown_onto b x c (d ∷ cs) = refl

last_grown : (b : ℕ) (c : Text) (cs : Keys) → last_of (grown b (c ∷ cs)) ≡ last_of (c ∷ cs) ++ b ∷ []
unfolding grown
last_grown b c [] = refl
last_grown b c (d ∷ []) = refl
last_grown b c (d ∷ e ∷ cs) = last_grown b d (e ∷ cs)

components_grown : (text : Text) (b : ℕ) → (b == 47) ≡ false → components (text ++ b ∷ []) ≡ grown b (components text)
unfolding grown
components_grown [] b other = ap (λ t. cond t ([] ∷ [] ∷ []) ((b ∷ []) ∷ [])) other
components_grown (x ∷ text) b other = by (x == 47) (components_grown text b other) (first_part text)
  where
    by : (t : Bool) → components (text ++ b ∷ []) ≡ grown b (components text) → (c : Text) × ((cs : Keys) × (components text ≡ c ∷ cs))
        → cond t ([] ∷ components (text ++ b ∷ [])) (onto_first x (components (text ++ b ∷ []))) ≡ grown b (cond t ([] ∷ components text) (onto_first x (components text)))
    by true more part = ap (λ (l : Keys). [] ∷ l) more ∙ ap (λ (l : Keys). [] ∷ grown b l) part.1.1 ∙ sym (ap (λ (l : Keys). grown b ([] ∷ l)) part.1.1)
    by false more part = ap (onto_first x) (more ∙ ap (grown b) part.1.1) ∙ grown_onto b x part.0 part.1.0 ∙ sym (ap (λ (l : Keys). grown b (onto_first x l)) part.1.1)

last_more : (text : Text) (b : ℕ) → (b == 47) ≡ false → last_of (components (text ++ b ∷ [])) ≡ last_of (components text) ++ b ∷ []
last_more text b other =
    let part = first_part text in
    ap last_of (components_grown text b other ∙ ap (grown b) part.1.1) ∙ last_grown b part.0 part.1.0 ∙ sym (ap (λ (l : Keys). last_of l ++ b ∷ []) part.1.1)

last_slash : (text : Text) → last_of (components (text ++ 47 ∷ [])) ≡ []
last_slash text = ap last_of (components_joined text []) ∙ last_behind (components text) [] []

slash_at : (folder path : Text) → begins (folder ++ 47 ∷ []) path ≡ true → get_or path (length folder) 0 ≡ 47
slash_at [] [] is = absurd (true≢false (sym is))
slash_at [] (b ∷ path) is = grind (arith, nat_tests, (and_parts (47 == b) true is).0)
slash_at (f ∷ folder) [] is = absurd (true≢false (sym is))
slash_at (f ∷ folder) (b ∷ path) is = slash_at folder path (and_parts _ _ is).1

-- ---- the walk over a path

-- a walk over the first bytes of a path, whose last component so far begins at a place: the folders that end there are added from a place on
pub record AddedSoFar (path : Text) (from start at : ℕ) (old new : Keys) : Type 0 where
  pub bound : start ≤ at
  pub name : take (at - start) (drop start path) ≡ last_of (components (take at path))
  pub keeps : Keeps old new
  pub there : (folder : Text) → begins (folder ++ 47 ∷ []) path ≡ true → from ≤ length folder → length folder < at → has_folder new (key_of folder) ≡ true

pub added_none : (path : Text) (from : ℕ) (keys : Keys) → AddedSoFar path from 0 0 keys keys
added_none path from keys = record {
  bound = omega arith;
  name = refl;
  keeps = keeps_same keys;
  there = λ folder front le lt. absurd (omega arith);
}

-- the byte at a place
pub record IsByte (path : Text) (at b : ℕ) : Type 0 where
  pub inside : at < length path
  pub is : b ≡ get_or path at b

one_longer : (path : Text) (at b : ℕ) → IsByte path at b → take (at + 1) path ≡ take at path ++ b ∷ []
one_longer path at b byte = take_more path at b byte.inside ∙ ap (λ x. take at path ++ x ∷ []) (sym byte.is)

pub added_byte : (path : Text) (from start at : ℕ) (old new : Keys) (b : ℕ) → IsByte path at b → b ≢ 47 → AddedSoFar path from start at old new → AddedSoFar path from start (at + 1) old new
added_byte path from start at old new b byte other so_far =
    let longer : at + 1 - start ≡ (at - start) + 1 = omega (arith, so_far.bound) in
    let inside : at - start < length (drop start path) = omega (arith, length-drop start path, so_far.bound, byte.inside) in
    let place : start + (at - start) ≡ at = omega (arith, so_far.bound) in
    let part : take ((at - start) + 1) (drop start path) ≡ take (at - start) (drop start path) ++ b ∷ [] =
    take_more (drop start path) (at - start) b inside
    ∙ ap (λ x. take (at - start) (drop start path) ++ x ∷ []) (get_or-drop start path (at - start) b ∙ ap (λ k. get_or path k b) place ∙ sym byte.is) in
    record {
      bound = omega (arith, so_far.bound);
      name = ap (λ n. take n (drop start path)) longer ∙ part ∙ ap (λ (t : Text). t ++ b ∷ []) so_far.name
          ∙ sym (ap (λ (t : Text). last_of (components t)) (one_longer path at b byte) ∙ last_more (take at path) b (ne_eqb b 47 other));
      keeps = so_far.keeps;
      there = λ folder front le less. elim (cases_lt (length folder) at) [
        | inl before ↦ so_far.there folder front le before
        | inr here ↦
            let same : at ≡ length folder = omega (arith, here, less) in
            absurd (other (byte.is ∙ get_or_default path at b 0 byte.inside ∙ ap (λ k. get_or path k 0) same ∙ slash_at folder path front))
      ];
    }

begins_part : (a b text : Text) → begins (a ++ b) text ≡ true → begins a text ≡ true
begins_part [] b text is = refl
begins_part (x ∷ a) b [] is = absurd (true≢false (sym is))
begins_part (x ∷ a) b (y ∷ text) is = and_from _ _ (and_parts _ _ is).0 (begins_part a b text (and_parts _ _ is).1)

-- a folder of a path is its bytes before a '/'
pub folder_taken : (folder path : Text) → begins (folder ++ 47 ∷ []) path ≡ true → take (length folder) path ≡ folder
folder_taken folder path front = front_taken folder path (begins_part folder (47 ∷ []) path front)

ended_name : (path : Text) (at b : ℕ) → IsByte path at b → b ≡ 47 → take (at + 1 - (at + 1)) (drop (at + 1) path) ≡ last_of (components (take (at + 1) path))
ended_name path at b byte slash =
    let none : at + 1 - (at + 1) ≡ 0 = omega arith in
    ap (λ n. take n (drop (at + 1) path)) none
    ∙ sym (ap (λ (t : Text). last_of (components t)) (one_longer path at b byte ∙ ap (λ x. take at path ++ x ∷ []) slash) ∙ last_slash (take at path))

pub added_slash : (path : Text) (from start at : ℕ) (old new next : Keys) (b : ℕ) → IsByte path at b → b ≡ 47 → Keeps new next → has_folder next (key_of (take at path)) ≡ true
    → AddedSoFar path from start at old new → AddedSoFar path from (at + 1) (at + 1) old next
added_slash path from start at old new next b byte slash keeps here so_far = record {
  bound = omega arith;
  name = ended_name path at b byte slash;
  keeps = keeps_then old new next so_far.keeps keeps;
  there = λ folder front le less. elim (cases_lt (length folder) at) [
    | inl before ↦ keeps.stays (key_of folder) (so_far.there folder front le before)
    | inr upto ↦
        let same : at ≡ length folder = omega (arith, upto, less) in
        subst (λ (u : Text). has_folder next (key_of u) ≡ true) (ap (λ n. take n path) same ∙ folder_taken folder path front) here
  ];
}

pub passed_slash : (path : Text) (from start at : ℕ) (old new : Keys) (b : ℕ) → IsByte path at b → b ≡ 47 → at < from → AddedSoFar path from start at old new → AddedSoFar path from (at + 1) (at + 1) old new
passed_slash path from start at old new b byte slash lt so_far = record {
  bound = omega arith;
  name = ended_name path at b byte slash;
  keeps = so_far.keeps;
  there = λ folder front le less. so_far.there folder front le (omega (arith, le, lt, less));
}

pub added_moved : (path : Text) (from start later at : ℕ) (old new next : Keys) → later ≡ start → next ≡ new → AddedSoFar path from start at old new → AddedSoFar path from later at old next
added_moved path from start later at old new next same keys so_far =
    subst (λ n. AddedSoFar path from n at old next) (sym same) (subst (λ (k : Keys). AddedSoFar path from start at old k) (sym keys) so_far)

pub added_all : (path : Text) (from start at : ℕ) (old new : Keys) → length path ≤ at → AddedSoFar path from start at old new
    → (folder : Text) → begins (folder ++ 47 ∷ []) path ≡ true → from ≤ length folder → has_folder new (key_of folder) ≡ true
added_all path from start at old new all so_far folder front le =
    so_far.there folder front le (omega (arith, all, length_front (folder ++ 47 ∷ []) path front, length-append folder (47 ∷ [])))

pub byte_at : (path : Text) (at : ℕ) → at < length path → IsByte path at (get_or path at 0)
byte_at path at lt = record { inside = lt; is = get_or_default path at 0 (get_or path at 0) lt }

-- a folder of one of the entries is known
pub known_of_any : (keys : Keys) (folder : Text) (hits : List Hit) → AllByRecursion (λ (h : Hit). Knows keys h.path) hits → list_any (λ (h : Hit). begins (folder ++ 47 ∷ []) h.path) hits ≡ true
    → has_folder keys (key_of folder) ≡ true
known_of_any keys folder [] all any = absurd (true≢false (sym any))
known_of_any keys folder (h ∷ hits) all any = by (begins (folder ++ 47 ∷ []) h.path) refl any (known_of_any keys folder hits all.1)
  where
    by : (b : Bool) → begins (folder ++ 47 ∷ []) h.path ≡ b → (b || list_any (λ (e : Hit). begins (folder ++ 47 ∷ []) e.path) hits) ≡ true
        → (list_any (λ (e : Hit). begins (folder ++ 47 ∷ []) e.path) hits ≡ true → has_folder keys (key_of folder) ≡ true) → has_folder keys (key_of folder) ≡ true
    by true is some more = all.0 folder is
    by false is some more = more some

pub any_at : (p : Hit → Bool) (hits : List Hit) (k : ℕ) (d : Hit) → k < length hits → p (get_or hits k d) ≡ true → list_any p hits ≡ true
any_at p [] k d lt is = absurd (omega arith)
any_at p (h ∷ hits) zero d lt is = ap (λ t. t || list_any p hits) is
any_at p (h ∷ hits) (suc k) d lt is = ap (λ t. p h || t) (any_at p hits k d (omega arith) is) ∙ or_true (p h)
  where
    or_true : (a : Bool) → (a || true) ≡ true
    or_true true = refl
    or_true false = refl

-- the folders of a path: those that end before a place are known, and the others are added
pub knows_both : (old new : Keys) (hits : List Hit) (path : Text) (from : ℕ) → AllByRecursion (λ (h : Hit). Knows old h.path) hits → Keeps old new
    → ((folder : Text) → begins (folder ++ 47 ∷ []) path ≡ true → length folder < from → list_any (λ (h : Hit). begins (folder ++ 47 ∷ []) h.path) hits ≡ true)
    → ((folder : Text) → begins (folder ++ 47 ∷ []) path ≡ true → from ≤ length folder → has_folder new (key_of folder) ≡ true) → Knows new path
knows_both old new hits path from all keeps before added folder front = elim (cases_lt (length folder) from) [
  | inl lt ↦ keeps.stays (key_of folder) (known_of_any old folder hits all (before folder front lt))
  | inr le ↦ added folder front le
]

pub on_ok : {T E A B : Type 0} (r : Result T E) → (A → B) → OnOk r A → OnOk r B
on_ok (Ok x) f a = f a
on_ok (Err e) f a = tt

-- ---- an index

all_set : (P : Hit → Type 0) (xs : List Hit) (i : ℕ) (x : Hit) → AllByRecursion P xs → P x → AllByRecursion P (set xs i x)
all_set P [] i x all here = tt
all_set P (y ∷ ys) zero x all here = (here, all.1)
all_set P (y ∷ ys) (suc i) x all here = (all.0, all_set P ys i x all.1 here)

-- another leaf at a path's place
pub index_set : (keys : Keys) (hits : List Hit) (at : ℕ) (x item : Hit) → IsIndex keys hits → at < length hits → (get_or hits at item).path ≡ x.path → IsIndex keys (set hits at x)
index_set keys hits at x item is lt same = record {
  rising = rising_set x hits at item lt same is.rising;
  known = record {
    knows = all_set (λ (h : Hit). Knows keys h.path) hits at x is.known.knows (subst (λ (t : Text). Knows keys t) same (all_at (λ (h : Hit). Knows keys h.path) hits at item is.known.knows lt));
    folders = is.known.folders;
  };
}

-- more folders
pub index_kept : (old new : Keys) (hits : List Hit) → IsIndex old hits → Keeps old new → IsIndex new hits
index_kept old new hits is keeps = record { rising = is.rising; known = record { knows = all_kept old new hits keeps is.known.knows; folders = keeps.folders is.known.folders } }

place_from : (path : Text) (hits : List Hit) (at : ℕ) → is_rising path_of hits ≡ true → IsFirstFrom path hits at → has path hits ≡ false → IsPlace path_of path hits at
place_from path hits at up first none = place_of_absent path hits at up first (λ d lt is. true≢false (sym (has_here path hits at d lt is) ∙ none))

-- one path more
pub index_put : (keys : Keys) (hits new : List Hit) (at : ℕ) (x : Hit) → IsIndex keys hits → IsFirstFrom x.path hits at → has x.path hits ≡ false → Knows keys x.path → new ≡ insert hits at x → IsIndex keys new
index_put keys hits new at x is first none knows same =
    let place = place_from x.path hits at is.rising first none in
    record {
      rising = (placed path_of x x.path hits hits new at refl refl is.rising place same).rising;
      known = record {
        knows = subst (λ (l : List Hit). AllByRecursion (λ (h : Hit). Knows keys h.path) l) (put_at x hits at place ∙ sym same) (all_put (λ (h : Hit). Knows keys h.path) hits x is.known.knows knows);
        folders = is.known.folders;
      };
    }

pub put_is : (hits new : List Hit) (at : ℕ) (x : Hit) → is_rising path_of hits ≡ true → IsFirstFrom x.path hits at → has x.path hits ≡ false → new ≡ insert hits at x → new ≡ with_leaf x.path x.leaf hits
put_is hits new at x up first none same = same ∙ sym (put_at x hits at (place_from x.path hits at up first none))

-- one path less
pub index_without : (keys : Keys) (hits new : List Hit) (path : Text) → IsIndex keys hits → new ≡ without path hits → IsIndex keys new
index_without keys hits new path is same = record {
  rising = ap (is_rising path_of) same ∙ rising_filter (λ (h : Hit). not (same_name h.path path)) hits is.rising;
  known = record {
    knows = subst (λ (l : List Hit). AllByRecursion (λ (h : Hit). Knows keys h.path) l) (sym same) (all_filter (λ (h : Hit). Knows keys h.path) (λ (h : Hit). not (same_name h.path path)) hits is.known.knows);
    folders = is.known.folders;
  };
}
