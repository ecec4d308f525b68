-- What lines that were taken have listed: a text so far, its items, and the files and directories that they are of.
use Rattle.std.proofs.Common.{◌≡◌, ◌⊎◌, ℕ, Bool, true, false, cond, ◌||◌, List, [], ◌∷◌, ◌++◌, refl, sym, ap, subst, ◌∙◌, inl, inr, append_assoc}
use Rattle.std.specs.Prelude.{bytes_eq, drop}
use Rattle.std.specs.List.{AllByRecursion, list_any}
use Rattle.std.specs.Ordering.{is_eq, ordering_reverse}
use Rattle.std.specs.declared.cmp.Ordering.TheVariants.{Less}
use Rattle.std.specs.Cmp.Lexicographic.{nat_list_cmp_total, texts_ties}
use Rattle.std.specs.Cmp.{tied_itself}
use Rattle.std.specs.BTreeMap.{is_at}
use Rattle.std.specs.BTreeSet.{insert_key}
use Rattle.std.specs.Set.{remove_key}
use Rattle.std.proofs.lemmas.Bool.{true≢false}
use Rattle.std.proofs.lemmas.List.{append-nil}
use Rattle.tl_path.specs.Path.{IsPath}
use Rattle.tl_path.specs.Components.{components}
use Rattle.tl_lsr.specs.Items.{folder, item, dir_of, name_of, path_in, items_of, items_below}
use Rattle.tl_lsr.specs.Lists.{closing, heading, turning, listing}
use Rattle.tl_lsr.specs.Reading.{Listed, has, nothing}
use Rattle.tl_lsr.proofs.SetLemmas.{Text, order, Up, less_trans, or_swap, or_true, any-insert, all-insert, up-insert, all-remove, up-remove, any-remove, none-remove, remove-none, has_itself, same_of}
use Rattle.tl_lsr.proofs.ItemLemmas.{IsClear, IsName, dir_of-item, name_of-item, item_names, item_dirs, front_less, components-in, joined, joined-more, items_below-more}

-- ---- lists

pub all_map : {P Q : Text → Type 0} (xs : List Text) → ((x : Text) → P x → Q x) → AllByRecursion P xs → AllByRecursion Q xs
all_map [] f each = tt
all_map (x ∷ xs) f each = (f x each.0, all_map xs f each.1)

all_more : (P : Text → Type 0) (xs : List Text) (x : Text) → AllByRecursion P xs → P x → AllByRecursion P (xs ++ x ∷ [])
all_more P [] x each here = (here, tt)
all_more P (y ∷ xs) x each here = (each.0, all_more P xs x each.1 here)

pub any_more : (q : Text → Bool) (xs : List Text) (x : Text) → list_any q (xs ++ x ∷ []) ≡ (q x || list_any q xs)
any_more q [] x = refl
any_more q (y ∷ xs) x = ap (λ b. q y || b) (any_more q xs x) ∙ or_swap (q y) (q x) (list_any q xs)

up_more : (xs : List Text) (x : Text) → Up xs → AllByRecursion (λ y. order y x ≡ Less) xs → Up (xs ++ x ∷ [])
up_more [] x up below = (tt, tt)
up_more (y ∷ xs) x up below = (all_more (λ (z : Text). order y z ≡ Less) xs x up.0 below.0, up_more xs x up.1 below.1)

-- what is there and passes a test
pub any_at : (q : Text → Bool) (k : Text) (xs : List Text) → has xs k ≡ true → q k ≡ true → list_any q xs ≡ true
any_at q k xs there is = any-remove q k xs there ∙ ap (λ b. b || list_any q (remove_key (is_at (order k)) xs)) is

-- what holds of all holds of what is there
pub all_at : (P : Text → Type 0) (k : Text) (xs : List Text) → AllByRecursion P xs → has xs k ≡ true → P k
all_at P k [] each there = absurd (true≢false (sym there))
all_at P k (x ∷ xs) each there = by (is_at (order k) x) refl there (all_at P k xs each.1)
  where
    by : (t : Bool) → is_at (order k) x ≡ t → (t || has xs k) ≡ true → (has xs k ≡ true → P k) → P k
    by true is there more = subst P (sym (same_of k x is)) each.0
    by false is there more = more there

none_or : (a b : Bool) → (a || b) ≡ false → (a ≡ false) × (b ≡ false)
none_or true b e = absurd (cc)
none_or false b e = (refl, e)

-- none of what is left passes where none did
none-remove_any : (q : Text → Bool) (k : Text) (xs : List Text) → list_any q xs ≡ false → list_any q (remove_key (is_at (order k)) xs) ≡ false
none-remove_any q k [] none = refl
none-remove_any q k (x ∷ xs) none = by (is_at (order k) x) (none_or (q x) (list_any q xs) none) (none-remove_any q k xs)
  where
    by : (t : Bool) → (q x ≡ false) × (list_any q xs ≡ false) → (list_any q xs ≡ false → list_any q (remove_key (is_at (order k)) xs) ≡ false) → list_any q (cond t xs (x ∷ remove_key (is_at (order k)) xs)) ≡ false
    by true both more = both.1
    by false both more = ap (λ b. b || list_any q (remove_key (is_at (order k)) xs)) both.0 ∙ more both.1

-- ---- the lines of items so far

-- the lines of items without the empty line behind the last one
abbrev pub body : Text → List Text → List Text
body dir [] = []
body dir (it ∷ items) = turning dir (dir_of it) ++ name_of it ∷ body (dir_of it) items

-- the directory of the last item
abbrev pub end_dir : Text → List Text → Text
end_dir dir [] = dir
end_dir dir (it ∷ items) = end_dir (dir_of it) items

pub listing_body : (dir : Text) (items : List Text) → listing dir items ≡ body dir items ++ closing (end_dir dir items)
listing_body dir [] = refl
listing_body dir (it ∷ items) =
    ap (λ (ls : List Text). turning dir (dir_of it) ++ name_of it ∷ ls) (listing_body (dir_of it) items)
    ∙ sym (append_assoc (turning dir (dir_of it)) (name_of it ∷ body (dir_of it) items) (closing (end_dir (dir_of it) items)))

body_more : (dir : Text) (items : List Text) (it : Text) → body dir (items ++ it ∷ []) ≡ body dir items ++ turning (end_dir dir items) (dir_of it) ++ name_of it ∷ []
body_more dir [] it = refl
body_more dir (x ∷ items) it =
    ap (λ (ls : List Text). turning dir (dir_of x) ++ name_of x ∷ ls) (body_more (dir_of x) items it)
    ∙ sym (append_assoc (turning dir (dir_of x)) (name_of x ∷ (body (dir_of x) items ++ turning (end_dir (dir_of x) items) (dir_of it))) (name_of it ∷ []))
    ∙ ap (λ (ls : List Text). ls ++ name_of it ∷ []) (sym (append_assoc (turning dir (dir_of x)) (name_of x ∷ body (dir_of x) items) (turning (end_dir (dir_of x) items) (dir_of it))))

end_dir_more : (dir : Text) (items : List Text) (it : Text) → end_dir dir (items ++ it ∷ []) ≡ dir_of it
end_dir_more dir [] it = refl
end_dir_more dir (x ∷ items) it = end_dir_more (dir_of x) items it

-- ---- directories

-- a directory is the folder, or names below it
pub record Stands (dir : Text) : Type 0 where
  pub names : List Text
  pub parts : components dir ≡ folder ∷ names
  pub is : dir ≡ joined folder names

pub stands_folder : Stands folder
stands_folder = record { names = []; parts = refl; is = refl }

pub parts_in : (dir name : Text) (stands : Stands dir) → IsName name → components (path_in dir name) ≡ folder ∷ (stands.names ++ name ∷ [])
parts_in dir name stands is = components-in dir name is ∙ ap (λ (cs : List Text). cs ++ name ∷ []) stands.parts

pub stands_in : (dir name : Text) → Stands dir → IsName name → Stands (path_in dir name)
stands_in dir name stands is = record {
  names = stands.names ++ name ∷ [];
  parts = parts_in dir name stands is;
  is = ap (λ (d : Text). path_in d name) stands.is ∙ sym (joined-more folder stands.names name);
}

items_of_names : (dir : Text) (names : List Text) → components dir ≡ folder ∷ names → items_of dir ≡ items_below folder names
items_of_names dir names parts = ap (λ (cs : List Text). items_below folder (drop 1 cs)) parts

-- the items of a name in a directory are those of the directory and its own
pub items_in : (dir name : Text) → Stands dir → IsName name → items_of (path_in dir name) ≡ items_of dir ++ item dir name ∷ []
items_in dir name stands is =
    items_of_names (path_in dir name) (stands.names ++ name ∷ []) (parts_in dir name stands is)
    ∙ items_below-more folder stands.names name
    ∙ ap (λ (its : List Text). its ++ item (joined folder stands.names) name ∷ []) (sym (items_of_names dir stands.names stands.parts))
    ∙ ap (λ (d : Text). items_of dir ++ item d name ∷ []) (sym stands.is)

-- a name in a directory that was begun
pub record IsChild (dirs : List Text) (path : Text) : Type 0 where
  pub dir : Text
  pub name : Text
  pub is : path ≡ path_in dir name
  pub named : IsName name
  pub there : has dirs dir ≡ true

pub record IsFile (dirs : List Text) (path : Text) : Type 0 where
  pub form : IsPath path
  pub child : IsChild dirs path

pub record IsDir (dirs : List Text) (dir : Text) : Type 0 where
  pub stands : Stands dir
  pub clear : IsClear dir
  pub from : (dir ≡ folder) ⊎ IsChild dirs dir

child_on : (next : Text) (dirs : List Text) (path : Text) → IsChild dirs path → IsChild (next ∷ dirs) path
child_on next dirs path child = record {
  dir = child.dir;
  name = child.name;
  is = child.is;
  named = child.named;
  there = ap (λ b. is_at (order child.dir) next || b) child.there ∙ or_true (is_at (order child.dir) next);
}

-- ---- what was reached

-- an item is below the one of a name in a directory, or is it
pub record IsUnder (dir last it : Text) : Type 0 where
  pub its_dir : Text
  pub its_name : Text
  pub is : it ≡ item its_dir its_name
  pub clear : IsClear its_dir
  pub under : (order its_dir dir ≡ Less) ⊎ ((its_dir ≡ dir) × ((order its_name last ≡ Less) ⊎ (its_name ≡ last)))

abbrev pub state : List Text → Text → Bool → Text → Listed
state files dir is_open last = record { files = files; dir = dir; is_open = is_open; last = last }

-- the lines behind those of the items
abbrev pub behind_body : Bool → Text → Text → Text → List Text
behind_body false last before dir = closing before
behind_body true [] before dir = closing before ++ heading dir ∷ []
behind_body true (b ∷ last) before dir = []

abbrev pub IsLastDir : Bool → Text → Text → Text → Type 0
IsLastDir false last before dir = before ≡ dir
IsLastDir true [] before dir = order before dir ≡ Less
IsLastDir true (b ∷ last) before dir = before ≡ dir

abbrev pub IsLastName : Bool → Text → List Text → Text → Type 0
IsLastName false last files dir = Unit {0}
IsLastName true [] files dir = Unit {0}
IsLastName true (b ∷ last) files dir = (has files (path_in dir (b ∷ last)) ≡ true) × IsName (b ∷ last)

pub record IsBegun (dir : Text) (dirs : List Text) : Type 0 where
  pub stands : Stands dir
  pub there : has dirs dir ≡ true
  pub ends : closing dir ≡ [] ∷ []

abbrev pub IsOpen : Bool → Text → List Text → Type 0
IsOpen false dir dirs = Unit {0}
IsOpen true dir dirs = IsBegun dir dirs

abbrev pub open_items : Bool → Text → List Text
open_items false dir = []
open_items true dir = items_of dir

pub record Reached (lines : List Text) (listed : Listed) (items dirs : List Text) : Type 0 where
  pub text : lines ≡ body [] items ++ behind_body listed.is_open listed.last (end_dir [] items) listed.dir
  pub last_dir : IsLastDir listed.is_open listed.last (end_dir [] items) listed.dir
  pub last_name : IsLastName listed.is_open listed.last listed.files listed.dir
  pub up : Up items
  pub below : AllByRecursion (IsUnder listed.dir listed.last) items
  pub clear : IsClear listed.dir
  pub sets : (w : Text) → has items w ≡ (list_any (λ f. has (items_of f) w) listed.files || has (open_items listed.is_open listed.dir) w)
  pub files : AllByRecursion (IsFile dirs) listed.files
  pub known : AllByRecursion (IsDir dirs) dirs
  pub dirs_below : AllByRecursion (λ d. (order d listed.dir ≡ Less) ⊎ (d ≡ listed.dir)) dirs
  pub apart : (w : Text) → has dirs w ≡ true → has listed.files w ≡ false
  pub up_files : Up listed.files
  pub begun : IsOpen listed.is_open listed.dir dirs

pub reached_none : Reached [] nothing [] []
reached_none = record {
  text = refl;
  last_dir = refl;
  last_name = tt;
  up = tt;
  below = tt;
  clear = tt;
  sets = λ w. refl;
  files = tt;
  known = tt;
  dirs_below = tt;
  apart = λ w there. absurd (true≢false (sym there));
  up_files = tt;
  begun = tt;
}

-- ---- a section ends

absorbed : (a d : Bool) → (d ≡ true → a ≡ true) → (a || d) ≡ (a || false)
absorbed true d covered = refl
absorbed false true covered = sym (covered refl)
absorbed false false covered = refl

pub reached_end : (lines files : List Text) (dir : Text) (b : ℕ) (last : Text) (items dirs : List Text) → Reached lines (state files dir true (b ∷ last)) items dirs
    → Reached (lines ++ [] ∷ []) (state files dir false (b ∷ last)) items dirs
reached_end lines files dir b last items dirs r = record {
  text = ap (λ (ls : List Text). ls ++ [] ∷ []) (r.text ∙ append-nil (body [] items)) ∙ ap (λ (ls : List Text). body [] items ++ ls) (sym r.begun.ends ∙ ap closing (sym r.last_dir));
  last_dir = r.last_dir;
  last_name = tt;
  up = r.up;
  below = r.below;
  clear = r.clear;
  sets = λ w. r.sets w ∙ absorbed (list_any (λ f. has (items_of f) w) files) (has (items_of dir) w) (covered w);
  files = r.files;
  known = r.known;
  dirs_below = r.dirs_below;
  apart = r.apart;
  up_files = r.up_files;
  begun = tt;
}
  where
    covered : (w : Text) → has (items_of dir) w ≡ true → list_any (λ f. has (items_of f) w) files ≡ true
    covered w in_dir =
        any_at (λ f. has (items_of f) w) (path_in dir (b ∷ last)) files r.last_name.0
        (ap (λ (its : List Text). has its w) (items_in dir (b ∷ last) r.begun.stands r.last_name.1) ∙ any_more (is_at (order w)) (items_of dir) (item dir (b ∷ last))
        ∙ ap (λ t. is_at (order w) (item dir (b ∷ last)) || t) in_dir ∙ or_true (is_at (order w) (item dir (b ∷ last))))

-- ---- a name comes

apart_eq : (a b : Text) → order b a ≡ Less → bytes_eq a b ≡ false
apart_eq a b lt = texts_ties a b ∙ ap is_eq (nat_list_cmp_total.antisymm a b ∙ ap ordering_reverse lt)

pub same_eq : (a : Text) → bytes_eq a a ≡ true
same_eq a = texts_ties a a ∙ ap is_eq (tied_itself nat_list_cmp_total a)

turn_is : (last before dir : Text) → IsLastDir true last before dir → turning before dir ≡ behind_body true last before dir
turn_is [] before dir lt = ap (λ t. cond t [] (closing before ++ heading dir ∷ [])) (apart_eq dir before lt)
turn_is (b ∷ last) before dir is = ap (λ (d : Text). turning d dir) is ∙ ap (λ t. cond t [] (closing dir ++ heading dir ∷ [])) (same_eq dir)

under_less : (dir last name it : Text) → IsClear dir → order last name ≡ Less → IsUnder dir last it → order it (item dir name) ≡ Less
under_less dir last name it clear lt u = ap (λ (t : Text). order t (item dir name)) u.is ∙ by u.under
  where
    by : (order u.its_dir dir ≡ Less) ⊎ ((u.its_dir ≡ dir) × ((order u.its_name last ≡ Less) ⊎ (u.its_name ≡ last))) → order (item u.its_dir u.its_name) (item dir name) ≡ Less
    by (inl before) = item_dirs u.its_dir dir u.its_name name u.clear clear before
    by (inr (is, inl before)) = ap (λ (d : Text). order (item d u.its_name) (item dir name)) is ∙ item_names dir u.its_name name ∙ less_trans u.its_name last name before lt
    by (inr (is, inr e)) = ap (λ (d : Text). order (item d u.its_name) (item dir name)) is ∙ item_names dir u.its_name name ∙ ap (λ (n : Text). order n name) e ∙ lt

under_on : (dir last name it : Text) → order last name ≡ Less → IsUnder dir last it → IsUnder dir name it
under_on dir last name it lt u = record { its_dir = u.its_dir; its_name = u.its_name; is = u.is; clear = u.clear; under = by u.under }
  where
    by : (order u.its_dir dir ≡ Less) ⊎ ((u.its_dir ≡ dir) × ((order u.its_name last ≡ Less) ⊎ (u.its_name ≡ last)))
        → (order u.its_dir dir ≡ Less) ⊎ ((u.its_dir ≡ dir) × ((order u.its_name name ≡ Less) ⊎ (u.its_name ≡ name)))
    by (inl before) = inl before
    by (inr (is, inl before)) = inr (is, inl (less_trans u.its_name last name before lt))
    by (inr (is, inr e)) = inr (is, inl (subst (λ (n : Text). order n name ≡ Less) (sym e) lt))

gathered : (i a d : Bool) → (i || (a || d)) ≡ (((i || d) || a) || d)
gathered true a d = refl
gathered false true true = refl
gathered false true false = refl
gathered false false true = refl
gathered false false false = refl

below_name : (dir name : Text) (w : Text) → (order w dir ≡ Less) ⊎ (w ≡ dir) → is_at (order w) (path_in dir name) ≡ false
below_name dir name w (inl lt) = ap is_eq (less_trans w dir (path_in dir name) lt (front_less dir 47 name))
below_name dir name w (inr is) = ap is_eq (ap (λ (d : Text). order d (path_in dir name)) is ∙ front_less dir 47 name)

pub reached_name : (lines files : List Text) (dir last : Text) (c : ℕ) (name : Text) (items dirs : List Text) → Reached lines (state files dir true last) items dirs
    → IsName (c ∷ name) → order last (c ∷ name) ≡ Less → IsPath (path_in dir (c ∷ name))
    → Reached (lines ++ (c ∷ name) ∷ []) (state (insert_key order files (path_in dir (c ∷ name))) dir true (c ∷ name)) (items ++ item dir (c ∷ name) ∷ []) dirs
reached_name lines files dir last c name items dirs r named lt path =
    let n : Text = c ∷ name in
    let it = item dir n in
    let p = path_in dir n in
    let d_is = dir_of-item dir n r.clear in
    record {
      text =
          ap (λ (ls : List Text). ls ++ n ∷ []) (r.text ∙ ap (λ (ls : List Text). body [] items ++ ls) (sym (turn_is last (end_dir [] items) dir r.last_dir)))
          ∙ sym (ap (λ (d : Text). body [] items ++ turning (end_dir [] items) d ++ name_of it ∷ []) d_is ∙ ap (λ (m : Text). body [] items ++ turning (end_dir [] items) dir ++ m ∷ []) (name_of-item dir n r.clear))
          ∙ sym (body_more [] items it) ∙ sym (append-nil (body [] (items ++ it ∷ [])));
      last_dir = end_dir_more [] items it ∙ d_is;
      last_name = (any-insert (is_at (order p)) files p ∙ has_itself p files, named);
      up = up_more items it r.up (all_map items (λ x u. under_less dir last n x r.clear lt u) r.below);
      below = all_more (IsUnder dir n) items it (all_map items (λ x u. under_on dir last n x lt u) r.below) (record { its_dir = dir; its_name = n; is = refl; clear = r.clear; under = inr (refl, inr refl) });
      clear = r.clear;
      sets = λ w.
          any_more (is_at (order w)) items it ∙ ap (λ t. is_at (order w) it || t) (r.sets w)
          ∙ gathered (is_at (order w) it) (list_any (λ f. has (items_of f) w) files) (has (items_of dir) w)
          ∙ ap (λ t. (t || list_any (λ f. has (items_of f) w) files) || has (items_of dir) w) (sym (ap (λ (its : List Text). has its w) (items_in dir n r.begun.stands named) ∙ any_more (is_at (order w)) (items_of dir) it))
          ∙ ap (λ t. t || has (items_of dir) w) (sym (any-insert (λ f. has (items_of f) w) files p));
      files = all-insert (IsFile dirs) files p r.files (record { form = path; child = record { dir = dir; name = n; is = refl; named = named; there = r.begun.there } });
      known = r.known;
      dirs_below = r.dirs_below;
      apart = λ w there.
          any-insert (is_at (order w)) files p ∙ ap (λ t. t || has files w) (below_name dir n w (all_at (λ (d : Text). (order d dir ≡ Less) ⊎ (d ≡ dir)) w dirs r.dirs_below there)) ∙ r.apart w there;
      up_files = up-insert files p r.up_files;
      begun = r.begun;
    }

-- ---- a section begins

closing_is : (before dir : Text) → order before dir ≡ Less → closing dir ≡ [] ∷ []
closing_is [] [] lt = absurd (cc)
closing_is (b ∷ before) [] lt = absurd (cc)
closing_is before (b ∷ dir) lt = refl

under_next : (dir last next it : Text) → order dir next ≡ Less → IsUnder dir last it → IsUnder next [] it
under_next dir last next it lt u = record { its_dir = u.its_dir; its_name = u.its_name; is = u.is; clear = u.clear; under = by u.under }
  where
    by : (order u.its_dir dir ≡ Less) ⊎ ((u.its_dir ≡ dir) × ((order u.its_name last ≡ Less) ⊎ (u.its_name ≡ last)))
        → (order u.its_dir next ≡ Less) ⊎ ((u.its_dir ≡ next) × ((order u.its_name [] ≡ Less) ⊎ (u.its_name ≡ [])))
    by (inl before) = inl (less_trans u.its_dir dir next before lt)
    by (inr both) = inl (subst (λ (d : Text). order d next ≡ Less) (sym both.0) lt)

-- a directory whose section may begin: the folder, or a file so far
pub data IsKnown (dirs files : List Text) (dir : Text) : Type 0 where
  known_folder : dir ≡ folder → has files dir ≡ false → IsKnown dirs files dir
  known_file : has files dir ≡ true → IsKnown dirs files dir

moved : (w : Text) (dirs files : List Text) (dir : Text) → IsKnown dirs files dir
    → list_any (λ f. has (items_of f) w) files ≡ (has (items_of dir) w || list_any (λ f. has (items_of f) w) (remove_key (is_at (order dir)) files))
moved w dirs files dir (known_file there) = any-remove (λ f. has (items_of f) w) dir files there
moved w dirs files dir (known_folder is none) =
    ap (λ (fs : List Text). list_any (λ f. has (items_of f) w) fs) (sym (remove-none dir files none))
    ∙ ap (λ (d : Text). has (items_of d) w || list_any (λ f. has (items_of f) w) (remove_key (is_at (order dir)) files)) (sym is)

or_comm : (a b : Bool) → ((a || b) || false) ≡ (b || a)
or_comm true true = refl
or_comm true false = refl
or_comm false true = refl
or_comm false false = refl

dir_begun : (dir : Text) (dirs files : List Text) → IsClear dir → AllByRecursion (IsFile dirs) files → AllByRecursion (IsDir dirs) dirs → IsKnown dirs files dir → IsDir (dir ∷ dirs) dir
dir_begun dir dirs files clear each each' (known_folder is none) = record { stands = subst Stands (sym is) stands_folder; clear = clear; from = inl is }
dir_begun dir dirs files clear each each' (known_file there) =
    let file = all_at (IsFile dirs) dir files each there in
    let child = file.child in
    let parent = all_at (IsDir dirs) child.dir dirs each' child.there in
    record { stands = subst Stands (sym child.is) (stands_in child.dir child.name parent.stands child.named); clear = clear; from = inr (child_on dir dirs dir child) }

dir_on : (next : Text) (dirs : List Text) (d : Text) → IsDir dirs d → IsDir (next ∷ dirs) d
dir_on next dirs d known = record { stands = known.stands; clear = known.clear; from = by known.from }
  where
    by : (d ≡ folder) ⊎ IsChild dirs d → (d ≡ folder) ⊎ IsChild (next ∷ dirs) d
    by (inl is) = inl is
    by (inr child) = inr (child_on next dirs d child)

still_apart : (w dir : Text) (dirs files : List Text) → Up files → ((v : Text) → has dirs v ≡ true → has files v ≡ false) → (is_at (order w) dir || has dirs w) ≡ true
    → has (remove_key (is_at (order dir)) files) w ≡ false
still_apart w dir dirs files up apart there = by (is_at (order w) dir) refl there
  where
    by : (t : Bool) → is_at (order w) dir ≡ t → (t || has dirs w) ≡ true → has (remove_key (is_at (order dir)) files) w ≡ false
    by true is there = subst (λ (v : Text). has (remove_key (is_at (order dir)) files) v ≡ false) (sym (same_of w dir is)) (none-remove dir files up)
    by false is there = none-remove_any (is_at (order w)) dir files (apart w there)

pub reached_heading : (lines files : List Text) (dir last next : Text) (items dirs : List Text) → Reached lines (state files dir false last) items dirs
    → IsClear next → order dir next ≡ Less → IsKnown dirs files next
    → Reached (lines ++ heading next ∷ []) (state (remove_key (is_at (order next)) files) next true []) items (next ∷ dirs)
reached_heading lines files dir last next items dirs r clear lt known = record {
  text =
      ap (λ (ls : List Text). ls ++ heading next ∷ []) r.text ∙ append_assoc (body [] items) (closing (end_dir [] items)) (heading next ∷ []);
  last_dir = subst (λ (d : Text). order d next ≡ Less) (sym r.last_dir) lt;
  last_name = tt;
  up = r.up;
  below = all_map items (λ x u. under_next dir last next x lt u) r.below;
  clear = clear;
  sets = λ w.
      r.sets w ∙ ap (λ t. t || false) (moved w dirs files next known) ∙ or_comm (has (items_of next) w) (list_any (λ f. has (items_of f) w) (remove_key (is_at (order next)) files));
  files = all-remove (IsFile (next ∷ dirs)) next files (all_map files (λ f file. record { form = file.form; child = child_on next dirs f file.child }) r.files);
  known = (dir_begun next dirs files clear r.files r.known known, all_map dirs (dir_on next dirs) r.known);
  dirs_below = (inr refl, all_map dirs (λ d before. below_next d before) r.dirs_below);
  apart = λ w there. still_apart w next dirs files r.up_files r.apart there;
  up_files = up-remove next files r.up_files;
  begun = record { stands = (dir_begun next dirs files clear r.files r.known known).stands; there = has_itself next dirs; ends = closing_is dir next lt };
}
  where
    below_next : (d : Text) → (order d dir ≡ Less) ⊎ (d ≡ dir) → (order d next ≡ Less) ⊎ (d ≡ next)
    below_next d (inl before) = inl (less_trans d dir next before lt)
    below_next d (inr is) = inl (subst (λ (a : Text). order a next ≡ Less) (sym is) lt)
