-- A text that was read lists the paths that it was read as.
use Rattle.std.proofs.Common.{◌≡◌, ◌≢◌, ◌⊎◌, ◌<◌, ◌≤◌, ◌+◌, ◌-◌, ℕ, suc, zero, Bool, true, false, cond, not, ◌&&◌, ◌||◌, nat_eq, List, [], ◌∷◌, ◌++◌, length, get_or, take, drop, Option, Some, None, Result, Ok, Err, refl, sym, ap, subst, ◌∙◌, inl, inr, append_assoc, arith}
use Rattle.std.specs.Prelude.{MatchResult, IfOk, bytes_eq, nat_le, nat_lt, position}
use Rattle.std.specs.List.{AllByRecursion, list_any, ends_with, onto_first, position_or_len}
use Rattle.std.specs.List.Sorted.{IsStrictlySortedBy}
use Rattle.std.specs.Option.{is_none, option_and_then, option_map}
use Rattle.std.specs.Ordering.{is_lt, nat_cmp}
use Rattle.std.specs.declared.cmp.Ordering.{Ordering}
use Rattle.std.specs.declared.cmp.Ordering.TheVariants.{Less, Equal, Greater}
use Rattle.std.specs.Cmp.Lexicographic.{slice_cmp, pointwise, same_text as bytes_same}
use Rattle.std.specs.BTreeMap.{is_at}
use Rattle.std.proofs.lemmas.Bool.{true≢false, and_parts}
use Rattle.std.proofs.lemmas.Bool.Decides.{nat_tests}
use Rattle.std.proofs.lemmas.List.{append-nil, take-append-drop}
use Rattle.std.proofs.lemmas.List.Sums.{prefix_len_passes}
use Rattle.std.proofs.lemmas.List.Splits.{join_with_byte-slice_split}
use Rattle.std.specs.List.{join_with_byte}
use Rattle.tl_model.specs.Lines.{lines, text_of}
use Rattle.tl_path.specs.Path.{IsPath, path_fault, place_fault, byte_fault, utf8_fault, size_fault, component_fault, earlier, or_else, fault}
use Rattle.tl_path.specs.declared.fault.PathFault.{PathFault}
use Rattle.tl_path.specs.declared.fault.PathKind.TheVariants.{Byte}
use Rattle.tl_path.specs.Bytes.{is_barred}
use Rattle.tl_path.specs.Components.{components, is_below, is_proper_front}
use Rattle.tl_lsr.specs.Items.{folder, item, path_in, items_of, all_items}
use Rattle.tl_lsr.specs.Lists.{list_path, first_line, heading, listing, lsr_lines, lsr_text, AreListable}
use Rattle.tl_lsr.specs.Reading.{Listed, has, nothing, is_path, comes_before, comes_next, may_follow, may_begin, is_left_behind, headed, dir_headed, before_colon, begun, named, with_line, line_taken, lines_taken, or_line, may_end, paths_or_line, lsr_read}
use Rattle.tl_lsr.proofs.SetLemmas.{Text, order, Up, up-items, any-items, same_lists, or_false, or_true, has_itself}
use Rattle.tl_lsr.proofs.ItemLemmas.{IsClear, IsName, components-in}
use Rattle.tl_lsr.proofs.ReachLemmas.{Stands, stands_in, parts_in, IsChild, IsFile, IsDir, IsKnown, known_folder, known_file, Reached, reached_none, reached_end, reached_name, reached_heading, listing_body, all_map, all_at, state}

-- ---- paths

no_fault : (a b : Option PathFault) → or_else a b ≡ None → b ≡ None
no_fault None b is = is
no_fault (Some a) b is = absurd (cc)

no_earlier : (a b : Option PathFault) → earlier a b ≡ None → (a ≡ None) × (b ≡ None)
no_earlier None b is = (refl, is)
no_earlier (Some a) None is = absurd (cc)
no_earlier (Some a) (Some b) is = absurd (cc)

no_byte : (at : Option ℕ) → option_map (fault Byte) at ≡ None → at ≡ None
no_byte None is = refl
no_byte (Some at) is = absurd (cc)

no_position : (n m : ℕ) → cond (nat_lt n m) (Some n) None ≡ None → m ≤ n
no_position n m is = grind (arith, nat_tests)

clear_byte : (b : ℕ) → not (is_barred b) ≡ true → 10 < b
clear_byte b free = grind (arith, nat_tests)

clear_of : (text : Text) → ((k : ℕ) → k < length text → not (is_barred (get_or text k 0)) ≡ true) → IsClear text
clear_of [] free = tt
clear_of (b ∷ text) free = (clear_byte b (free 0 (omega arith)), clear_of text (λ k lt. free (suc k) (omega arith)))

-- no byte of a path is a line end or below it
pub clear_path : (path : Text) → IsPath path → IsClear path
clear_path path is =
    let place : place_fault path ≡ None = (no_earlier (utf8_fault path) (place_fault path) (no_fault (size_fault path) (earlier (utf8_fault path) (place_fault path)) is)).1 in
    let byte : byte_fault path ≡ None = (no_earlier (byte_fault path) (component_fault path) place).0 in
    let behind : length path ≤ position_or_len is_barred path = no_position _ _ (no_byte (position is_barred path) byte) in
    clear_of path (λ k lt. prefix_len_passes (λ b. not (is_barred b)) path k 0 (omega arith))

none_is : (o : Option PathFault) → is_none o ≡ true → o ≡ None
none_is None is = refl
none_is (Some x) is = absurd (cc)

pub path_is : (text : Text) → is_path text ≡ true → IsPath text
path_is text is = none_is (path_fault text) is

pub less_of : (o : Ordering) → is_lt o ≡ true → o ≡ Less
less_of Less is = refl
less_of Equal is = absurd (cc)
less_of Greater is = absurd (cc)

name_of_any : (name : Text) → not (list_any (λ b. nat_eq b 47) name) ≡ true → IsName name
name_of_any [] none = tt
name_of_any (b ∷ name) none = by (nat_eq b 47) none (name_of_any name)
  where
    by : (t : Bool) → not (t || list_any (λ b. nat_eq b 47) name) ≡ true → (not (list_any (λ b. nat_eq b 47) name) ≡ true → IsName name) → (t ≡ false) × IsName name
    by true none more = absurd (cc)
    by false none more = (refl, more none)

-- ---- headings

some_of : (t : Bool) (x next : Text) → cond t (Some x) None ≡ Some next → (t ≡ true) × (x ≡ next)
some_of true x next is = (refl, cc)
some_of false x next is = absurd (cc)

some_if : (t : Bool) (o : Option Text) (next : Text) → cond t o None ≡ Some next → (t ≡ true) × (o ≡ Some next)
some_if true o next is = (refl, is)
some_if false o next is = absurd (cc)

headed_parts : (line rest : Text) → headed line ≡ Some rest → line ≡ 46 ∷ 47 ∷ (rest ++ 58 ∷ [])
headed_parts line rest is =
    let first = some_if (bytes_eq (take 2 line) (46 ∷ 47 ∷ [])) (before_colon (drop 2 line)) rest is in
    let text = drop 2 line in
    let last = some_of (bytes_eq (drop (length text - 1) text) (58 ∷ [])) (take (length text - 1) text) rest first.1 in
    let front : take 2 line ≡ 46 ∷ 47 ∷ [] = bytes_same (take 2 line) (46 ∷ 47 ∷ []) (sym first.0) in
    let end : drop (length text - 1) text ≡ 58 ∷ [] = bytes_same (drop (length text - 1) text) (58 ∷ []) (sym last.0) in
    sym (take-append-drop 2 line) ∙ ap (λ (t : Text). t ++ text) front
    ∙ ap (λ (t : Text). 46 ∷ 47 ∷ t) (sym (take-append-drop (length text - 1) text) ∙ ap (λ (t : Text). t ++ drop (length text - 1) text) last.1 ∙ ap (λ (t : Text). rest ++ t) end)

heading_headed : (rest : Text) → heading (dir_headed rest) ≡ 46 ∷ 47 ∷ (rest ++ 58 ∷ [])
heading_headed [] = refl
heading_headed (b ∷ rest) = refl

-- ---- one line more

pub record Also (lines : List Text) (listed : Listed) : Type 0 where
  pub items : List Text
  pub dirs : List Text
  pub reached : Reached lines listed items dirs

listed_of : (t : Bool) (x next : Listed) → cond t (Some x) None ≡ Some next → (t ≡ true) × (x ≡ next)
listed_of true x next is = (refl, cc)
listed_of false x next is = absurd (cc)

listed_from : (t : Bool) (x next : Listed) → cond t None (Some x) ≡ Some next → (t ≡ false) × (x ≡ next)
listed_from true x next is = absurd (cc)
listed_from false x next is = (refl, cc)

then_of : (o : Option Text) (f : Text → Option Listed) (next : Listed) → option_and_then f o ≡ Some next → (rest : Text) × (o ≡ Some rest) × (f rest ≡ Some next)
then_of None f next is = absurd (cc)
then_of (Some rest) f next is = (rest, refl, is)

also : (ls : List Text) (x next : Listed) (items dirs : List Text) → Reached ls x items dirs → x ≡ next → Also ls next
also ls x next items dirs r is = subst (λ (l : Listed). Also ls l) is (record { items = items; dirs = dirs; reached = r })

pub known_of : (dirs files : List Text) (dir : Text) → (bytes_eq dir folder || has files dir) ≡ true → IsKnown dirs files dir
known_of dirs files dir is = by (has files dir) refl (bytes_eq dir folder) refl is
  where
    by : (t : Bool) → has files dir ≡ t → (s : Bool) → bytes_eq dir folder ≡ s → (s || t) ≡ true → IsKnown dirs files dir
    by true there s e is = known_file there
    by false none true e is = known_folder (bytes_same dir folder (sym e)) none
    by false none false e is = absurd (cc)

reached_line : (ls files : List Text) (dir : Text) (is_open : Bool) (last line : Text) (next : Listed) (items dirs : List Text) → Reached ls (state files dir is_open last) items dirs
    → with_line (state files dir is_open last) line ≡ Some next → Also (ls ++ line ∷ []) next
reached_line ls files dir true [] [] next items dirs r is = absurd (cc)
reached_line ls files dir true (b ∷ last) [] next items dirs r is = also _ _ next items dirs (reached_end ls files dir b last items dirs r) (listed_from (bytes_eq (b ∷ last) []) _ next is).1
reached_line ls files dir true last (c ∷ name) next items dirs r is =
    let now = state files dir true last in
    let taken = listed_of (may_follow now (c ∷ name)) _ next is in
    let parts = and_parts (comes_next now (c ∷ name)) (is_path (path_in dir (c ∷ name))) taken.0 in
    let both = and_parts (not (list_any (λ b. nat_eq b 47) (c ∷ name))) (comes_before last (c ∷ name)) parts.0 in
    also _ _ next (items ++ item dir (c ∷ name) ∷ []) dirs
    (reached_name ls files dir last c name items dirs r (name_of_any (c ∷ name) both.0) (less_of (order last (c ∷ name)) both.1) (path_is (path_in dir (c ∷ name)) parts.1)) taken.1
reached_line ls files dir false last line next items dirs r is =
    let now = state files dir false last in
    let found = then_of (headed line) (λ rest. begun now (dir_headed rest)) next is in
    let to = dir_headed found.0 in
    let taken = listed_of (may_begin now to) _ next found.2 in
    let parts = and_parts (is_path to) (is_path (path_in to (120 ∷ [])) && (comes_before dir to && ((bytes_eq to folder || has files to) && not (is_left_behind files to)))) taken.0 in
    let more = and_parts (is_path (path_in to (120 ∷ []))) (comes_before dir to && ((bytes_eq to folder || has files to) && not (is_left_behind files to))) parts.1 in
    let rest = and_parts (comes_before dir to) ((bytes_eq to folder || has files to) && not (is_left_behind files to)) more.1 in
    let known = and_parts (bytes_eq to folder || has files to) (not (is_left_behind files to)) rest.1 in
    subst (λ (l : Text). Also (ls ++ l ∷ []) next) (heading_headed found.0 ∙ sym (headed_parts line found.0 found.1))
    (also _ _ next items (to ∷ dirs)
    (reached_heading ls files dir last to items dirs r (clear_path to (path_is to parts.0)) (less_of (order dir to) rest.0) (known_of dirs files to known.0)) taken.1)

pub line_taken_later : (before : ℕ) (listed : Listed) (line : Text) → 2 ≤ before → line_taken before listed line ≡ with_line listed line
line_taken_later before listed line late =
    let none : nat_eq before 0 ≡ false = grind (arith, nat_tests) in
    let one : nat_eq before 1 ≡ false = grind (arith, nat_tests) in
    rw none (rw one refl)

ok_of : (a b : Listed) (taken : Result Listed ℕ) → taken ≡ Ok a → taken ≡ Ok b → a ≡ b
ok_of a b taken is also_is = cc

or_line_of : (before : ℕ) (go : Listed → Result Listed ℕ) (o : Option Listed) (next : Listed) → or_line before go o ≡ Ok next → (listed : Listed) × (o ≡ Some listed) × (go listed ≡ Ok next)
or_line_of before go None next is = absurd (cc)
or_line_of before go (Some listed) next is = (listed, refl, is)

reached_lines : (before : ℕ) (rest ls : List Text) (listed next : Listed) (items dirs : List Text) → 2 ≤ before → Reached ls listed items dirs → lines_taken before listed rest ≡ Ok next → Also (ls ++ rest) next
unfolding lines_taken
reached_lines before [] ls listed next items dirs late r is =
    subst (λ (l : List Text). Also l next) (sym (append-nil ls)) (also ls listed next items dirs r (ok_of listed next (Ok listed) refl is))
reached_lines before (line ∷ rest) ls listed next items dirs late r is =
    let found = or_line_of before (λ l. lines_taken (before + 1) l rest) (line_taken before listed line) next is in
    let more = reached_line ls listed.files listed.dir listed.is_open listed.last line found.0 items dirs r (sym (line_taken_later before listed line late) ∙ found.1) in
    subst (λ (l : List Text). Also l next) (append_assoc ls (line ∷ []) rest)
    (reached_lines (before + 1) rest (ls ++ line ∷ []) found.0 next more.items more.dirs (omega (arith, late)) more.reached found.2)

-- ---- the paths of a text that may end

front_more : (cs ds : List Text) (d : Text) → is_proper_front cs (ds ++ d ∷ []) ≡ true → (cs ≡ ds) ⊎ (is_proper_front cs ds ≡ true)
front_more [] [] d is = inl refl
front_more [] (e ∷ ds) d is = inr refl
front_more (c ∷ []) [] d is = absurd (true≢false (sym (and_parts (bytes_eq c d) false is).1))
front_more (c ∷ e ∷ cs) [] d is = absurd (true≢false (sym (and_parts (bytes_eq c d) false is).1))
front_more (c ∷ cs) (e ∷ ds) d is =
    let both = and_parts (bytes_eq c e) (is_proper_front cs (ds ++ d ∷ [])) is in
    let same = bytes_same c e (sym both.0) in
    by same both.0 (front_more cs ds d both.1)
  where
    by : c ≡ e → bytes_eq c e ≡ true → (cs ≡ ds) ⊎ (is_proper_front cs ds ≡ true) → (c ∷ cs ≡ e ∷ ds) ⊎ ((bytes_eq c e && is_proper_front cs ds) ≡ true)
    by same eq (inl is) = inl (ap (λ (x : Text). x ∷ cs) same ∙ ap (λ (l : List Text). e ∷ l) is)
    by same eq (inr front) = inr (ap (λ t. t && is_proper_front cs ds) eq ∙ front)

same_path : (a b : Text) → components a ≡ components b → a ≡ b
same_path a b is = sym (join_with_byte-slice_split 47 a) ∙ ap (join_with_byte 47) is ∙ join_with_byte-slice_split 47 b

-- what a name in a directory is below, is that directory or one above it
dir_above : (dir name path : Text) → IsName name → is_below (path_in dir name) path ≡ true → (path ≡ dir) ⊎ (is_below dir path ≡ true)
dir_above dir name path named is =
    by (front_more (components path) (components dir) name (ap (is_proper_front (components path)) (sym (components-in dir name named)) ∙ is))
  where
    by : (components path ≡ components dir) ⊎ (is_proper_front (components path) (components dir) ≡ true) → (path ≡ dir) ⊎ (is_below dir path ≡ true)
    by (inl same) = inl (same_path path dir same)
    by (inr front) = inr front

none_above : (path : Text) → Stands path → is_below folder path ≡ true → ⊥
none_above path stands is = true≢false (sym is ∙ ap (λ (cs : List Text). is_proper_front cs (components folder)) stands.parts ∙ by stands.names)
  where
    by : (names : List Text) → is_proper_front (folder ∷ names) (components folder) ≡ false
    by [] = refl
    by (n ∷ names) = refl

pub shorter : (dir name : Text) → length dir < length (path_in dir name)
shorter [] name = omega arith
shorter (b ∷ dir) name = omega (arith, shorter dir name)

-- what a name in a directory that was begun is below was begun too
from_child : (dirs : List Text) (path dir : Text) → IsChild dirs dir → is_below dir path ≡ true → ((d : Text) → length d < length dir → has dirs d ≡ true → is_below d path ≡ true → has dirs path ≡ true)
    → has dirs path ≡ true
from_child dirs path dir child is more = by (dir_above child.dir child.name path child.named (subst (λ (d : Text). is_below d path ≡ true) child.is is))
  where
    by : (path ≡ child.dir) ⊎ (is_below child.dir path ≡ true) → has dirs path ≡ true
    by (inl same) = subst (λ (d : Text). has dirs d ≡ true) (sym same) child.there
    by (inr front) = more child.dir (omega (arith, shorter child.dir child.name, ap length child.is)) child.there front

from_dir : (dirs : List Text) (path dir : Text) → Stands path → IsDir dirs dir → is_below dir path ≡ true → ((d : Text) → length d < length dir → has dirs d ≡ true → is_below d path ≡ true → has dirs path ≡ true)
    → has dirs path ≡ true
from_dir dirs path dir stands known is more = by known.from
  where
    by : (dir ≡ folder) ⊎ IsChild dirs dir → has dirs path ≡ true
    by (inl top) = absurd (none_above path stands (subst (λ (d : Text). is_below d path ≡ true) top is))
    by (inr child) = from_child dirs path dir child is more

begun_above : (n : ℕ) (dirs : List Text) (path : Text) → AllByRecursion (IsDir dirs) dirs → Stands path → (dir : Text) → length dir ≤ n → has dirs dir ≡ true → is_below dir path ≡ true → has dirs path ≡ true
begun_above zero dirs path each stands dir short there is =
    from_dir dirs path dir stands (all_at (IsDir dirs) dir dirs each there) is (λ d lt there' is'. absurd (omega arith))
begun_above (suc n) dirs path each stands dir short there is =
    from_dir dirs path dir stands (all_at (IsDir dirs) dir dirs each there) is (λ d lt there' is'. begun_above n dirs path each stands d (omega arith) there' is')

pub file_stands : (dirs : List Text) (path : Text) → AllByRecursion (IsDir dirs) dirs → IsChild dirs path → Stands path
file_stands dirs path each child = subst Stands (sym child.is) (stands_in child.dir child.name (all_at (IsDir dirs) child.dir dirs each child.there).stands child.named)

none_below_file : (ls : List Text) (listed : Listed) (items dirs : List Text) → Reached ls listed items dirs → (a b : Text) → has listed.files a ≡ true → has listed.files b ≡ true → is_below a b ≡ false
none_below_file ls listed items dirs r a b there there' = by (is_below a b) refl
  where
    by : (t : Bool) → is_below a b ≡ t → t ≡ false
    by true is =
        let file = all_at (IsFile dirs) a listed.files r.files there in
        let other = all_at (IsFile dirs) b listed.files r.files there' in
        let stands = file_stands dirs b r.known other.child in
        absurd (true≢false (sym there' ∙ r.apart b (from_child dirs b a file.child is (λ d lt known is'. begun_above (length d) dirs b r.known stands d (omega arith) known is'))))
    by false is = refl

pub all_each : (P : Text → Type 0) (xs : List Text) → ((x : Text) → has xs x ≡ true → P x) → AllByRecursion P xs
all_each P [] f = tt
all_each P (x ∷ xs) f = (f x (has_itself x xs), all_each P xs (λ y there. f y (ap (λ b. is_at (order y) x || b) there ∙ or_true (is_at (order y) x))))

inside_folder : (dirs : List Text) (path : Text) → AllByRecursion (IsDir dirs) dirs → IsChild dirs path → is_below path folder ≡ true
inside_folder dirs path each child =
    let parent = (all_at (IsDir dirs) child.dir dirs each child.there).stands in
    ap (λ (p : Text). is_below p folder) child.is ∙ ap (is_proper_front (components folder)) (parts_in child.dir child.name parent child.named) ∙ by parent.names
  where
    by : (names : List Text) → is_proper_front (components folder) (folder ∷ (names ++ child.name ∷ [])) ≡ true
    by [] = refl
    by (n ∷ names) = refl

sorted_of : (xs : List Text) → Up xs → IsStrictlySortedBy (slice_cmp nat_cmp) xs
unfolding IsStrictlySortedBy
sorted_of [] up = tt
sorted_of (x ∷ xs) up = (up.0, sorted_of xs up.1)

pub listable : (ls : List Text) (listed : Listed) (items dirs : List Text) → Reached ls listed items dirs → has listed.files list_path ≡ false → AreListable listed.files
listable ls listed items dirs r none = record {
  form = all_map listed.files (λ f file. file.form) r.files;
  inside = all_map listed.files (λ f file. inside_folder dirs f r.known file.child) r.files;
  others = all_each (λ f. f ≢ list_path) listed.files (λ f there is. true≢false (sym (subst (λ (p : Text). has listed.files p ≡ true) is there) ∙ none));
  rising = sorted_of listed.files r.up_files;
  apart = all_each (λ a. AllByRecursion (λ b. is_below a b ≡ false) listed.files) listed.files
      (λ a there. all_each (λ b. is_below a b ≡ false) listed.files (λ b there'. none_below_file ls listed items dirs r a b there there'));
}

-- the items so far are those of the files
pub items_are : (ls files : List Text) (dir last : Text) (items dirs : List Text) → Reached ls (state files dir false last) items dirs → items ≡ all_items files
items_are ls files dir last items dirs r =
    same_lists items (all_items files) r.up (up-items files) (λ w. r.sets w ∙ or_false (list_any (λ f. has (items_of f) w) files) ∙ sym (any-items (is_at (order w)) files))

lines_are : (ls files : List Text) (dir last : Text) (items dirs : List Text) → Reached ls (state files dir false last) items dirs → ls ≡ listing [] (all_items files)
lines_are ls files dir last items dirs r = r.text ∙ sym (listing_body [] items) ∙ ap (listing []) (items_are ls files dir last items dirs r)

not_true : (b : Bool) → not b ≡ true → b ≡ false
not_true true is = absurd (cc)
not_true false is = refl

ended_lines : (ls files : List Text) (dir : Text) (is_open : Bool) (last : Text) → Also ls (state files dir is_open last) → may_end (state files dir is_open last) ≡ true
    → (ls ≡ listing [] (all_items files)) × AreListable files
ended_lines ls files dir true last more may = absurd (cc)
ended_lines ls files dir false last more may =
    (lines_are ls files dir last more.items more.dirs more.reached, listable ls (state files dir false last) more.items more.dirs more.reached (not_true (has files list_path) may))

-- ---- the whole text

-- the lines of a text whose last one has its end are the text
full : (line : Text) (others : List Text) (b : ℕ) → text_of (onto_first b (line ∷ others)) ≡ b ∷ text_of (line ∷ others)
full line others b = refl

some_lines : (c : ℕ) (text : Text) → (first : Text) × ((others : List Text) × (lines (c ∷ text) ≡ first ∷ others))
some_lines c text = by (nat_eq c 10) (lines text)
  where
    by : (t : Bool) (ls : List Text) → (first : Text) × ((others : List Text) × (cond t ([] ∷ ls) (onto_first c ls) ≡ first ∷ others))
    by true ls = ([], (ls, refl))
    by false [] = (c ∷ [], ([], refl))
    by false (l ∷ ls) = (c ∷ l, (ls, refl))

drop_last : (b c : ℕ) (text : Text) → drop (length (b ∷ c ∷ text) - 1) (b ∷ c ∷ text) ≡ drop (length (c ∷ text) - 1) (c ∷ text)
drop_last b c text =
    let e : length (b ∷ c ∷ text) - 1 ≡ suc (length (c ∷ text) - 1) = omega arith in
    ap (λ (n : ℕ). drop n (b ∷ c ∷ text)) e

text_of_lines : (text : Text) → ends_with nat_eq text (10 ∷ []) ≡ true → text_of (lines text) ≡ text
text_of_lines [] ends = absurd (cc)
text_of_lines (b ∷ []) ends = by (nat_eq b 10) refl (and_parts (nat_eq 10 b) true ends).0
  where
    by : (t : Bool) → nat_eq b 10 ≡ t → nat_eq 10 b ≡ true → text_of (cond t ([] ∷ []) (onto_first b [])) ≡ b ∷ []
    by true is e = let same : 10 ≡ b = grind (arith, nat_tests) in ap (λ (n : ℕ). n ∷ []) same
    by false is e = let no : ⊥ = grind (arith, nat_tests) in absurd no
text_of_lines (b ∷ c ∷ text) ends =
    by (nat_eq b 10) refl (text_of_lines (c ∷ text) (ap (pointwise nat_eq (10 ∷ [])) (sym (drop_last b c text)) ∙ ends)) (some_lines c text)
  where
    by : (t : Bool) → nat_eq b 10 ≡ t → text_of (lines (c ∷ text)) ≡ c ∷ text → (first : Text) × ((others : List Text) × (lines (c ∷ text) ≡ first ∷ others))
        → text_of (cond t ([] ∷ lines (c ∷ text)) (onto_first b (lines (c ∷ text)))) ≡ b ∷ c ∷ text
    by true is more some = let same : 10 ≡ b = grind (arith, nat_tests) in ap (λ (n : ℕ). n ∷ text_of (lines (c ∷ text))) same ∙ ap (λ (t : Text). b ∷ t) more
    by false is more some = ap (λ (ls : List Text). text_of (onto_first b ls)) some.1.1 ∙ ap (λ (ls : List Text). b ∷ text_of ls) (sym some.1.1) ∙ ap (λ (t : Text). b ∷ t) more

-- what a text was read as
record Whole (text : Text) (paths : List Text) : Type 0 where
  pub listed : Listed
  pub taken : lines_taken 0 nothing (lines text) ≡ Ok listed
  pub ends : ends_with nat_eq text (10 ∷ []) ≡ true
  pub many : nat_le 2 (length (lines text)) ≡ true
  pub may : may_end listed ≡ true
  pub are : listed.files ≡ paths

paths_of : (a b : List Text) (given : Result (List Text) ℕ) → given ≡ Ok a → given ≡ Ok b → a ≡ b
paths_of a b given is also_is = cc

abbrev IsTaken : Result Listed ℕ → Listed → Type 0
IsTaken taken listed = taken ≡ Ok listed

read_of : (w : Bool) (count : ℕ) (taken : Result Listed ℕ) (paths : List Text) → paths_or_line w count taken ≡ Ok paths
    → (listed : Listed) × (taken ≡ Ok listed) × ((w && (nat_le 2 count && may_end listed)) ≡ true) × (listed.files ≡ paths)
read_of w count (Err before) paths is = absurd (cc)
read_of w count (Ok listed) paths is = by (w && (nat_le 2 count && may_end listed)) refl is
  where
    by : (t : Bool) → (w && (nat_le 2 count && may_end listed)) ≡ t → cond t (Ok listed.files) (Err (count + 1)) ≡ Ok paths
        → (l : Listed) × IsTaken (Ok listed) l × ((w && (nat_le 2 count && may_end l)) ≡ true) × (l.files ≡ paths)
    by true e is = (listed, refl, e, paths_of listed.files paths (Ok listed.files) refl is)
    by false e is = absurd (cc)

whole : (text : Text) (paths : List Text) → lsr_read text ≡ Ok paths → Whole text paths
whole text paths is =
    let found = read_of (ends_with nat_eq text (10 ∷ [])) (length (lines text)) (lines_taken 0 nothing (lines text)) paths is in
    let parts = and_parts (ends_with nat_eq text (10 ∷ [])) (nat_le 2 (length (lines text)) && may_end found.0) found.2 in
    let more = and_parts (nat_le 2 (length (lines text))) (may_end found.0) parts.1 in
    record { listed = found.0; taken = found.1; ends = parts.0; many = more.0; may = more.1; are = found.3 }

-- the lines behind the first two
behind_two : (ls : List Text) (next : Listed) → nat_le 2 (length ls) ≡ true → lines_taken 0 nothing ls ≡ Ok next
    → (rest : List Text) × (ls ≡ first_line ∷ [] ∷ rest) × (lines_taken 2 nothing rest ≡ Ok next)
unfolding lines_taken
behind_two [] next many is = absurd (cc)
behind_two (a ∷ []) next many is = absurd (cc)
behind_two (a ∷ b ∷ rest) next many is =
    let first = or_line_of 0 (λ l. or_line 1 (λ l. lines_taken 2 l rest) (line_taken 1 l b)) (line_taken 0 nothing a) next is in
    let one = listed_of (bytes_eq a first_line) nothing first.0 first.1 in
    let second = or_line_of 1 (λ l. lines_taken 2 l rest) (line_taken 1 first.0 b) next first.2 in
    let two = listed_of (bytes_eq b []) first.0 second.0 second.1 in (
      rest,
      ap (λ (l : Text). l ∷ b ∷ rest) (bytes_same a first_line (sym one.0)) ∙ ap (λ (l : Text). first_line ∷ l ∷ rest) (bytes_same b [] (sym two.0)),
      ap (λ (l : Listed). lines_taken 2 l rest) (one.1 ∙ two.1) ∙ second.2,
    )

-- a text that was read is the one that lists the paths, and these can be listed
pub read_lists : (text : Text) (paths : List Text) → lsr_read text ≡ Ok paths → (text ≡ lsr_text paths) × AreListable paths
unfolding lsr_text
read_lists text paths is =
    let w = whole text paths is in
    let found = behind_two (lines text) w.listed w.many w.taken in
    let also_ = reached_lines 2 found.0 [] nothing w.listed [] [] (omega arith) reached_none found.2 in
    let end = ended_lines found.0 w.listed.files w.listed.dir w.listed.is_open w.listed.last also_ w.may in (
      sym (text_of_lines text w.ends) ∙ ap text_of found.1 ∙ ap (λ (ls : List Text). text_of (first_line ∷ [] ∷ ls)) end.0 ∙ ap (λ (ps : List Text). text_of (lsr_lines ps)) w.are,
      subst AreListable w.are end.1,
    )

-- the same of what a call answers
pub read_answers : {E : Type 0} (text : Text) (answer : Result (List Text) E) (P : E → Type 0) → MatchResult answer (λ paths. lsr_read text ≡ Ok paths) P
    → IfOk answer (λ paths. (text ≡ lsr_text paths) × AreListable paths)
read_answers text (Ok paths) P is = read_lists text paths is
read_answers text (Err e) P is = tt
