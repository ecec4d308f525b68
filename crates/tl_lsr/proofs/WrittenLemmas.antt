-- The text of paths that can be listed reads as these paths.
use Rattle.std.proofs.Common.{◌≡◌, ◌-◌, ℕ, suc, zero, Bool, true, false, cond, not, ◌&&◌, ◌||◌, nat_eq, List, [], ◌∷◌, ◌++◌, length, drop, Result, Ok, Err, refl, sym, ap, subst, ◌∙◌, append_assoc, arith}
use Rattle.std.specs.Prelude.{bytes_eq, nat_le, MatchResult}
use Rattle.std.specs.List.{AllByRecursion, list_all, ends_with, join_with_byte}
use Rattle.std.specs.List.Sorted.{IsStrictlySortedBy}
use Rattle.std.specs.Ordering.{nat_cmp}
use Rattle.std.specs.Cmp.Lexicographic.{slice_cmp, pointwise}
use Rattle.std.specs.BTreeMap.{is_at}
use Rattle.std.proofs.lemmas.Bool.{true≢false, and_parts, le-leb}
use Rattle.std.proofs.lemmas.Bool.Decides.{nat_tests}
use Rattle.std.proofs.lemmas.List.{length-append, append-nil}
use Rattle.std.proofs.lemmas.List.Elements.{All-nil, All-cons}
use Rattle.std.proofs.lemmas.List.Splits.{join_with_byte-slice_split}
use Rattle.tl_model.specs.Lines.{lines, text_of, IsLine, lines-text_of}
use Rattle.tl_path.specs.Path.{IsPath}
use Rattle.tl_path.specs.Components.{components, is_below, is_proper_front}
use Rattle.tl_lsr.specs.Items.{folder, item, path_in, items_of, items_below, all_items}
use Rattle.tl_lsr.specs.Lists.{list_path, first_line, heading, closing, turning, listing, lsr_lines, lsr_text, AreListable}
use Rattle.tl_lsr.specs.Reading.{has, nothing, lines_taken, may_end, paths_or_line, lsr_read}
use Rattle.tl_lsr.specs.Errors.{IsLsrErrorOf, IsNoLine}
use Rattle.tl_lsr.specs.declared.error.LsrError.{LsrError}
use Rattle.tl_lsr.specs.declared.error.LsrError.TheVariants.{TooLarge, BadLsr, NoMemory}
use Rattle.tl_lsr.proofs.SetLemmas.{Text, order, Up, same_lists, same_of, any-items, or_true, has_itself}
use Rattle.tl_lsr.proofs.ItemLemmas.{IsClear, IsName, components-in, joined}
use Rattle.tl_lsr.proofs.TakeLemmas.{taken_on, read_whole}
use Rattle.tl_lsr.proofs.ReachLemmas.{all_at, any_at, state, same_eq}
use Rattle.tl_lsr.proofs.AcceptLemmas.{clear_path, items_are, listable}
use Rattle.tl_lsr.proofs.EntryLemmas.{Entry, Under, itself, above, all_entries, any_gives, path_parts, names_of_components, join_joined}
use Rattle.tl_lsr.proofs.TakenLemmas.{Done, all_taken, not_pending, listing_next, same_item, clear_in}

-- ---- each line is one

line_of_clear : (text : Text) → IsClear text → IsLine text
line_of_clear [] clear = All-nil (λ b. nat_eq b 10 ≡ false)
line_of_clear (b ∷ text) clear =
    let other : nat_eq b 10 ≡ false = grind (arith, nat_tests, clear.0) in
    All-cons (λ b. nat_eq b 10 ≡ false) b text other (line_of_clear text clear.1)

clear_drop : (n : ℕ) (text : Text) → IsClear text → IsClear (drop n text)
clear_drop zero text clear = clear
clear_drop (suc n) [] clear = tt
clear_drop (suc n) (b ∷ text) clear = clear_drop n text clear.1

clear_append : (a b : Text) → IsClear a → IsClear b → IsClear (a ++ b)
clear_append [] b clear more = more
clear_append (x ∷ a) b clear more = (clear.0, clear_append a b clear.1 more)

clear_behind : (a b : Text) → IsClear (a ++ b) → IsClear b
clear_behind [] b clear = clear
clear_behind (x ∷ a) b clear = clear_behind a b clear.1

all_append : (P : Text → Type 0) (xs ys : List Text) → AllByRecursion P xs → AllByRecursion P ys → AllByRecursion P (xs ++ ys)
all_append P [] ys each more = more
all_append P (x ∷ xs) ys each more = (each.0, all_append P xs ys each.1 more)

line_heading : (dir : Text) → IsClear dir → IsLine (heading dir)
line_heading dir clear = line_of_clear (heading dir) (omega arith, (omega arith, clear_append (drop 11 dir) (58 ∷ []) (clear_drop 11 dir clear) (omega arith, tt)))

line_none : IsLine []
line_none = All-nil (λ b. nat_eq b 10 ≡ false)

lines_closing : (dir : Text) → AllByRecursion IsLine (closing dir)
lines_closing [] = tt
lines_closing (b ∷ dir) = (line_none, tt)

lines_turning : (dir next : Text) → IsClear next → AllByRecursion IsLine (turning dir next)
lines_turning dir next clear = by (bytes_eq next dir)
  where
    by : (t : Bool) → AllByRecursion IsLine (cond t [] (closing dir ++ heading next ∷ []))
    by true = tt
    by false = all_append IsLine (closing dir) (heading next ∷ []) (lines_closing dir) (line_heading next clear, tt)

line_tested : (text : Text) → list_all (λ b. not (nat_eq b 10)) text ≡ true → IsLine text
line_tested [] is = line_none
line_tested (b ∷ text) is =
    let parts = and_parts (not (nat_eq b 10)) (list_all (λ b. not (nat_eq b 10)) text) is in
    All-cons (λ b. nat_eq b 10 ≡ false) b text (from_not (nat_eq b 10) parts.0) (line_tested text parts.1)
  where
    from_not : (t : Bool) → not t ≡ true → t ≡ false
    from_not true is = absurd (cc)
    from_not false is = refl

line_first : IsLine first_line
line_first = line_tested first_line refl

module _ (paths : List Text) (can : AreListable paths) where
  lines_listing : (dir : Text) (items : List Text) → AllByRecursion (Entry paths) items → AllByRecursion IsLine (listing dir items)
  lines_listing dir [] each = lines_closing dir
  lines_listing dir (it ∷ items) each =
      let e = each.0 in
      let clear = clear_path (path_in e.dir e.name) e.form in
      subst (λ (ls : List Text). AllByRecursion IsLine ls) (sym (listing_next paths can dir it items e))
      (all_append IsLine (turning dir e.dir) (e.name ∷ listing e.dir items) (lines_turning dir e.dir (clear_in e.dir e.name e.form))
      (line_of_clear e.name (clear_behind e.dir (47 ∷ e.name) clear).1, lines_listing e.dir items each.1))

  lines_are : lines (lsr_text paths) ≡ lsr_lines paths
  unfolding lsr_text
  lines_are = lines-text_of (lsr_lines paths) (line_first, (line_none, lines_listing [] (all_items paths) (all_entries paths can)))

  -- no file is the list itself
  none_pending : (d : Done 2 nothing (listing [] (all_items paths)) (all_items paths)) → has d.files list_path ≡ false
  none_pending d = by (has d.files list_path) refl
    where
      by : (t : Bool) → has d.files list_path ≡ t → t ≡ false
      by true there = absurd (not_pending paths can d.lines d.files d.dir d.last (all_items paths) d.dirs d.reached there (λ w here. here) (λ next here. here))
      by false there = refl

-- ---- the text ends with a line end

ends_so : (line : Text) (others : List Text) → (front : Text) × (text_of (line ∷ others) ≡ front ++ 10 ∷ [])
ends_so line [] = (line, refl)
ends_so line (next ∷ others) = by (ends_so next others)
  where
    by : (front : Text) × (text_of (next ∷ others) ≡ front ++ 10 ∷ []) → (front : Text) × (text_of (line ∷ next ∷ others) ≡ front ++ 10 ∷ [])
    by (front, is) = (line ++ 10 ∷ front, ap (λ (t : Text). line ++ 10 ∷ t) is ∙ sym (append_assoc line (10 ∷ front) (10 ∷ [])))

drop_front : (a b : Text) → drop (length a) (a ++ b) ≡ b
drop_front [] b = refl
drop_front (x ∷ a) b = drop_front a b

ends_with_end : (front : Text) → ends_with nat_eq (front ++ 10 ∷ []) (10 ∷ []) ≡ true
ends_with_end front =
    let n : length (front ++ 10 ∷ []) - 1 ≡ length front = omega (arith, length-append front (10 ∷ [])) in
    ap (λ (k : ℕ). pointwise nat_eq (10 ∷ []) (drop k (front ++ 10 ∷ []))) n ∙ ap (pointwise nat_eq (10 ∷ [])) (drop_front front (10 ∷ []))

text_ends : (paths : List Text) → ends_with nat_eq (lsr_text paths) (10 ∷ []) ≡ true
unfolding lsr_text
text_ends paths = let so = ends_so first_line ([] ∷ listing [] (all_items paths)) in ap (λ (t : Text). ends_with nat_eq t (10 ∷ [])) so.1 ∙ ends_with_end so.0

-- ---- the files are the paths

front_of_more : (cs : List Text) (d : Text) (ds : List Text) → is_proper_front cs (cs ++ d ∷ ds) ≡ true
front_of_more [] d ds = refl
front_of_more (c ∷ cs) d ds = ap (λ t. t && is_proper_front cs (cs ++ d ∷ ds)) (same_eq c) ∙ front_of_more cs d ds

components_joined : (names : List Text) (dir : Text) → AllByRecursion IsName names → components (joined dir names) ≡ components dir ++ names
components_joined [] dir each = sym (append-nil (components dir))
components_joined (name ∷ names) dir each =
    components_joined names (path_in dir name) each.1 ∙ ap (λ (cs : List Text). cs ++ names) (components-in dir name each.0) ∙ append_assoc (components dir) (name ∷ []) names

clear_joined : (names : List Text) (dir : Text) → IsClear (joined dir names) → IsClear dir
clear_joined [] dir clear = clear
clear_joined (name ∷ names) dir clear = front dir (clear_joined names (path_in dir name) clear)
  where
    front : (a : Text) → IsClear (a ++ 47 ∷ name) → IsClear a
    front [] clear = tt
    front (x ∷ a) clear = (clear.0, front a clear.1)

-- what has an item in a directory is below it
below_dir : (names : List Text) (dir w next : Text) → AllByRecursion IsName names → IsClear w → IsClear (joined dir names) → has (items_below dir names) (item w next) ≡ true → is_below (joined dir names) w ≡ true
below_dir [] dir w next each clear clear' there = absurd (true≢false (sym there))
below_dir (name ∷ names) dir w next each clear clear' there = by (is_at (order (item w next)) (item dir name)) refl there (below_dir names (path_in dir name) w next each.1 clear clear')
  where
    by : (t : Bool) → is_at (order (item w next)) (item dir name) ≡ t → (t || has (items_below (path_in dir name) names) (item w next)) ≡ true
        → (has (items_below (path_in dir name) names) (item w next) ≡ true → is_below (joined (path_in dir name) names) w ≡ true) → is_below (joined dir (name ∷ names)) w ≡ true
    by true is there more =
        let same = same_item w next dir name clear (clear_joined (name ∷ names) dir clear') (same_of (item w next) (item dir name) is) in
        ap (λ (d : Text). is_proper_front (components d) (components (joined dir (name ∷ names)))) same.0
        ∙ ap (is_proper_front (components dir)) (components_joined (name ∷ names) dir each) ∙ front_of_more (components dir) name names
    by false is there more = more there

-- a path is names below the folder, one at least
record Named (p : Text) : Type 0 where
  pub name : Text
  pub names : List Text
  pub is : joined folder (name ∷ names) ≡ p
  pub each : AllByRecursion IsName (name ∷ names)
  pub items : items_of p ≡ items_below folder (name ∷ names)

named_of : (paths : List Text) → AreListable paths → (p : Text) → has paths p ≡ true → Named p
named_of paths can p there =
    let inside = all_at (λ q. is_below q folder ≡ true) p paths can.inside there in
    let found = path_parts p inside in
    by found.0 found.1 inside
  where
    by : (names : List Text) → components p ≡ folder ∷ names → is_below p folder ≡ true → Named p
    by [] parts inside = absurd (true≢false (sym inside ∙ ap (is_proper_front (components folder)) parts))
    by (name ∷ names) parts inside = record {
      name = name;
      names = names;
      is = sym (join_joined folder (name ∷ names)) ∙ ap (join_with_byte 47) (sym parts) ∙ join_with_byte-slice_split 47 p;
      each = (subst (λ (cs : List Text). AllByRecursion IsName cs) parts (names_of_components p)).1;
      items = ap (λ (cs : List Text). items_below folder (drop 1 cs)) parts;
    }

-- the item of a path itself
record Own (p : Text) (items : List Text) : Type 0 where
  pub dir : Text
  pub name : Text
  pub is : p ≡ path_in dir name
  pub there : has items (item dir name) ≡ true

own_item : (name : Text) (names : List Text) (dir : Text) → Own (joined dir (name ∷ names)) (items_below dir (name ∷ names))
own_item name [] dir = record { dir = dir; name = name; is = refl; there = has_itself (item dir name) [] }
own_item name (next ∷ names) dir = by (own_item next names (path_in dir name))
  where
    by : Own (joined (path_in dir name) (next ∷ names)) (items_below (path_in dir name) (next ∷ names)) → Own (joined dir (name ∷ next ∷ names)) (items_below dir (name ∷ next ∷ names))
    by own = record {
      dir = own.dir;
      name = own.name;
      is = own.is;
      there = ap (λ b. is_at (order (item own.dir own.name)) (item dir name) || b) own.there ∙ or_true (is_at (order (item own.dir own.name)) (item dir name));
    }

item_there : (paths : List Text) (p w : Text) → has paths p ≡ true → has (items_of p) w ≡ true → has (all_items paths) w ≡ true
item_there paths p w there is = any-items (is_at (order w)) paths ∙ any_at (λ q. has (items_of q) w) p paths there is

-- nothing is in a path that is listed
none_in : (paths : List Text) → AreListable paths → (w next : Text) → has paths w ≡ true → has (all_items paths) (item w next) ≡ true → ⊥
none_in paths can w next there is =
    let found = any_gives (λ p. has (items_of p) (item w next)) paths (sym (any-items (is_at (order (item w next))) paths) ∙ is) in
    let named = named_of paths can found.0 found.1 in
    let clear = clear_path w (all_at IsPath w paths can.form there) in
    let clear' : IsClear (joined folder (named.name ∷ named.names)) = subst IsClear (sym named.is) (clear_path found.0 (all_at IsPath found.0 paths can.form found.1)) in
    let below : is_below found.0 w ≡ true =
    ap (λ (p : Text). is_below p w) (sym named.is) ∙ below_dir (named.name ∷ named.names) folder w next named.each clear clear' (ap (λ (its : List Text). has its (item w next)) (sym named.items) ∙ found.2) in
    true≢false (sym below ∙ all_at (λ b. is_below found.0 b ≡ false) w paths (all_at (λ a. AllByRecursion (λ b. is_below a b ≡ false) paths) found.0 paths can.apart found.1) there)

same_has : (paths others : List Text) → AreListable paths → AreListable others → all_items paths ≡ all_items others → (w : Text) → has paths w ≡ true → has others w ≡ true
same_has paths others can can' same w there =
    let named = named_of paths can w there in
    let own = own_item named.name named.names folder in
    let it = item own.dir own.name in
    let path : w ≡ path_in own.dir own.name = sym named.is ∙ own.is in
    let listed = item_there paths w it there (ap (λ (its : List Text). has its it) named.items ∙ own.there) in
    let e = all_at (Entry others) it (all_items others) (all_entries others can') (ap (λ (its : List Text). has its it) (sym same) ∙ listed) in
    let form = subst IsPath path (all_at IsPath w paths can.form there) in
    let parts = same_item own.dir own.name e.dir e.name (clear_in own.dir own.name form) (clear_in e.dir e.name e.form) e.is in
    let is : path_in e.dir e.name ≡ w = ap (λ (d : Text). path_in d e.name) (sym parts.0) ∙ ap (path_in own.dir) (sym parts.1) ∙ sym path in
    by (subst (Under others) is e.under)
  where
    by : Under others w → has others w ≡ true
    by (itself is) = is
    by (above next is) = absurd (none_in paths can w next there (ap (λ (its : List Text). has its (item w next)) same ∙ is))

both_ways : (a b : Bool) → (a ≡ true → b ≡ true) → (b ≡ true → a ≡ true) → a ≡ b
both_ways true b to from = sym (to refl)
both_ways false true to from = from refl
both_ways false false to from = refl

up_of : (xs : List Text) → IsStrictlySortedBy (slice_cmp nat_cmp) xs → Up xs
unfolding IsStrictlySortedBy
up_of [] up = tt
up_of (x ∷ xs) up = (up.0, up_of xs up.1)

files_are : (paths : List Text) → AreListable paths → (d : Done 2 nothing (listing [] (all_items paths)) (all_items paths)) → d.files ≡ paths
files_are paths can d =
    let r = d.reached in
    let can' = listable d.lines (state d.files d.dir false d.last) (all_items paths) d.dirs r (none_pending paths can d) in
    let same = items_are d.lines d.files d.dir d.last (all_items paths) d.dirs r in
    same_lists d.files paths r.up_files (up_of paths can.rising) (λ w. both_ways (has d.files w) (has paths w) (same_has d.files paths can' can (sym same) w) (same_has paths d.files can can' same w))

-- the text of paths reads as the paths
pub written_reads : (paths : List Text) → AreListable paths → lsr_read (lsr_text paths) ≡ Ok paths
written_reads paths can =
    let d = all_taken paths can in
    let rest = listing [] (all_items paths) in
    let are = lines_are paths can in
    let two : lines_taken 2 nothing rest ≡ lines_taken 0 nothing (lsr_lines paths) =
    taken_on 1 nothing nothing [] rest ([] ∷ rest) refl refl ∙ taken_on 0 nothing nothing first_line ([] ∷ rest) (lsr_lines paths) refl refl in
    let taken : lines_taken 0 nothing (lsr_lines paths) ≡ Ok (state d.files d.dir false d.last) = sym two ∙ d.taken in
    let many : nat_le 2 (length (lsr_lines paths)) ≡ true = le-leb 2 (length (lsr_lines paths)) (omega arith) in
    let may : may_end (state d.files d.dir false d.last) ≡ true = ap not (none_pending paths can d) in
    ap (λ (ls : List Text). paths_or_line (ends_with nat_eq (lsr_text paths) (10 ∷ [])) (length ls) (lines_taken 0 nothing ls)) are
    ∙ read_whole (ends_with nat_eq (lsr_text paths) (10 ∷ [])) (length (lsr_lines paths)) (lines_taken 0 nothing (lsr_lines paths)) (state d.files d.dir false d.last) taken
    (sym (ap (λ w. w && (nat_le 2 (length (lsr_lines paths)) && may_end (state d.files d.dir false d.last))) (text_ends paths)
    ∙ ap (λ m. m && may_end (state d.files d.dir false d.last)) many ∙ may))
    ∙ ap Ok (files_are paths can d)

-- the same of what a call answers
pub complete_answers : (text : Text) (answer : Result (List Text) LsrError) → MatchResult answer (λ found. lsr_read text ≡ Ok found) (IsLsrErrorOf text) → (paths : List Text) → AreListable paths → text ≡ lsr_text paths
    → MatchResult answer (λ found. found ≡ paths) IsNoLine
complete_answers text (Ok found) is paths can same =
    let both : Ok found ≡ Ok paths = sym is ∙ ap lsr_read same ∙ written_reads paths can in cc
complete_answers text (Err (BadLsr line)) is paths can same =
    absurd (let both : Err line ≡ Ok paths = sym is ∙ ap lsr_read same ∙ written_reads paths can in cc)
complete_answers text (Err (TooLarge what limit)) is paths can same = tt
complete_answers text (Err NoMemory) is paths can same = tt
