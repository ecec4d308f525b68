-- The platforms of a tree, and the depends that stand for a name on some platforms.
use Rattle.std.proofs.Common.{◌≡◌, ◌≢◌, ◌⊎◌, ℕ, ◌+◌, ◌-◌, ◌<◌, ◌≤◌, Bool, true, false, cond, ◌&&◌, ◌||◌, not, List, [], ◌∷◌, ◌++◌, length, take, drop, map, filter, Option, Some, None, refl, sym, ap, subst, ◌∙◌, inl, inr, nat_le, nat_eq, arith, Bor, Vec}
use Rattle.std.specs.Prelude.{All, codes, find, option_map, option_copied, MatchOption, unwrap_or}
use Rattle.std.specs.Option.{option_and_then}
use Rattle.std.specs.Str.{bytes_eq}
use Rattle.std.specs.Cmp.{IsEquivalence}
use Rattle.std.specs.Cmp.Lexicographic.{nat_list_eq_equiv}
use Rattle.std.specs.declared.alloc.Global.{Global}
use Rattle.std.specs.List.{list_all, list_any, ends_with, join_with_byte, slice_split}
use Rattle.std.proofs.lemmas.Bool.{cases_Bool, true≢false, false_from_ne_true, and_parts, or_right}
use Rattle.std.proofs.lemmas.Bool.Decides.{nat_tests}
use Rattle.std.proofs.lemmas.Slice.Eq.{bytes_eq-Decides}
use Rattle.std.proofs.lemmas.List.{append_assoc, append_cancel_left, take-append-drop}
use Rattle.std.proofs.lemmas.List.Elements.{All-weaker}
use Rattle.std.proofs.lemmas.List.Splits.{slice_split_at, slice_split_none}
use Rattle.std.proofs.lemmas.List.Sums.{AllPass-from_list_all}
use Rattle.tl_model.specs.Words.{is_blank, is_full, fields}
use Rattle.tl_model.specs.Volume.{same_name, same_name-is, same_name-refl}
use Rattle.tl_path.specs.Bytes.{is_of_platform}
use Rattle.tl_path.specs.Names.{is_name, is_platform}
use Rattle.tl_path.proofs.Words.{platform_bytes}
use Rattle.tl_entry.specs.Rising.{has_key}
use Rattle.tl_entry.specs.FilePaths.{rising_of}
use Rattle.tl_entry.specs.declared.object.Object.{Object}
use Rattle.tl_entry.proofs.SetLemmas.{has-rising_of}
use Rattle.tl_db.specs.declared.options.TreeOption.TheVariants.{Platforms}
use Rattle.tl_db.specs.Options.{are_distinct, are_platforms, kept_value, option_default, spelled}
use Rattle.tl_db.proofs.OptionLemmas.{all-rising_of}
use Rattle.tl_depend.specs.Names.{named_by}
use Rattle.tl_depend.specs.Needed.{tree_platforms, is_meta, stands_for, needs_name, needed_by}

abbrev Text : Type 0
Text = List ℕ

abbrev own : Text → Text
own text = text

blank_apart : (b : ℕ) → is_of_platform b ≡ true → is_blank b ≡ false
blank_apart b is = grind (arith, nat_tests, is)

no_blank : (word : Text) → is_platform word ≡ true → All (λ b. is_blank b ≡ false) word
no_blank word is =
    All-weaker (λ b. is_of_platform b ≡ true) (λ b. is_blank b ≡ false) blank_apart word (AllPass-from_list_all is_of_platform word (platform_bytes word is))

full_word : (word : Text) → is_platform word ≡ true → is_full word ≡ true
full_word [] is = absurd (true≢false (sym is))
full_word (b ∷ word) is = refl

-- platforms that one space joins are the words of their text
fields_joined : (words : List Text) → list_all is_platform words ≡ true → fields (join_with_byte 32 words) ≡ words
fields_joined [] all = refl
fields_joined (word ∷ []) all =
    let is = (and_parts (is_platform word) true all).0 in
    ap (filter is_full) (slice_split_none is_blank word (no_blank word is)) ∙ ap (λ t. cond t (word ∷ []) []) (full_word word is)
fields_joined (word ∷ next ∷ words) all =
    let parts = and_parts (is_platform word) (list_all is_platform (next ∷ words)) all in
    let rest = join_with_byte 32 (next ∷ words) in
    ap (filter is_full) (slice_split_at is_blank word 32 rest (no_blank word parts.0) refl)
    ∙ ap (λ t. cond t (word ∷ fields rest) (fields rest)) (full_word word parts.0)
    ∙ ap (λ (more : List Text). word ∷ more) (fields_joined (next ∷ words) parts.1)

abbrev listed : Option Text → List Text
listed kept = fields (unwrap_or (option_and_then (spelled Platforms) kept) (option_default Platforms))

-- the platforms of a tree whose line lists some
pub listed_platforms : (db : List Object) (text : Text) → kept_value Platforms db ≡ Some text → are_platforms (fields text) ≡ true → tree_platforms db ≡ rising_of (fields text)
listed_platforms db text kept are =
    let words = fields text in
    let few = and_parts (nat_le (length words) 32) (list_all is_platform words && are_distinct words) are in
    let each = (and_parts (list_all is_platform words) (are_distinct words) few.1).0 in
    ap listed kept
    ∙ ap (λ t. fields (unwrap_or (cond t (Some (join_with_byte 32 (rising_of words))) None) [])) are
    ∙ fields_joined (rising_of words) (all-rising_of is_platform words each)

-- a tree whose line lists something else has none
pub refused_platforms : (db : List Object) (text : Text) → kept_value Platforms db ≡ Some text → are_platforms (fields text) ≡ false → tree_platforms db ≡ []
refused_platforms db text kept are =
    ap listed kept ∙ ap (λ t. fields (unwrap_or (cond t (Some (join_with_byte 32 (rising_of (fields text)))) None) [])) are

-- a tree without a line has none
pub no_platforms : (db : List Object) → kept_value Platforms db ≡ None → tree_platforms db ≡ []
no_platforms db kept = ap listed kept

any-same : {A : Type 0} (p q : A → Bool) → ((x : A) → p x ≡ q x) → (xs : List A) → list_any p xs ≡ list_any q xs
any-same p q same [] = refl
any-same p q same (x ∷ xs) = ap (λ t. t || list_any p xs) (same x) ∙ ap (λ t. q x || t) (any-same p q same xs)

any-none : {A : Type 0} (p : A → Bool) → ((x : A) → p x ≡ false) → (xs : List A) → list_any p xs ≡ false
any-none p none [] = refl
any-none p none (x ∷ xs) = ap (λ t. t || list_any p xs) (none x) ∙ any-none p none xs

-- a name among the texts that are names
has-named : (name : Text) → is_name name ≡ true → (texts : List Text) → has_key own name (filter is_name texts) ≡ has_key own name texts
has-named name is [] = refl
has-named name is (text ∷ texts) = by (cases_Bool (is_name text)) (has-named name is texts)
  where
    by : (is_name text ≡ true) ⊎ (is_name text ≡ false) → has_key own name (filter is_name texts) ≡ has_key own name texts
        → has_key own name (filter is_name (text ∷ texts)) ≡ has_key own name (text ∷ texts)
    by (inl named) deeper =
        ap (λ t. has_key own name (cond t (text ∷ filter is_name texts) (filter is_name texts))) named ∙ ap (λ t. same_name text name || t) deeper
    by (inr none) deeper =
        let apart : same_name text name ≡ false =
        false_from_ne_true _ (λ same. true≢false (sym (ap is_name (same_name-is text name same) ∙ is) ∙ none)) in
        ap (λ t. has_key own name (cond t (text ∷ filter is_name texts) (filter is_name texts))) none ∙ deeper ∙ sym (ap (λ t. t || has_key own name texts) apart)

has-mapped : (name : Text) (f : Text → Text) (texts : List Text) → has_key own name (map f texts) ≡ list_any (λ text. same_name (f text) name) texts
has-mapped name f [] = refl
has-mapped name f (text ∷ texts) = ap (λ t. same_name (f text) name || t) (has-mapped name f texts)

-- a depend that stands for a name on each platform
pub stands_on_platforms : (platforms : List Text) (name depend front : Text) → is_name name ≡ true → named_by platforms depend ≡ filter is_name (map (λ platform. front ++ 46 ∷ platform) platforms)
    → stands_for platforms name depend ≡ list_any (λ platform. same_name (front ++ 46 ∷ platform) name) platforms
stands_on_platforms platforms name depend front is by =
    ap (has_key own name) by ∙ has-named name is (map (λ platform. front ++ 46 ∷ platform) platforms) ∙ has-mapped name (λ platform. front ++ 46 ∷ platform) platforms

-- a depend that stands for itself
pub stands_alone : (platforms : List Text) (name depend : Text) → is_name name ≡ true → named_by platforms depend ≡ filter is_name (depend ∷ []) → stands_for platforms name depend ≡ bytes_eq depend name
stands_alone platforms name depend is by =
    ap (has_key own name) by ∙ has-named name is (depend ∷ []) ∙ one (cases_Bool (same_name depend name))
  where
    one : (same_name depend name ≡ true) ⊎ (same_name depend name ≡ false) → (same_name depend name || false) ≡ bytes_eq depend name
    one (inl same) = ap (λ t. t || false) same ∙ sym ((bytes_eq-Decides depend name).1 (same_name-is depend name same))
    one (inr other) =
        ap (λ t. t || false) other
        ∙ sym (false_from_ne_true _ (λ same. true≢false (sym (subst (λ (n : Text). same_name depend n ≡ true) ((bytes_eq-Decides depend name).0 same) (same_name-refl depend)) ∙ other)))

same-behind : (front a b : Text) → same_name (front ++ a) (front ++ b) ≡ same_name a b
same-behind front a b = by (cases_Bool (same_name a b))
  where
    by : (same_name a b ≡ true) ⊎ (same_name a b ≡ false) → same_name (front ++ a) (front ++ b) ≡ same_name a b
    by (inl same) = subst (λ (t : Text). same_name (front ++ a) (front ++ t) ≡ true) (same_name-is a b same) (same_name-refl (front ++ a)) ∙ sym same
    by (inr other) =
        false_from_ne_true _ (λ same. true≢false (sym (subst (λ (t : Text). same_name a t ≡ true) (append_cancel_left front a b (same_name-is _ _ same)) (same_name-refl a)) ∙ other)) ∙ sym other

-- a name that is a front and a point with a text behind them
pub with_platform : (name front platform : Text) (platforms : List Text) → name ≡ front ++ 46 ∷ platform
    → list_any (λ p. same_name (front ++ 46 ∷ p) name) platforms ≡ has_key own platform platforms
with_platform name front platform platforms is =
    ap (λ (n : Text). list_any (λ p. same_name (front ++ 46 ∷ p) n) platforms) is
    ∙ any-same (λ p. same_name (front ++ 46 ∷ p) (front ++ 46 ∷ platform)) (λ p. same_name p platform)
    (λ p. same-behind front (46 ∷ p) (46 ∷ platform) ∙ same-behind (46 ∷ []) p platform) platforms

-- any other name
pub without_platform : (name front : Text) (platforms : List Text) → ((platform : Text) → front ++ 46 ∷ platform ≢ name) → list_any (λ p. same_name (front ++ 46 ∷ p) name) platforms ≡ false
without_platform name front platforms apart =
    any-none (λ p. same_name (front ++ 46 ∷ p) name) (λ p. false_from_ne_true _ (λ same. apart p (same_name-is _ _ same))) platforms

abbrev front_of : Text → Text → Text
front_of front name = take (length front) name

front-append : (front rest : Text) → take (length front) (front ++ rest) ≡ front
front-append [] rest = refl
front-append (b ∷ front) rest = ap (λ (t : Text). b ∷ t) (front-append front rest)

behind-append : (front rest : Text) → drop (length front) (front ++ rest) ≡ rest
behind-append [] rest = refl
behind-append (b ∷ front) rest = behind-append front rest

-- another front
pub no_front : (name front : Text) → bytes_eq (take (length front) name) front ≡ false → (platform : Text) → front ++ 46 ∷ platform ≢ name
no_front name front other platform is =
    true≢false (sym ((bytes_eq-Decides (take (length front) name) front).1 (ap (take (length front)) (sym is) ∙ front-append front (46 ∷ platform))) ∙ other)

-- a front, and what stands behind a point then
pub behind_front : (name front rest : Text) (found : Option (Bor Text)) → bytes_eq (take (length front) name) front ≡ true → rest ≡ drop (length front) name
    → MatchOption found (bytes_eq (take 1 rest) (46 ∷ []) ≡ false) (λ x. (bytes_eq (take 1 rest) (46 ∷ []) ≡ true) × (x.now ≡ drop 1 rest) × (length x.now + 1 ≡ length rest))
    → MatchOption found ((platform : Text) → front ++ 46 ∷ platform ≢ name) (λ platform. name ≡ front ++ 46 ∷ platform.now)
behind_front name front rest None same behind point =
    λ platform is.
    let left : rest ≡ 46 ∷ platform = behind ∙ ap (drop (length front)) (sym is) ∙ behind-append front (46 ∷ platform) in
    true≢false (sym (ap (λ (r : Text). bytes_eq (take 1 r) (46 ∷ [])) left) ∙ point)
behind_front name front rest (Some x) same behind point =
    let whole : front ++ rest ≡ name =
    ap (λ (f : Text). f ++ rest) (sym ((bytes_eq-Decides (take (length front) name) front).0 same)) ∙ ap (λ (r : Text). take (length front) name ++ r) behind ∙ take-append-drop (length front) name in
    let pointed : 46 ∷ x.now ≡ rest =
    ap (λ (p : Text). p ++ x.now) (sym ((bytes_eq-Decides (take 1 rest) (46 ∷ [])).0 point.0)) ∙ ap (λ (r : Text). take 1 rest ++ r) point.1 ∙ take-append-drop 1 rest in
    sym (ap (λ (r : Text). front ++ r) pointed ∙ whole)

has-found : (wanted : Text) (p : Text → Bool) (texts : List Text) → p wanted ≡ true → has_key own wanted texts ≡ true → list_any p texts ≡ true
has-found wanted p [] is has = absurd (true≢false (sym has))
has-found wanted p (text ∷ texts) is has = elim (cases_Bool (same_name text wanted)) [
  | inl same ↦ ap (λ t. t || list_any p texts) (ap p (same_name-is text wanted same) ∙ is)
  | inr other ↦ or_right (p text) (list_any p texts) (has-found wanted p texts is (sym (ap (λ t. t || has_key own wanted texts) other) ∙ has))
]

any-within : (p : Text → Bool) (some more : List Text) → ((w : Text) → has_key own w some ≡ true → has_key own w more ≡ true) → list_any p some ≡ true → list_any p more ≡ true
any-within p [] more within is = absurd (true≢false (sym is))
any-within p (text ∷ some) more within is = elim (cases_Bool (p text)) [
  | inl here ↦ has-found text p more here (within text (ap (λ t. t || has_key own text some) (same_name-refl text)))
  | inr other ↦ any-within p some more (λ w has. within w (or_right (same_name text w) (has_key own w some) has)) (sym (ap (λ t. t || list_any p some) other) ∙ is)
]

abbrev AreAlike : List Text → List Text → Type 0
AreAlike some more = (w : Text) → has_key own w some ≡ has_key own w more

any-alike : (p : Text → Bool) (some more : List Text) → AreAlike some more → list_any p some ≡ list_any p more
any-alike p some more alike = by (cases_Bool (list_any p some))
  where
    by : (list_any p some ≡ true) ⊎ (list_any p some ≡ false) → list_any p some ≡ list_any p more
    by (inl is) = is ∙ sym (any-within p some more (λ w has. sym (alike w) ∙ has) is)
    by (inr none) = none ∙ sym (false_from_ne_true _ (λ is. true≢false (sym (any-within p more some (λ w has. alike w ∙ has) is) ∙ none)))

-- a depend stands for the same names on platforms alike
stands-alike : (some more : List Text) (name : Text) → is_name name ≡ true → AreAlike some more → (depend : Text) → stands_for some name depend ≡ stands_for more name depend
stands-alike some more name is alike depend = by (cases_Bool (ends_with nat_eq depend (codes ".ARCH")))
  where
    on : Text → Text
    on platform = take (length depend - 5) depend ++ 46 ∷ platform

    spelled_as : (b : Bool) (platforms : List Text) → ends_with nat_eq depend (codes ".ARCH") ≡ b → named_by platforms depend ≡ filter is_name (cond b (map (λ platform. take (length depend - 5) depend ++ 46 ∷ platform) platforms) (depend ∷ []))
    spelled_as b platforms ends = ap (λ t. filter is_name (cond t (map (λ platform. take (length depend - 5) depend ++ 46 ∷ platform) platforms) (depend ∷ []))) ends

    by : (ends_with nat_eq depend (codes ".ARCH") ≡ true) ⊎ (ends_with nat_eq depend (codes ".ARCH") ≡ false) → stands_for some name depend ≡ stands_for more name depend
    by (inl ends) =
        stands_on_platforms some name depend (take (length depend - 5) depend) is (spelled_as true some ends)
        ∙ any-alike (λ platform. same_name (take (length depend - 5) depend ++ 46 ∷ platform) name) some more alike
        ∙ sym (stands_on_platforms more name depend (take (length depend - 5) depend) is (spelled_as true more ends))
    by (inr ends) = ap (has_key own name) (spelled_as false some ends ∙ sym (spelled_as false more ends))

find-same : {A : Type 0} (p q : A → Bool) → ((x : A) → p x ≡ q x) → (xs : List A) → find p xs ≡ find q xs
find-same p q same [] = refl
find-same {A = A} p q same (x ∷ xs) = ap (λ t. cond t (Some x) (find p xs)) (same x) ∙ ap (λ (o : Option A). cond (q x) (Some x) o) (find-same p q same xs)

-- what needs a name on the words of a text does so on the platforms of the tree
pub needed-alike : (db : List Object) (name : Text) (leaving : List Text) (words : List Text) → is_name name ≡ true → tree_platforms db ≡ rising_of words
    → option_map (λ (entry : Object). entry.name) (find (needs_name words name leaving) db) ≡ needed_by db name leaving
needed-alike db name leaving words is platforms =
    ap (option_map (λ (entry : Object). entry.name)) (find-same (needs_name words name leaving) (needs_name (tree_platforms db) name leaving) same db)
  where
    alike : AreAlike words (tree_platforms db)
    alike w = sym (ap (has_key own w) platforms ∙ has-rising_of w words)

    same : (entry : Object) → needs_name words name leaving entry ≡ needs_name (tree_platforms db) name leaving entry
    same entry =
        ap (λ t. (is_meta entry.category && not (list_any (bytes_eq entry.name) leaving)) && t)
        (any-same (stands_for words name) (stands_for (tree_platforms db) name) (stands-alike words (tree_platforms db) name is alike) entry.depends)

flips : (a b : Text) → bytes_eq a b ≡ bytes_eq b a
flips a b = let laws : IsEquivalence bytes_eq = nat_list_eq_equiv in laws.symm a b

-- the names that a depend on all platforms stands for
pub named_spelled : (platforms : List Text) (depend front : Text) → bytes_eq (drop (length depend - 5) depend) (codes ".ARCH") ≡ true → front ≡ take (length depend - 5) depend
    → named_by platforms depend ≡ filter is_name (map (λ platform. front ++ 46 ∷ platform) platforms)
named_spelled platforms depend front ends is =
    ap (λ t. filter is_name (cond t (map (λ platform. take (length depend - 5) depend ++ 46 ∷ platform) platforms) (depend ∷ []))) (flips (codes ".ARCH") (drop (length depend - 5) depend) ∙ ends)
    ∙ ap (λ (f : Text). filter is_name (map (λ platform. f ++ 46 ∷ platform) platforms)) (sym is)

-- the name that another depend stands for
pub named_alone : (platforms : List Text) (depend : Text) → bytes_eq (drop (length depend - 5) depend) (codes ".ARCH") ≡ false → named_by platforms depend ≡ filter is_name (depend ∷ [])
named_alone platforms depend ends =
    ap (λ t. filter is_name (cond t (map (λ platform. take (length depend - 5) depend ++ 46 ∷ platform) platforms) (depend ∷ []))) (flips (codes ".ARCH") (drop (length depend - 5) depend) ∙ ends)

-- the names on platforms that are kept as vectors
pub named_on : (platforms : List (Vec ℕ Global)) (depend front : Text) → bytes_eq (drop (length depend - 5) depend) (codes ".ARCH") ≡ true → front ≡ take (length depend - 5) depend
    → filter is_name (map (λ (platform : Vec ℕ Global). front ++ 46 ∷ platform.items) platforms) ≡ named_by (map (λ (platform : Vec ℕ Global). platform.items) platforms) depend
named_on platforms depend front ends is =
    ap (filter is_name) (texts platforms) ∙ sym (named_spelled (map (λ (platform : Vec ℕ Global). platform.items) platforms) depend front ends is)
  where
    texts : (ps : List (Vec ℕ Global)) → map (λ (platform : Vec ℕ Global). front ++ 46 ∷ platform.items) ps ≡ map (λ (platform : Text). front ++ 46 ∷ platform) (map (λ (platform : Vec ℕ Global). platform.items) ps)
    texts [] = refl
    texts (p ∷ ps) = ap (λ (rest : List Text). (front ++ 46 ∷ p.items) ∷ rest) (texts ps)
