-- The paths that are files of two entries, found among files in order.
use Rattle.std.proofs.Common.{◌≡◌, ◌⊎◌, ◌+◌, ◌<◌, ◌≤◌, ℕ, suc, Bool, true, false, cond, ◌&&◌, ◌||◌, List, [], ◌∷◌, ◌++◌, length, get_or, drop, drop-cons, map, refl, sym, ap, subst, ◌∙◌, inl, inr, arith, append_assoc}
use Rattle.std.specs.Prelude.{filter, take_while, not, nat_eq}
use Rattle.std.specs.List.{list_any, AllByRecursion, All}
use Rattle.std.specs.List.Sorted.{IsPermutation, IsSortedBy}
use Rattle.std.specs.Ordering.{nat_cmp, is_lt, is_eq, ordering_then}
use Rattle.std.specs.declared.cmp.Ordering.{Ordering}
use Rattle.std.specs.declared.cmp.Ordering.TheVariants.{Less, Equal, Greater}
use Rattle.std.specs.Cmp.{IsTotalOrder, then_total}
use Rattle.std.specs.Cmp.Lexicographic.{slice_cmp, on_texts, pointwise, texts_ties}
use Rattle.std.proofs.lemmas.Bool.{cases_Bool, true≢false}
use Rattle.std.proofs.lemmas.List.{append-nil, drop_all}
use Rattle.std.proofs.lemmas.List.Elements.{All-head, All-tail}
use Rattle.std.proofs.lemmas.List.Folds.{list_any-append}
use Rattle.std.proofs.lemmas.List.Sums.{take_while-cons}
use Rattle.std.proofs.lemmas.List.Sorted.{sorted_far, ranks_by, list_any-IsPermutation}
use Rattle.tl_model.specs.Volume.{same_name, same_name-is, same_name-refl}
use Rattle.tl_entry.specs.Rising.{comes_before, has_key}
use Rattle.tl_entry.proofs.RisingLemmas.{before_apart_back, before_other}
use Rattle.tl_report.specs.Claims.{Claim}
use Rattle.tl_report.specs.Duplicates.{is_clash, duplicate_line, clashes_with, clashes}
use Rattle.tl_report.proofs.AnyLemmas.{any-map, any-filter, any-flat_map, any-alike, any-same}

-- the order of files: by their paths, and then by their owners
abbrev pub claim_cmp : Claim → Claim → Ordering
claim_cmp c d = ordering_then (slice_cmp nat_cmp c.path d.path) (slice_cmp nat_cmp c.owner d.owner)

claim_total : IsTotalOrder claim_cmp
claim_total = then_total (on_texts (λ (c : Claim). c.path)) (on_texts (λ (c : Claim). c.owner))

abbrev is_below : Claim → Claim → Bool
is_below c d = is_lt (claim_cmp c d)

-- no file is below one before it
abbrev Ordered : List Claim → Type 0
Ordered [] = Unit {0}
Ordered (c ∷ cs) = AllByRecursion (λ d. is_below d c ≡ false) cs × Ordered cs

none_below : {A : Type 0} (f : A → Claim) (x : A) (xs : List A) → All (λ y. is_below (f y) (f x) ≡ false) xs → AllByRecursion (λ d. is_below d (f x) ≡ false) (map f xs)
none_below f x [] all = tt
none_below f x (y ∷ ys) all = (All-head (λ y. is_below (f y) (f x) ≡ false) y ys all, none_below f x ys (All-tail (λ y. is_below (f y) (f x) ≡ false) y ys all))

ordered_of : {A : Type 0} (f : A → Claim) (xs : List A) → IsSortedBy (λ x y. is_below (f x) (f y)) xs → Ordered (map f xs)
ordered_of f [] up = tt
ordered_of f (x ∷ xs) up = (none_below f x xs (λ k d within. sorted_far (λ x y. is_below (f x) (f y)) (ranks_by claim_total f) (x ∷ xs) up 0 (suc k) d (omega arith) (omega arith)), ordered_of f xs tail)
  where
    tail : IsSortedBy (λ x y. is_below (f x) (f y)) xs
    tail k d low high = sorted_far (λ x y. is_below (f x) (f y)) (ranks_by claim_total f) (x ∷ xs) up (suc k) (suc (k + 1)) d (omega arith) (omega arith)

lower_path : (o p : Ordering) → is_lt o ≡ true → is_lt (ordering_then o p) ≡ true
lower_path Less p is = refl
lower_path Equal p is = absurd (cc)
lower_path Greater p is = absurd (cc)

lower_owner : (o p : Ordering) → (is_eq o && is_lt p) ≡ true → is_lt (ordering_then o p) ≡ true
lower_owner Less p is = absurd (cc)
lower_owner Equal p is = is
lower_owner Greater p is = absurd (cc)

-- two files that clash are in order
clash_below : (c d : Claim) → is_clash c d ≡ true → is_below c d ≡ true
clash_below c d is = lower_owner (slice_cmp nat_cmp c.path d.path) (slice_cmp nat_cmp c.owner d.owner) is

no_clash : (c d : Claim) → is_below c d ≡ false → is_clash c d ≡ false
no_clash c d later = elim (cases_Bool (is_clash c d)) [
  | inl is ↦ absurd (true≢false (sym (clash_below c d is) ∙ later))
  | inr none ↦ none
]

no_self_clash : (c : Claim) → is_clash c c ≡ false
no_self_clash c = elim (cases_Bool (comes_before c.owner c.owner)) [
  | inl is ↦ absurd (true≢false (sym (same_name-refl c.owner) ∙ before_apart_back c.owner c.owner is))
  | inr none ↦ none_after (same_name c.path c.path) (comes_before c.owner c.owner) none
]
  where
    none_after : (a b : Bool) → b ≡ false → (a && b) ≡ false
    none_after true b none = none
    none_after false b none = refl

apart_none : (c d : Claim) → same_name c.path d.path ≡ false → is_clash c d ≡ false
apart_none c d apart = ap (λ t. t && comes_before c.owner d.owner) apart

-- behind a file with a greater path none has the lesser one
none_behind : (c d : Claim) (ds : List Claim) → comes_before c.path d.path ≡ true → AllByRecursion (λ e. is_below e d ≡ false) ds → filter (is_clash c) ds ≡ []
none_behind c d [] lt all = refl
none_behind c d (e ∷ es) lt all = ap (λ t. cond t (e ∷ filter (is_clash c) es) (filter (is_clash c) es)) (apart_none c e (other (cases_Bool (same_name c.path e.path)))) ∙ none_behind c d es lt all.1
  where
    other : (same_name c.path e.path ≡ true) ⊎ (same_name c.path e.path ≡ false) → same_name c.path e.path ≡ false
    other (inl is) = absurd (true≢false (sym (lower_path (slice_cmp nat_cmp e.path d.path) (slice_cmp nat_cmp e.owner d.owner) (subst (λ (path : List ℕ). comes_before path d.path ≡ true) (same_name-is c.path e.path is) lt)) ∙ all.0))
    other (inr apart) = apart

abbrev pub has_path_of : Claim → Claim → Bool
has_path_of c d = same_name c.path d.path

take_while_true : (p : Claim → Bool) (x : Claim) (xs : List Claim) → p x ≡ true → take_while p (x ∷ xs) ≡ x ∷ take_while p xs
take_while_true p x xs is = take_while-cons p x xs ∙ ap (λ t. cond t (x ∷ take_while p xs) []) is

take_while_false : (p : Claim → Bool) (x : Claim) (xs : List Claim) → p x ≡ false → take_while p (x ∷ xs) ≡ []
take_while_false p x xs is = take_while-cons p x xs ∙ ap (λ t. cond t (x ∷ take_while p xs) []) is

-- in order, those that clash with a file stand among the next ones with its path
pub clashes-next : (c : Claim) (cs : List Claim) → AllByRecursion (λ d. is_below d c ≡ false) cs → Ordered cs → filter (is_clash c) (take_while (has_path_of c) cs) ≡ filter (is_clash c) cs
clashes-next c [] all up = refl
clashes-next c (d ∷ ds) all up = by (cases_Bool (same_name c.path d.path)) (clashes-next c ds all.1 up.1)
  where
    greater : same_name c.path d.path ≡ false → comes_before c.path d.path ≡ true
    greater apart = before_other d.path c.path (later (cases_Bool (comes_before d.path c.path))) apart
      where
        later : (comes_before d.path c.path ≡ true) ⊎ (comes_before d.path c.path ≡ false) → comes_before d.path c.path ≡ false
        later (inl lt) = absurd (true≢false (sym (lower_path (slice_cmp nat_cmp d.path c.path) (slice_cmp nat_cmp d.owner c.owner) lt) ∙ all.0))
        later (inr is) = is

    by : (same_name c.path d.path ≡ true) ⊎ (same_name c.path d.path ≡ false) → filter (is_clash c) (take_while (has_path_of c) ds) ≡ filter (is_clash c) ds
        → filter (is_clash c) (take_while (has_path_of c) (d ∷ ds)) ≡ filter (is_clash c) (d ∷ ds)
    by (inl is) more = ap (filter (is_clash c)) (take_while_true (has_path_of c) d ds is) ∙ ap (λ (rest : List Claim). cond (is_clash c d) (d ∷ rest) rest) more
    by (inr apart) more =
        ap (filter (is_clash c)) (take_while_false (has_path_of c) d ds apart)
        ∙ sym (ap (λ t. cond t (d ∷ filter (is_clash c) ds) (filter (is_clash c) ds)) (apart_none c d apart) ∙ none_behind c d ds (greater apart) up.0)

-- the lines of each file and the next ones with its path
abbrev pub runs : List Claim → List (List ℕ)
runs [] = []
runs (c ∷ cs) = clashes_with (take_while (has_path_of c) cs) c ++ runs cs

module _ (line : List ℕ) where
  abbrev hit : Claim → Claim → Bool
  hit c d = is_clash c d && same_name (duplicate_line c d) line

  has-clashes_with : (c : Claim) (cs : List Claim) → has_key (λ (l : List ℕ). l) line (clashes_with cs c) ≡ list_any (hit c) cs
  has-clashes_with c cs = any-map (λ l. same_name l line) (duplicate_line c) (filter (is_clash c) cs) ∙ any-filter (λ d. same_name (duplicate_line c d) line) (is_clash c) cs

  has-clashes : (cs : List Claim) → has_key (λ (l : List ℕ). l) line (clashes cs) ≡ list_any (λ c. list_any (hit c) cs) cs
  has-clashes cs = any-flat_map (λ l. same_name l line) (clashes_with cs) cs ∙ any-same _ _ cs (λ c. has-clashes_with c cs)

  not_hit : (c d : Claim) → is_clash c d ≡ false → hit c d ≡ false
  not_hit c d none = ap (λ t. t && same_name (duplicate_line c d) line) none

  fewer : (c : Claim) (cs ds : List Claim) → AllByRecursion (λ d. is_below d c ≡ false) cs → AllByRecursion (λ d. list_any (hit d) ds ≡ list_any (hit d) (c ∷ ds)) cs
  fewer c [] ds all = tt
  fewer c (d ∷ rest) ds all = (sym (ap (λ t. t || list_any (hit d) ds) (not_hit d c (no_clash d c all.0))), fewer c rest ds all.1)

  has-runs : (cs : List Claim) → Ordered cs → has_key (λ (l : List ℕ). l) line (runs cs) ≡ list_any (λ c. list_any (hit c) cs) cs
  has-runs [] up = refl
  has-runs (c ∷ cs) up =
      list_any-append (λ l. same_name l line) (clashes_with (take_while (has_path_of c) cs) c) (runs cs)
      ∙ ap (λ (next : List Claim). has_key (λ (l : List ℕ). l) line (map (duplicate_line c) next) || has_key (λ (l : List ℕ). l) line (runs cs)) (clashes-next c cs up.0 up.1)
      ∙ ap (λ t. t || has_key (λ (l : List ℕ). l) line (runs cs)) (has-clashes_with c cs)
      ∙ ap (λ t. list_any (hit c) cs || t) (has-runs cs up.1 ∙ any-alike (λ d. list_any (hit d) cs) (λ d. list_any (hit d) (c ∷ cs)) cs (fewer c cs cs up.0))
      ∙ ap (λ t. (t || list_any (hit c) cs) || list_any (λ d. list_any (hit d) (c ∷ cs)) cs) (sym (not_hit c c (no_self_clash c)))

  -- the same files have the same lines
  pub same-clashes : (cs ds : List Claim) → ((test : Claim → Bool) → list_any test cs ≡ list_any test ds) → has_key (λ (l : List ℕ). l) line (clashes cs) ≡ has_key (λ (l : List ℕ). l) line (clashes ds)
  same-clashes cs ds same =
      has-clashes cs ∙ any-same _ _ cs (λ c. same (hit c)) ∙ same (λ c. list_any (hit c) ds) ∙ sym (has-clashes ds)

  -- the lines of files in order are those of the files
  pub runs-clashes : {A : Type 0} (f : A → Claim) (xs ys : List A) → IsPermutation xs ys → IsSortedBy (λ x y. is_below (f x) (f y)) ys
      → has_key (λ (l : List ℕ). l) line (runs (map f ys)) ≡ has_key (λ (l : List ℕ). l) line (clashes (map f xs))
  runs-clashes f xs ys moved up =
      has-runs (map f ys) (ordered_of f ys up)
      ∙ any-map (λ c. list_any (hit c) (map f ys)) f ys ∙ any-same _ _ ys (λ x. any-map (hit (f x)) f ys ∙ sym (list_any-IsPermutation (λ y. hit (f x) (f y)) xs ys moved) ∙ sym (any-map (hit (f x)) f xs))
      ∙ sym (list_any-IsPermutation (λ x. list_any (hit (f x)) (map f xs)) xs ys moved)
      ∙ sym (has-clashes (map f xs) ∙ any-map (λ c. list_any (hit c) (map f xs)) f xs)

drop_next : {A : Type 0} (xs : List A) (i : ℕ) (x : A) → i < length xs → x ≡ get_or xs i x → drop i xs ≡ x ∷ drop (i + 1) xs
drop_next {A = A} xs i x within is =
    let next : suc i ≡ i + 1 = omega arith in
    drop-cons xs i x within ∙ ap (λ (y : A). y ∷ drop (suc i) xs) (sym is) ∙ ap (λ (n : ℕ). x ∷ drop n xs) next

module _ {A : Type 0} (f : A → Claim) (c : Claim) (xs : List A) (i : ℕ) (x : A) (within : i < length xs) (is : x ≡ get_or xs i x) where
  abbrev next_lines : ℕ → List (List ℕ)
  next_lines n = clashes_with (take_while (has_path_of c) (map f (drop n xs))) c

  first_next : next_lines i ≡ clashes_with (take_while (has_path_of c) (f x ∷ map f (drop (i + 1) xs))) c
  first_next = ap (λ (ys : List A). clashes_with (take_while (has_path_of c) (map f ys)) c) (drop_next xs i x within is)

  -- a file with another path ends those with this one
  pub next-apart : same_name c.path (f x).path ≡ false → next_lines i ≡ []
  next-apart apart = first_next ∙ ap (λ (ys : List Claim). clashes_with ys c) (take_while_false (has_path_of c) (f x) (map f (drop (i + 1) xs)) apart)

  -- one with this path, and a line for it or none
  pub next-same : same_name c.path (f x).path ≡ true → next_lines i ≡ cond (is_clash c (f x)) (duplicate_line c (f x) ∷ next_lines (i + 1)) (next_lines (i + 1))
  next-same same =
      first_next ∙ ap (λ (ys : List Claim). clashes_with ys c) (take_while_true (has_path_of c) (f x) (map f (drop (i + 1) xs)) same)
      ∙ by (is_clash c (f x))
    where
      rest : List Claim
      rest = take_while (has_path_of c) (map f (drop (i + 1) xs))

      by : (t : Bool) → map (duplicate_line c) (cond t (f x ∷ filter (is_clash c) rest) (filter (is_clash c) rest)) ≡ cond t (duplicate_line c (f x) ∷ next_lines (i + 1)) (next_lines (i + 1))
      by true = refl
      by false = refl

  -- a file with this path and a greater owner has a line
  pub next-line : same_name c.path (f x).path ≡ true → comes_before c.owner (f x).owner ≡ true → (lines next : List (List ℕ)) → next ≡ lines ++ duplicate_line c (f x) ∷ []
      → next ++ next_lines (i + 1) ≡ lines ++ next_lines i
  next-line same before lines next added =
      ap (λ (ls : List (List ℕ)). ls ++ next_lines (i + 1)) added ∙ append_assoc lines (duplicate_line c (f x) ∷ []) (next_lines (i + 1))
      ∙ ap (λ (ls : List (List ℕ)). lines ++ ls) (sym (next-same same ∙ ap (λ t. cond t (duplicate_line c (f x) ∷ next_lines (i + 1)) (next_lines (i + 1))) (ap (λ t. t && comes_before c.owner (f x).owner) same ∙ before)))

  -- one with this path and no greater owner has none
  pub next-none : same_name c.path (f x).path ≡ true → comes_before c.owner (f x).owner ≡ false → (lines next : List (List ℕ)) → next ≡ lines → next ++ next_lines (i + 1) ≡ lines ++ next_lines i
  next-none same before lines next kept =
      ap (λ (ls : List (List ℕ)). ls ++ next_lines (i + 1)) kept
      ∙ ap (λ (ls : List (List ℕ)). lines ++ ls) (sym (next-same same ∙ ap (λ t. cond t (duplicate_line c (f x) ∷ next_lines (i + 1)) (next_lines (i + 1))) (ap (λ t. t && comes_before c.owner (f x).owner) same ∙ before)))

not_true : (t : Bool) → not t ≡ true → t ≡ false
not_true true is = absurd (cc)
not_true false is = refl

not_false : (t : Bool) → not t ≡ false → t ≡ true
not_false true is = refl
not_false false is = absurd (cc)

-- what `!=` answers of two texts
pub apart_from : (a b : List ℕ) (r : Bool) → r ≡ not (pointwise nat_eq a b) → r ≡ true → same_name a b ≡ false
apart_from a b r is apart = sym (texts_ties a b) ∙ not_true (pointwise nat_eq a b) (sym is ∙ apart)

pub same_from : (a b : List ℕ) (r : Bool) → r ≡ not (pointwise nat_eq a b) → r ≡ false → same_name a b ≡ true
same_from a b r is alike = sym (texts_ties a b) ∙ not_false (pointwise nat_eq a b) (sym is ∙ alike)

-- the lines of one file more
pub runs-more : {A : Type 0} (f : A → Claim) (xs ys : List A) → ys ≡ xs → (i : ℕ) (x : A) → i < length xs → x ≡ get_or xs i x → (lines next all : List (List ℕ)) (behind : List A)
    → next ≡ lines ++ clashes_with (take_while (has_path_of (f x)) (map f behind)) (f x) → lines ++ runs (map f (drop i xs)) ≡ all → behind ≡ drop (i + 1) ys → next ++ runs (map f (drop (i + 1) xs)) ≡ all
runs-more {A = A} f xs ys equal i x within is lines next all behind added so_far rest =
    ap (λ (ls : List (List ℕ)). ls ++ runs (map f (drop (i + 1) xs))) (added ∙ ap (λ (zs : List A). lines ++ clashes_with (take_while (has_path_of (f x)) (map f zs)) (f x)) (rest ∙ ap (drop (i + 1)) equal))
    ∙ append_assoc lines (clashes_with (take_while (has_path_of (f x)) (map f (drop (i + 1) xs))) (f x)) (runs (map f (drop (i + 1) xs)))
    ∙ ap (λ (zs : List A). lines ++ runs (map f zs)) (sym (drop_next xs i x within is))
    ∙ so_far

-- the lines of all files, where none is left
pub runs-done : {A : Type 0} (f : A → Claim) (xs : List A) (i : ℕ) (lines : List (List ℕ)) → length xs ≤ i → lines ++ runs (map f (drop i xs)) ≡ runs (map f xs) → lines ≡ runs (map f xs)
runs-done {A = A} f xs i lines done so_far = sym (append-nil lines) ∙ ap (λ (zs : List A). lines ++ runs (map f zs)) (sym (drop_all i xs done)) ∙ so_far
