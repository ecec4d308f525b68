-- Marked paths that were read keep the rules.
use Rattle.std.proofs.Common.{◌≡◌, ℕ, ◌+◌, ◌<◌, ◌&&◌, Bool, true, false, cond, List, [], ◌∷◌, ◌++◌, Option, Some, None, Result, Ok, Err, refl, sym, ap, subst, ◌∙◌, arith}
use Rattle.std.specs.Prelude.{All, is_none, unwrap_or}
use Rattle.std.specs.Prelude.{codes, nat_lt, IfSome, MatchOption}
use Rattle.std.specs.Str.{bytes_eq}
use Rattle.tl_model.specs.Decimal.{is_decimal, decimal_value}
use Rattle.tl_path.specs.Names.{is_platform}
use Rattle.tl_path.specs.Platforms.{ArePlatformsInOrder}
use Rattle.std.proofs.lemmas.Bool.{and_parts, and_from, ltb-true}
use Rattle.std.proofs.lemmas.List.Elements.{All-nil, All-cons, All-append}
use Rattle.tl_path.specs.Path.{path_fault, IsPath}
use Rattle.tl_path.specs.declared.fault.PathFault.{PathFault}
use Rattle.tl_entry.specs.Rising.{comes_before, is_rising, is_rising_after}
use Rattle.tl_marks.specs.declared.marks.MarkedPath.{MarkedPath}
use Rattle.tl_marks.specs.declared.marks.MarkedPlatforms.{MarkedPlatforms}
use Rattle.tl_marks.specs.Form.{counter_in, counter_of, AreMarked, ArePlatformsOf, SaysPlatforms, is_mark, if_mark, number_of, mark_of, may_be_marked, path_of, marked, lives_of, path_behind_mark, path_behind, path_in, before_space, behind_space, may_follow}
use Rattle.tl_marks.specs.Reading.{following, next_path, paths_in, IsMarkedPath, AreMarkedPlatforms, AreMarks}

abbrev path_key : MarkedPath → List ℕ
path_key marked = marked.path

some_same : {A : Type 0} {x y : A} → Some x ≡ Some y → x ≡ y
some_same {x = x} e = ap (λ (o : Option _). unwrap_or o x) e

-- a mark that was read is one
mark_is : (counter : ℕ) (number : Option ℕ) (mark : ℕ) → if_mark counter number ≡ Some mark → is_mark counter mark ≡ true
mark_is counter None mark is = absurd (cc)
mark_is counter (Some n) mark is = by (is_mark counter n) refl is
  where
    by : (t : Bool) → is_mark counter n ≡ t → cond t (Some n) None ≡ Some mark → is_mark counter mark ≡ true
    by true e found = ap (is_mark counter) (sym (some_same found)) ∙ e
    by false e found = absurd (cc)

pub mark_of_is : (counter : ℕ) (text : List ℕ) (mark : ℕ) → mark_of counter text ≡ Some mark → is_mark counter mark ≡ true
mark_of_is counter text mark is = mark_is counter (number_of text) mark is

path_is : (text path : List ℕ) → path_of text ≡ Some path → IsPath path × (may_be_marked path ≡ true)
path_is text path is = by (is_none (path_fault text) && may_be_marked text) refl is
  where
    none_is : (o : Option PathFault) → is_none o ≡ true → o ≡ None
    none_is None e = refl
    none_is (Some fault) e = absurd (cc)

    by : (t : Bool) → (is_none (path_fault text) && may_be_marked text) ≡ t → cond t (Some text) None ≡ Some path → IsPath path × (may_be_marked path ≡ true)
    by true e found =
        let parts = and_parts (is_none (path_fault text)) (may_be_marked text) e in
        let same : text ≡ path = some_same found in
        (ap path_fault (sym same) ∙ none_is (path_fault text) parts.0, ap may_be_marked (sym same) ∙ parts.1)
    by false e found = absurd (cc)

marked_is : (lives : Option Bool) (mark : Option ℕ) (path : Option (List ℕ)) (m : MarkedPath) → marked lives mark path ≡ Some m → (mark ≡ Some m.mark) × (path ≡ Some m.path)
marked_is None mark path m is = absurd (cc)
marked_is (Some l) None path m is = absurd (cc)
marked_is (Some l) (Some k) None m is = absurd (cc)
marked_is (Some l) (Some k) (Some p) m is =
    (ap (λ (o : Option MarkedPath). mark_in o k) is, ap (λ (o : Option MarkedPath). path_in_or o p) is)
  where
    mark_in : Option MarkedPath → ℕ → Option ℕ
    mark_in None other = Some other
    mark_in (Some m) other = Some m.mark

    path_in_or : Option MarkedPath → List ℕ → Option (List ℕ)
    path_in_or None other = Some other
    path_in_or (Some m) other = Some m.path

pub path_in_formed : (counter : ℕ) (line : List ℕ) (m : MarkedPath) → path_in counter line ≡ Some m → IsMarkedPath counter m
path_in_formed counter line m is = by (behind_space line) is
  where
    by_mark : (rest : List ℕ) (path : Option (List ℕ)) → path_behind_mark counter (before_space line) (before_space rest) path ≡ Some m → IsMarkedPath counter m
    by_mark rest None found = absurd (cc)
    by_mark rest (Some text) found =
        let parts = marked_is (lives_of (before_space line)) (mark_of counter (before_space rest)) (path_of text) m found in
        let path = path_is text m.path parts.1 in
        record { mark = mark_of_is counter (before_space rest) m.mark parts.0; path = path.0; allowed = path.1 }

    by : (rest : Option (List ℕ)) → path_behind counter (before_space line) rest ≡ Some m → IsMarkedPath counter m
    by None found = absurd (cc)
    by (Some rest) found = by_mark rest (behind_space rest) found

-- a path that may follow others rises with them
rising_after : (first : MarkedPath) (paths : List MarkedPath) (m : MarkedPath) → is_rising_after path_key first paths ≡ true → may_follow (first ∷ paths) m.path ≡ true
    → is_rising_after path_key first (paths ++ m ∷ []) ≡ true
rising_after first [] m rises follows = and_from _ _ follows refl
rising_after first (next ∷ paths) m rises follows =
    let parts = and_parts (comes_before first.path next.path) (is_rising_after path_key next paths) rises in
    and_from _ _ parts.0 (rising_after next paths m parts.1 follows)

pub rising-more : (paths : List MarkedPath) (m : MarkedPath) → is_rising path_key paths ≡ true → may_follow paths m.path ≡ true → is_rising path_key (paths ++ m ∷ []) ≡ true
rising-more [] m rises follows = refl
rising-more (first ∷ paths) m rises follows = rising_after first paths m rises follows

-- marked paths keep the rules beside a counter
pub record AreFormed (counter : ℕ) (paths : List MarkedPath) : Type 0 where
  pub each : All (IsMarkedPath counter) paths
  pub rising : is_rising path_key paths ≡ true

pub none_formed : (counter : ℕ) → AreFormed counter []
none_formed counter = record { each = All-nil (IsMarkedPath counter); rising = refl }

-- the marked paths of some lines keep the rules
pub paths_formed : (counter : ℕ) (paths : List MarkedPath) (number : ℕ) (lines : List (List ℕ)) (all : List MarkedPath) → AreFormed counter paths → paths_in counter paths number lines ≡ Ok all → AreFormed counter all
paths_formed counter paths number [] all formed is = rw (ap (λ (r : Result (List MarkedPath) ℕ). or_paths r paths) (sym is)) formed
  where
    or_paths : Result (List MarkedPath) ℕ → List MarkedPath → List MarkedPath
    or_paths (Ok ps) other = ps
    or_paths (Err n) other = other
paths_formed counter paths number (line ∷ lines) all formed is = by (path_in counter line) refl is (λ more more_formed. paths_formed counter more (number + 1) lines all more_formed)
  where
    by_follow : (m : MarkedPath) (t : Bool) → path_in counter line ≡ Some m → may_follow paths m.path ≡ t → next_path paths number (cond t (Some m) None) (λ more. paths_in counter more (number + 1) lines) ≡ Ok all
        → ((more : List MarkedPath) → AreFormed counter more → paths_in counter more (number + 1) lines ≡ Ok all → AreFormed counter all) → AreFormed counter all
    by_follow m true here follows found later =
        later (paths ++ m ∷ [])
        (record {
          each = All-append (IsMarkedPath counter) paths (m ∷ []) formed.each (All-cons (IsMarkedPath counter) m [] (path_in_formed counter line m here) (All-nil (IsMarkedPath counter)));
          rising = rising-more paths m formed.rising follows;
        }) found
    by_follow m false here follows found later = absurd (cc)

    by : (o : Option MarkedPath) → path_in counter line ≡ o → next_path paths number (following paths o) (λ more. paths_in counter more (number + 1) lines) ≡ Ok all
        → ((more : List MarkedPath) → AreFormed counter more → paths_in counter more (number + 1) lines ≡ Ok all → AreFormed counter all) → AreFormed counter all
    by None here found later = absurd (cc)
    by (Some m) here found later = by_follow m (may_follow paths m.path) here refl found later

-- a counter that was read is a number below 2^32
pub counter_small : (line : List ℕ) (counter : ℕ) → counter_of line ≡ Some counter → counter < 4294967296
counter_small line counter is = by (behind_space line) is
  where
    number : (text : List ℕ) (n : ℕ) → number_of text ≡ Some n → n < 4294967296
    number text n found = of (is_decimal text && nat_lt (decimal_value text) 4294967296) refl found
      where
        of : (t : Bool) → (is_decimal text && nat_lt (decimal_value text) 4294967296) ≡ t → cond t (Some (decimal_value text)) None ≡ Some n → n < 4294967296
        of true e f = subst (λ m. m < 4294967296) (some_same f) (ltb-true (decimal_value text) 4294967296 (and_parts (is_decimal text) (nat_lt (decimal_value text) 4294967296) e).1)
        of false e f = absurd (cc)

    by : (rest : Option (List ℕ)) → counter_in rest (before_space line) ≡ Some counter → counter < 4294967296
    by None found = absurd (cc)
    by (Some text) found = worded (bytes_eq (before_space line) (codes "counter")) found
      where
        worded : (t : Bool) → cond t (number_of text) None ≡ Some counter → counter < 4294967296
        worded true f = number text counter f
        worded false f = absurd (cc)

-- platforms that were read keep the rules
pub platforms_formed : (counter : ℕ) (line : List ℕ) (marked : MarkedPlatforms) → SaysPlatforms counter line marked → AreMarkedPlatforms counter marked
platforms_formed counter line marked says = by (behind_space line) says
  where
    listed : (text : Option (List ℕ)) → ArePlatformsOf text marked.platforms → ArePlatformsInOrder marked.platforms
    listed None none = subst ArePlatformsInOrder (sym none) (record { each = All-nil (λ name. is_platform name ≡ true); rising = λ i j d lt within. absurd (omega (arith, within)); few = omega arith })
    listed (Some text) are = are.1.order

    by : (rest : Option (List ℕ)) → AreMarked counter rest marked → AreMarkedPlatforms counter marked
    by None none = absurd none
    by (Some rest) are = record { mark = mark_of_is counter (before_space rest) marked.mark are.0; order = listed (behind_space rest) are.1 }

-- marks whose platforms and paths were read keep the rules
pub marks_formed : (counter number : ℕ) (platforms : Option MarkedPlatforms) (lines : List (List ℕ)) (paths : List MarkedPath) → counter < 4294967296 → IfSome platforms (AreMarkedPlatforms counter)
    → paths_in counter [] number lines ≡ Ok paths → AreMarks (record { counter = counter; platforms = platforms; paths = paths })
marks_formed counter number platforms lines paths small platforms_are is =
    let formed = paths_formed counter [] number lines paths (none_formed counter) is in
    record { counter = small; platforms = platforms_are; paths = formed.each; rising = formed.rising }

-- the platforms that were found are those of the line
pub found_formed : (counter : ℕ) (line : List ℕ) (found : Option MarkedPlatforms) (marked : MarkedPlatforms) → MatchOption found ((other : MarkedPlatforms) → ¬ (SaysPlatforms counter line other)) (SaysPlatforms counter line)
    → found ≡ Some marked → AreMarkedPlatforms counter marked
found_formed counter line None marked says is = absurd (cc)
found_formed counter line (Some other) marked says is = subst (AreMarkedPlatforms counter) (some_same is) (platforms_formed counter line other says)
