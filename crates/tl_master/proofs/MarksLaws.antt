-- What marks read as, by their text.
use Rattle.std.proofs.Common.{◌≡◌, ◌≢◌, ◌≤◌, ℕ, suc, nat_le, nat_lt, Bool, true, false, cond, ◌&&◌, ◌||◌, not, List, [], ◌∷◌, length, Option, Some, None, Result, Ok, Err, nat_cmp, is_lt, unwrap_or, inl, inr, refl, sym, ap, subst, ◌∙◌, arith}
use Rattle.std.specs.Prelude.{All, AllPairs}
use Rattle.std.specs.List.{list_all}
use Rattle.std.specs.List.Sorted.{IsPermutation}
use Rattle.std.specs.declared.cmp.Ordering.{Ordering}
use Rattle.std.specs.declared.cmp.Ordering.TheVariants.{Less, Equal, Greater}
use Rattle.std.specs.Cmp.Lexicographic.{slice_cmp, nat_list_cmp_total}
use Rattle.std.proofs.lemmas.Bool.{cases_Bool, true≢false, ltb-true, and_from, and_parts, leb-true}
use Rattle.std.proofs.lemmas.List.Elements.{All-cons, All-nil, All-weaker}
use Rattle.std.proofs.lemmas.List.Sums.{AllPass-from_list_all}
use Rattle.std.proofs.lemmas.List.Kept.{AllPairs-cons}
use Rattle.std.proofs.lemmas.List.Sorted.{IsPermutation-cons, IsPermutation-middle, IsPermutation-refl, IsPermutation-sym, IsPermutation-trans, All-permutation, length_permutation, list_any-IsPermutation}
use Rattle.tl_model.specs.Lines.{lines}
use Rattle.tl_model.specs.Volume.{same_name, same_name-refl}
use Rattle.tl_model.specs.Words.{fields}
use Rattle.tl_path.specs.Names.{is_platform}
use Rattle.tl_path.specs.Platforms.{ArePlatforms, AreListed}
use Rattle.tl_entry.specs.Rising.{comes_before, has_key, insert_by, is_rising, is_rising_after}
use Rattle.tl_entry.specs.FilePaths.{rising_of, with_text}
use Rattle.tl_entry.proofs.SetLemmas.{has-rising_of, rising-rising_of, rising_of_is}
use Rattle.tl_db.specs.Options.{are_distinct, are_platforms}
use Rattle.tl_db.proofs.OptionLemmas.{from_if}
use Rattle.tl_db.proofs.PlatformLemmas.{tested_platforms}
use Rattle.tl_marks.specs.Form.{MarksEntry, ArePlatformsOf, AreMarked, SaysPlatforms, before_space, behind_space, counter_of, is_platforms_line, is_spaced, mark_of}
use Rattle.tl_marks.specs.Reading.{paths_in, BehindLine, BehindCounter, AreMarksOf, ReadsMarks, IsBadFromLine, IsBadBehind, IsBadFrom, IsFirstBad}
use Rattle.tl_marks.specs.declared.marks.MarkedPath.{MarkedPath}
use Rattle.tl_marks.specs.declared.marks.MarkedPlatforms.{MarkedPlatforms}
use Rattle.tl_kind.specs.declared.quantity.What.TheVariants.{Marks}
use Rattle.tl_master.specs.declared.error.MasterError.TheVariants.{TooLarge}
use Rattle.tl_master.specs.Marked.{marks_held, marks_or_fault, behind_counter, behind_platforms, from_counter, from_second, marks_of, marks_of_lines, marks_with, platforms_behind, platforms_in, platforms_of, with_mark}

abbrev Words : Type 0
Words = List (List ℕ)

abbrev own : List ℕ → List ℕ
own text = text

-- ---- platforms in order

not_true : (b : Bool) → not b ≡ true → b ≡ false
not_true true e = absurd (true≢false (sym e))
not_true false e = refl

moved_in : (word : List ℕ) (words : Words) → IsPermutation (word ∷ words) (insert_by own word words)
moved_in word [] = IsPermutation-refl (word ∷ [])
moved_in word (next ∷ words) = by (comes_before word next) (moved_in word words)
  where
    by : (first : Bool) → IsPermutation (word ∷ words) (insert_by own word words) → IsPermutation (word ∷ next ∷ words) (cond first (word ∷ next ∷ words) (next ∷ insert_by own word words))
    by true moved = IsPermutation-refl (word ∷ next ∷ words)
    by false moved =
        IsPermutation-trans (word ∷ next ∷ words) (next ∷ word ∷ words) (next ∷ insert_by own word words)
        (IsPermutation-sym (next ∷ word ∷ words) (word ∷ next ∷ words) (IsPermutation-middle (next ∷ []) word words))
        (IsPermutation-cons next (word ∷ words) (insert_by own word words) moved)

moved_rising : (words : Words) → are_distinct words ≡ true → IsPermutation words (rising_of words)
moved_rising [] apart = IsPermutation-refl []
moved_rising (word ∷ words) apart =
    let parts = and_parts (not (has_key own word words)) (are_distinct words) apart in
    let none : has_key own word (rising_of words) ≡ false = has-rising_of word words ∙ not_true (has_key own word words) parts.0 in
    IsPermutation-trans (word ∷ words) (word ∷ rising_of words) (with_text word (rising_of words))
    (IsPermutation-cons word words (rising_of words) (moved_rising words parts.1))
    (subst (λ (b : Bool). IsPermutation (word ∷ rising_of words) (cond b (rising_of words) (insert_by own word (rising_of words)))) (sym none) (moved_in word (rising_of words)))

is_less : (o : Ordering) → is_lt o ≡ true → o ≡ Less
is_less Less is = refl
is_less Equal is = absurd (cc)
is_less Greater is = absurd (cc)

less_all : (word : List ℕ) (words : Words) → is_rising_after own word words ≡ true → All (λ other. slice_cmp nat_cmp word other ≡ Less) words
less_all word [] up = All-nil (λ other. slice_cmp nat_cmp word other ≡ Less)
less_all word (next ∷ words) up =
    let parts = and_parts (comes_before word next) (is_rising_after own next words) up in
    let first : slice_cmp nat_cmp word next ≡ Less = is_less (slice_cmp nat_cmp word next) parts.0 in
    All-cons (λ other. slice_cmp nat_cmp word other ≡ Less) next words first
    (All-weaker (λ other. slice_cmp nat_cmp next other ≡ Less) (λ other. slice_cmp nat_cmp word other ≡ Less) (λ other behind. nat_list_cmp_total.trans word next other first behind) words (less_all next words parts.1))

rising_tail : (word : List ℕ) (words : Words) → is_rising_after own word words ≡ true → is_rising own words ≡ true
rising_tail word [] up = refl
rising_tail word (next ∷ words) up = let parts = and_parts (comes_before word next) (is_rising_after own next words) up in parts.1

rising_pairs : (words : Words) → is_rising own words ≡ true → AllPairs (λ a b. slice_cmp nat_cmp a b ≡ Less) words
rising_pairs [] up = λ i j d lt in'. absurd (omega arith)
rising_pairs (word ∷ words) up = AllPairs-cons (λ a b. slice_cmp nat_cmp a b ≡ Less) word words (less_all word words up) (rising_pairs words (rising_tail word words up))

pairs_rising : (words : Words) → AllPairs (λ a b. slice_cmp nat_cmp a b ≡ Less) words → is_rising own words ≡ true
pairs_rising [] up = refl
pairs_rising (word ∷ words) up = after word words up
  where
    after : (word : List ℕ) (words : Words) → AllPairs (λ a b. slice_cmp nat_cmp a b ≡ Less) (word ∷ words) → is_rising_after own word words ≡ true
    after word [] up = refl
    after word (next ∷ words) up = and_from (comes_before word next) (is_rising_after own next words) (ap is_lt (up 0 1 word (omega arith) (omega arith)))
        (after next words (λ i j d lt in'. up (suc i) (suc j) d (omega arith) (omega arith)))

neither : (a b : Bool) → (a || b) ≡ false → (a ≡ false) × (b ≡ false)
neither true b e = absurd (true≢false e)
neither false b e = (refl, e)

all_apart : (word : List ℕ) (words : Words) → has_key own word words ≡ false → All (λ other. word ≢ other) words
all_apart word [] none = All-nil (λ other. word ≢ other)
all_apart word (next ∷ words) none =
    let parts = neither (same_name next word) (has_key own word words) none in
    All-cons (λ other. word ≢ other) next words
    (λ e. true≢false (sym (ap (λ (k : List ℕ). same_name k word) (sym e) ∙ same_name-refl word) ∙ parts.0))
    (all_apart word words parts.1)

words_apart : (words : Words) → are_distinct words ≡ true → AllPairs (λ a b. a ≢ b) words
words_apart [] is = λ i j d lt in'. absurd (omega arith)
words_apart (word ∷ words) is =
    let parts = and_parts (not (has_key own word words)) (are_distinct words) is in
    AllPairs-cons (λ a b. a ≢ b) word words (all_apart word words (not_true (has_key own word words) parts.0)) (words_apart words parts.1)

platforms_tested : (words : Words) → are_platforms words ≡ true → ArePlatforms words
platforms_tested words is =
    let first = and_parts (nat_le (length words) 32) (list_all is_platform words && are_distinct words) is in
    let others = and_parts (list_all is_platform words) (are_distinct words) first.1 in
    record {
      each = AllPass-from_list_all is_platform words others.0;
      distinct = words_apart words others.1;
      few = leb-true (length words) 32 first.0;
    }

-- what words list that are platforms
listed : (text : List ℕ) → are_platforms (fields text) ≡ true → AreListed text (rising_of (fields text))
listed text are =
    let words = fields text in
    let tested = platforms_tested words are in
    let parts = and_parts _ (list_all is_platform words && are_distinct words) are in
    let moved = moved_rising words (and_parts (list_all is_platform words) (are_distinct words) parts.1).1 in
    record {
      words = tested;
      same = moved;
      order = record {
        each = All-permutation (λ word. is_platform word ≡ true) words (rising_of words) moved tested.each;
        rising = rising_pairs (rising_of words) (rising-rising_of words);
        few = let same = length_permutation words (rising_of words) moved in let few = tested.few in omega (arith, same, few);
      };
    }

-- they are the words in order
listed_is : (text : List ℕ) (names : Words) → AreListed text names → names ≡ rising_of (fields text)
listed_is text names are =
    rising_of_is (fields text) names (pairs_rising names are.order.rising) (λ w. sym (list_any-IsPermutation (λ t. same_name t w) (fields text) names are.same))

-- ---- the line of the platforms

said_platforms : (text : Option (List ℕ)) (names : Words) → ArePlatformsOf text names → platforms_of text ≡ Some names
said_platforms None names is = ap (λ (n : Words). Some n) (sym is)
said_platforms (Some text) names is =
    ap (λ b. cond b (Some (rising_of (fields text))) None) (and_from (is_spaced text) (are_platforms (fields text)) is.0 (tested_platforms (fields text) is.1.words))
    ∙ ap (λ (n : Words). Some n) (sym (listed_is text names is.1))

platforms_said : (text : Option (List ℕ)) (names : Words) → platforms_of text ≡ Some names → ArePlatformsOf text names
platforms_said None names is = sym (some_is [] names is)
  where
    some_is : (a b : Words) → Some a ≡ Some b → a ≡ b
    some_is a b e = ap (λ (o : Option Words). unwrap_or o a) e
platforms_said (Some text) names is =
    let from = from_if (is_spaced text && are_platforms (fields text)) (rising_of (fields text)) names is in
    let parts = and_parts (is_spaced text) (are_platforms (fields text)) from.0 in
    (parts.0, subst (AreListed text) from.1 (listed text parts.1))

said_marked : (counter : ℕ) (rest : Option (List ℕ)) (marked : MarkedPlatforms) → AreMarked counter rest marked → platforms_behind counter rest ≡ Some marked
said_marked counter None marked is = absurd is
said_marked counter (Some rest) marked is =
    ap (λ (o : Option ℕ). with_mark o (platforms_of (behind_space rest))) is.0 ∙ ap (with_mark (Some marked.mark)) (said_platforms (behind_space rest) marked.platforms is.1)

marked_said : (counter : ℕ) (rest : Option (List ℕ)) (marked : MarkedPlatforms) → platforms_behind counter rest ≡ Some marked → AreMarked counter rest marked
marked_said counter None marked is = cc
marked_said counter (Some rest) marked is = by (mark_of counter (before_space rest)) refl (platforms_of (behind_space rest)) refl is
  where
    by : (mark : Option ℕ) → mark_of counter (before_space rest) ≡ mark → (names : Option Words) → platforms_of (behind_space rest) ≡ names → with_mark mark names ≡ Some marked
        → (mark_of counter (before_space rest) ≡ Some marked.mark) × ArePlatformsOf (behind_space rest) marked.platforms
    by None one names two is = absurd (cc)
    by (Some mark) one None two is = absurd (cc)
    by (Some mark) one (Some names) two is =
        let same : record { mark = mark; platforms = names } ≡ marked = ap (λ (o : Option MarkedPlatforms). unwrap_or o marked) is in
        (one ∙ ap (λ (m : MarkedPlatforms). Some m.mark) same, platforms_said (behind_space rest) marked.platforms (two ∙ ap (λ (m : MarkedPlatforms). Some m.platforms) same))

none_said : (counter : ℕ) (line : List ℕ) → ((marked : MarkedPlatforms) → ¬ (SaysPlatforms counter line marked)) → platforms_in counter line ≡ None
none_said counter line none = by (platforms_in counter line) refl
  where
    by : (o : Option MarkedPlatforms) → platforms_in counter line ≡ o → platforms_in counter line ≡ None
    by None is = is
    by (Some marked) is = absurd (none marked (marked_said counter (behind_space line) marked is))

-- ---- the text

with_paths : (counter : ℕ) (platforms : Option MarkedPlatforms) (read : Result (List MarkedPath) ℕ) (marks : MarksEntry) → counter ≡ marks.counter → platforms ≡ marks.platforms → read ≡ Ok marks.paths
    → marks_with counter platforms read ≡ Ok marks
with_paths counter platforms read marks c p r = ap (marks_with counter platforms) r ∙ λ i. Ok (record { counter = c i; platforms = p i; paths = marks.paths })

from_line : (platforms : Bool) (line : List ℕ) (others : List (List ℕ)) (marks : MarksEntry) → BehindLine platforms line others marks → from_second platforms marks.counter line others ≡ Ok marks
from_line true line others marks is =
    ap (λ (o : Option MarkedPlatforms). behind_platforms marks.counter o others) (said_marked marks.counter (behind_space line) is.0 is.1)
    ∙ with_paths marks.counter (Some is.0) (paths_in marks.counter [] 3 others) marks refl (sym is.2) is.3
from_line false line others marks is = with_paths marks.counter None (paths_in marks.counter [] 2 (line ∷ others)) marks refl (sym is.0) is.1

behind : (others : List (List ℕ)) (marks : MarksEntry) → BehindCounter others marks → behind_counter marks.counter others ≡ Ok marks
behind [] marks is = λ i. Ok (record { counter = marks.counter; platforms = sym is.0 i; paths = sym is.1 i })
behind (line ∷ others) marks is = from_line (is_platforms_line line) line others marks is

-- marks that a text reads as
pub marks_read : (text : List ℕ) (marks : MarksEntry) → ReadsMarks text marks → marks_of text ≡ Ok marks
marks_read text marks reads = by (lines text) reads
  where
    by : (all : List (List ℕ)) → AreMarksOf all marks → marks_of_lines all ≡ Ok marks
    by [] are = absurd are
    by (line ∷ others) are = ap (λ (o : Option ℕ). from_counter o others) are.0 ∙ behind others marks are.1

bad_line : (platforms : Bool) (counter : ℕ) (line : List ℕ) (others : List (List ℕ)) (number : ℕ) → IsBadFromLine platforms counter line others number → from_second platforms counter line others ≡ Err number
bad_line true counter line others number (inl is) = ap (λ (o : Option MarkedPlatforms). behind_platforms counter o others) (none_said counter line is.1) ∙ ap (λ (n : ℕ). Err n) (sym is.0)
bad_line true counter line others number (inr is) =
    ap (λ (o : Option MarkedPlatforms). behind_platforms counter o others) (said_marked counter (behind_space line) is.0 is.1) ∙ ap (marks_with counter (Some is.0)) is.2
bad_line false counter line others number is = ap (marks_with counter None) is

bad_behind : (counter : ℕ) (others : List (List ℕ)) (number : ℕ) → IsBadBehind counter others number → behind_counter counter others ≡ Err number
bad_behind counter [] number is = absurd is
bad_behind counter (line ∷ others) number is = bad_line (is_platforms_line line) counter line others number is

bad_from : (counter : Option ℕ) (others : List (List ℕ)) (number : ℕ) → IsBadFrom counter others number → from_counter counter others ≡ Err number
bad_from None others number is = ap (λ (n : ℕ). Err n) (sym is)
bad_from (Some counter) others number is = bad_behind counter others number is

-- the first bad line of a text
pub marks_bad : (text : List ℕ) (number : ℕ) → IsFirstBad (lines text) number → marks_of text ≡ Err number
marks_bad text number bad = by (lines text) bad
  where
    by : (all : List (List ℕ)) → IsFirstBad all number → marks_of_lines all ≡ Err number
    by [] is = ap (λ (n : ℕ). Err n) (sym is)
    by (line ∷ others) is = bad_from (counter_of line) others number is

-- a file of marks that isn't too long
pub marks_within : (text : List ℕ) → length text ≤ 268435456 → marks_held (Some text) ≡ marks_or_fault (marks_of text)
marks_within text few = elim (cases_Bool (nat_lt 268435456 (length text))) [
  | inl past ↦ absurd (let less = ltb-true 268435456 (length text) past in omega (arith, less, few))
  | inr short ↦ ap (λ b. cond b (Err (TooLarge Marks 268435456)) (marks_or_fault (marks_of text))) short
]
