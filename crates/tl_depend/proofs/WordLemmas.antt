-- The words of a text, taken off one by one.
use Rattle.std.proofs.Common.{◌≡◌, ◌⊎◌, inl, inr, nat_le, ◌&&◌, ◌||◌, ◌≤◌, ◌<◌, ◌+◌, ◌-◌, ℕ, suc, zero, Bool, true, false, cond, not, List, [], ◌∷◌, length, get_or, take, drop, filter, Option, Some, None, refl, sym, ap, ◌∙◌, arith, nat_lt}
use Rattle.std.specs.List.{list_all, position, position_or_len, slice_split, onto_first}
use Rattle.std.proofs.lemmas.Bool.{false_from_ne_true, le-leb, leb-true}
use Rattle.std.proofs.lemmas.Bool.Decides.{nat_tests}
use Rattle.std.proofs.lemmas.List.{drop_all, drop_more, get_or-drop, length-drop, length-take-le}
use Rattle.std.proofs.lemmas.List.Elements.{All-from_get_or}
use Rattle.std.proofs.lemmas.List.Quantifiers.{position-Some}
use Rattle.std.proofs.lemmas.List.Splits.{slice_split_none, slice_split_first}
use Rattle.std.proofs.lemmas.List.Sums.{position_or_len_is, fails_before_first}
use Rattle.std.specs.Str.{bytes_eq}
use Rattle.std.specs.Cmp.Lexicographic.{texts_ties}
use Rattle.tl_model.specs.Words.{is_blank, is_full, fields}
use Rattle.tl_path.specs.Names.{is_platform}
use Rattle.tl_entry.specs.Rising.{has_key}
use Rattle.tl_db.specs.Options.{are_distinct, are_platforms}

abbrev begins : ℕ → Bool
begins b = not (is_blank b)

blank : (b : ℕ) → begins b ≡ false → is_blank b ≡ true
blank b is = turned (is_blank b) is
  where
    turned : (t : Bool) → not t ≡ false → t ≡ true
    turned true is = refl
    turned false is = absurd (cc)

past_end : (n m : ℕ) → cond (nat_lt n m) (Some n) None ≡ None → m ≤ n
past_end n m is = grind (arith, nat_tests)

-- blanks at the front are no words
skip : (text : List ℕ) (start : ℕ) → start ≤ length text → ((k : ℕ) → k < start → begins (get_or text k 0) ≡ false) → fields text ≡ fields (drop start text)
skip text zero within all = refl
skip [] (suc start) within all = absurd (omega arith)
skip (b ∷ text) (suc start) within all =
    ap (λ t. filter is_full (cond t ([] ∷ slice_split is_blank text) (onto_first b (slice_split is_blank text)))) (blank b (all 0 (omega arith)))
    ∙ skip text start (omega arith) (λ k lt. all (suc k) (omega arith))

-- a text of blanks
pub no_word : (text : List ℕ) → position begins text ≡ None → fields text ≡ []
no_word text is =
    let past : length text ≤ position_or_len begins text = past_end _ _ is in
    skip text (length text) (omega arith) (λ k lt. fails_before_first begins text k 0 (omega arith)) ∙ ap fields (drop_all (length text) text (omega arith))

full : (part : List ℕ) → 0 < length part → is_full part ≡ true
full [] some = absurd (omega arith)
full (b ∷ part) some = refl

-- a word that reaches to the end
last_word : (rest : List ℕ) → 0 < length rest → position is_blank rest ≡ None → fields rest ≡ rest ∷ []
last_word rest some is =
    let past : length rest ≤ position_or_len is_blank rest = past_end _ _ is in
    ap (filter is_full) (slice_split_none is_blank rest (All-from_get_or (λ x. is_blank x ≡ false) rest 0 (λ i h. fails_before_first is_blank rest i 0 (omega arith))))
    ∙ ap (λ t. cond t (rest ∷ []) []) (full rest some)

-- a word before a blank
next_word : (rest : List ℕ) (end : ℕ) → begins (get_or rest 0 0) ≡ true → position is_blank rest ≡ Some end → fields rest ≡ take end rest ∷ fields (drop end rest)
next_word rest end first is =
    let at = position-Some is_blank rest end 0 is in
    let len : position_or_len is_blank rest ≡ end = position_or_len_is is_blank rest end 0 (omega (arith, at.0)) at.2 (λ _. at.1) in
    let split : slice_split is_blank rest ≡ take end rest ∷ slice_split is_blank (drop (end + 1) rest) = rw len at (slice_split_first is_blank rest 0 (omega (arith, at.0, len))) in
    let some : 0 < end = later end first at.1 in
    ap (filter is_full) split
    ∙ ap (λ t. cond t (take end rest ∷ fields (drop (end + 1) rest)) (fields (drop (end + 1) rest))) (full (take end rest) (omega (arith, length-take-le end rest (omega (arith, at.0)))))
    ∙ ap (λ (ws : List (List ℕ)). take end rest ∷ ws) (sym (from_blank rest end at.0 at.1))
  where
    later : (end : ℕ) → begins (get_or rest 0 0) ≡ true → is_blank (get_or rest end 0) ≡ true → 0 < end
    later zero first blank = absurd (cc)
    later (suc end) first blank = omega arith

    from_blank : (rest : List ℕ) (end : ℕ) → end < length rest → is_blank (get_or rest end 0) ≡ true → fields (drop end rest) ≡ fields (drop (end + 1) rest)
    from_blank rest end within blank =
        ap fields (drop_more rest end 0 within)
        ∙ ap (λ t. filter is_full (cond t ([] ∷ slice_split is_blank (drop (end + 1) rest)) (onto_first (get_or rest end 0) (slice_split is_blank (drop (end + 1) rest))))) blank

-- the words from the first one on
first_word : (text : List ℕ) (start : ℕ) → position begins text ≡ Some start → (start < length text) × (begins (get_or (drop start text) 0 0) ≡ true) × (fields text ≡ fields (drop start text))
first_word text start is =
    let at = position-Some begins text start 0 is in
    let here : start + 0 ≡ start = omega arith in
    (at.0, ap begins (get_or-drop start text 0 0 ∙ ap (λ i. get_or text i 0) here) ∙ at.1, skip text start (omega (arith, at.0)) at.2)

-- a text with a word that ends at a blank
pub word_and_more : (text rest : List ℕ) (start end : ℕ) → position begins text ≡ Some start → rest ≡ drop start text → position is_blank rest ≡ Some end → fields text ≡ take end rest ∷ fields (drop end rest)
word_and_more text rest start end is from ended =
    let first = first_word text start is in
    first.2 ∙ ap fields (sym from) ∙ next_word rest end (ap (λ (r : List ℕ). begins (get_or r 0 0)) from ∙ first.1) ended

-- a text whose first word is its last
pub word_alone : (text rest : List ℕ) (start : ℕ) → position begins text ≡ Some start → rest ≡ drop start text → position is_blank rest ≡ None → fields text ≡ rest ∷ []
word_alone text rest start is from ended =
    let first = first_word text start is in
    first.2 ∙ ap fields (sym from) ∙ last_word rest (omega (arith, ap length from, length-drop start text, first.0)) ended

-- what stands behind a word is shorter than the text
pub word_shorter : (text rest behind : List ℕ) (start end : ℕ) → position begins text ≡ Some start → rest ≡ drop start text → position is_blank rest ≡ Some end → behind ≡ drop end rest
    → length behind < length text
word_shorter text rest behind start end is from ended last =
    let first = first_word text start is in
    let at = position-Some is_blank rest end 0 ended in
    by end at.0 (ap (λ (r : List ℕ). begins (get_or r 0 0)) from ∙ first.1) at.1 (ap length last ∙ length-drop end rest)
  where
    by : (end : ℕ) → end < length rest → begins (get_or rest 0 0) ≡ true → is_blank (get_or rest end 0) ≡ true → length behind ≡ length rest - end → length behind < length text
    by zero within first blank long = absurd (cc)
    by (suc end) within first blank long = omega (arith, ap length from, length-drop start text)

-- whether so many words before others can stand with them as platforms, where no two of the first are the same
abbrev pub are_more : ℕ → List (List ℕ) → Bool
are_more count words = nat_le (count + length words) 32 && (list_all is_platform words && are_distinct words)

-- words that were looked at stand before some that may be platforms with them
pub record ArePassed (text rest : List ℕ) (count : ℕ) : Type 0 where
  pub left : are_platforms (fields text) ≡ are_more count (fields rest)
  pub few : count ≤ 32

-- one word more
pub one_passed : (text rest word behind : List ℕ) (count : ℕ) → fields rest ≡ word ∷ fields behind → count < 32 → is_platform word ≡ true → has_key (λ w. w) word (fields behind) ≡ false
    → ArePassed text rest count → ArePassed text behind (count + 1)
one_passed text rest word behind count is lt platform apart passed = record {
  left = passed.left ∙ ap (are_more count) is
      ∙ ap (λ t. nat_le (count + length (word ∷ fields behind)) 32 && ((t && list_all is_platform (fields behind)) && (not (has_key (λ w. w) word (fields behind)) && are_distinct (fields behind)))) platform
      ∙ ap (λ t. nat_le (count + length (word ∷ fields behind)) 32 && (list_all is_platform (fields behind) && (not t && are_distinct (fields behind)))) apart
      ∙ ap (λ m. nat_le m 32 && (list_all is_platform (fields behind) && are_distinct (fields behind))) moved;
  few = omega arith;
}
  where
    moved : count + length (word ∷ fields behind) ≡ count + 1 + length (fields behind)
    moved = omega arith

-- no word more
pub all_passed : (text rest : List ℕ) (count : ℕ) → fields rest ≡ [] → ArePassed text rest count → are_platforms (fields text) ≡ true
all_passed text rest count none passed = passed.left ∙ ap (are_more count) none ∙ ap (λ t. t && true) (le-leb (count + 0) 32 (omega (arith, passed.few)))

-- a word that can't stand there
pub one_refused : (text rest word behind : List ℕ) (count : ℕ) → fields rest ≡ word ∷ fields behind → (count ≡ 32) ⊎ ((is_platform word ≡ false) ⊎ (has_key (λ w. w) word (fields behind) ≡ true))
    → ArePassed text rest count → are_platforms (fields text) ≡ false
one_refused text rest word behind count is why passed = passed.left ∙ ap (are_more count) is ∙ by why
  where
    refused : (a b : Bool) → b ≡ false → (a && b) ≡ false
    refused true b e = e
    refused false b e = refl

    by : (count ≡ 32) ⊎ ((is_platform word ≡ false) ⊎ (has_key (λ w. w) word (fields behind) ≡ true)) → are_more count (word ∷ fields behind) ≡ false
    by (inl full) =
        ap (λ t. t && (list_all is_platform (word ∷ fields behind) && are_distinct (word ∷ fields behind)))
        (false_from_ne_true _ (λ fits. absurd (omega (arith, leb-true (count + length (word ∷ fields behind)) 32 fits, full))))
    by (inr (inl none)) =
        refused (nat_le (count + length (word ∷ fields behind)) 32) _
        (ap (λ t. (t && list_all is_platform (fields behind)) && are_distinct (word ∷ fields behind)) none)
    by (inr (inr again)) =
        refused (nat_le (count + length (word ∷ fields behind)) 32) _ (refused (list_all is_platform (word ∷ fields behind)) _ (ap (λ t. not t && are_distinct (fields behind)) again))

-- a word that a text begins with, and those behind it
pub at_word : (word first rest behind : List ℕ) (t : Bool) → bytes_eq first word ≡ t → fields rest ≡ first ∷ fields behind → has_key (λ w. w) word (fields rest) ≡ (t || has_key (λ w. w) word (fields behind))
at_word word first rest behind t same words =
    ap (has_key (λ w. w) word) words ∙ ap (λ s. s || has_key (λ w. w) word (fields behind)) (sym (texts_ties first word) ∙ same)
