-- The platforms that a text lists, in the order of their bytes.
use Rattle.std.proofs.Common.{◌≡◌, ◌≢◌, ℕ, suc, ◌<◌, ◌≤◌, Bool, true, false, cond, ◌&&◌, ◌||◌, not, List, [], ◌∷◌, ◌++◌, length, get_or, Some, None, Less, nat_cmp, is_lt, refl, sym, ap, ◌∙◌, nat_le, arith, length-append, append_assoc}
use Rattle.std.specs.Prelude.{All, AllPairs}
use Rattle.std.specs.List.{list_all, join_with_byte}
use Rattle.std.specs.Cmp.Lexicographic.{slice_cmp}
use Rattle.std.proofs.lemmas.Bool.{true≢false, false_from_ne_true, le-leb, leb-true}
use Rattle.std.proofs.lemmas.List.Elements.{All-nil, All-cons}
use Rattle.std.proofs.lemmas.List.Folds.{list_all-append}
use Rattle.std.proofs.lemmas.List.Sums.{AllPass-from_list_all, list_all-from_AllPass}
use Rattle.std.proofs.lemmas.List.Sorted.{list_any-IsPermutation}
use Rattle.std.proofs.lemmas.List.Kept.{AllPairs-cons}
use Rattle.tl_model.specs.Words.{fields}
use Rattle.tl_model.specs.Volume.{same_name, same_name-refl, same_name-apart}
use Rattle.tl_path.specs.Names.{is_platform}
use Rattle.tl_path.specs.Platforms.{ArePlatforms, AreListed, IsFirstBadWord}
use Rattle.tl_entry.specs.Rising.{has_key, is_rising, is_rising_after}
use Rattle.tl_entry.specs.FilePaths.{rising_of}
use Rattle.tl_entry.proofs.SetLemmas.{rising_of_is}
use Rattle.tl_db.specs.Options.{are_distinct, are_platforms, spelled_platforms}

abbrev Words : Type 0
Words = List (List ℕ)

abbrev own : List ℕ → List ℕ
own text = text

left : (a b : Bool) → (a && b) ≡ true → a ≡ true
left true b h = refl
left false b h = absurd (true≢false (sym h))

right : (a b : Bool) → (a && b) ≡ true → b ≡ true
right true b h = h
right false b h = absurd (true≢false (sym h))

both : (a b : Bool) → a ≡ true → b ≡ true → (a && b) ≡ true
both a b p q = ap (λ t. t && b) p ∙ q

not_true : (b : Bool) → not b ≡ true → b ≡ false
not_true true e = absurd (true≢false (sym e))
not_true false e = refl

neither : (a b : Bool) → (a || b) ≡ false → (a ≡ false) × (b ≡ false)
neither true b e = absurd (true≢false e)
neither false b e = (refl, e)

none_has : (word : List ℕ) (words : Words) → ((k : ℕ) (d : List ℕ) → k < length words → word ≢ get_or words k d) → has_key own word words ≡ false
none_has word [] apart = refl
none_has word (next ∷ words) apart =
    ap (λ t. t || has_key own word words) (same_name-apart next word (λ e. apart 0 next (omega arith) (sym e)))
    ∙ none_has word words (λ k d lt. apart (suc k) d (omega arith))

distinct_words : (words : Words) → AllPairs (λ a b. a ≢ b) words → are_distinct words ≡ true
distinct_words [] apart = refl
distinct_words (word ∷ words) apart =
    both _ _ (ap not (none_has word words (λ k d lt. apart 0 (suc k) d (omega arith) (omega arith))))
    (distinct_words words (λ i j d lt in'. apart (suc i) (suc j) d (omega arith) (omega arith)))

all_apart : (word : List ℕ) (words : Words) → has_key own word words ≡ false → All (λ other. word ≢ other) words
all_apart word [] none = All-nil (λ other. word ≢ other)
all_apart word (next ∷ words) none =
    All-cons (λ other. word ≢ other) next words
    (λ e. true≢false (sym (ap (λ (k : List ℕ). same_name k word) (sym e) ∙ same_name-refl word) ∙ (neither _ _ none).0))
    (all_apart word words (neither (same_name next word) _ none).1)

words_distinct : (words : Words) → are_distinct words ≡ true → AllPairs (λ a b. a ≢ b) words
words_distinct [] is = λ i j d lt in'. absurd (omega arith)
words_distinct (word ∷ words) is =
    AllPairs-cons (λ a b. a ≢ b) word words (all_apart word words (not_true _ (left (not (has_key own word words)) _ is)))
    (words_distinct words (right (not (has_key own word words)) _ is))

-- words pass the test where they are platforms
pub tested_platforms : (words : Words) → ArePlatforms words → are_platforms words ≡ true
tested_platforms words are =
    both _ _ (le-leb (length words) 32 are.few)
    (both _ _ (list_all-from_AllPass is_platform words are.each) (distinct_words words are.distinct))

platforms_tested : (words : Words) → are_platforms words ≡ true → ArePlatforms words
platforms_tested words is =
    let few = nat_le (length words) 32 in let each = list_all is_platform words in let apart = are_distinct words in
    record {
      each = AllPass-from_list_all is_platform words (left each apart (right few (each && apart) is));
      distinct = words_distinct words (right each apart (right few (each && apart) is));
      few = leb-true (length words) 32 (left few (each && apart) is);
    }

front_has : (word : List ℕ) (front behind : Words) → has_key own word (front ++ behind) ≡ false → has_key own word front ≡ false
front_has word [] behind none = refl
front_has word (next ∷ front) behind none =
    let parts = neither (same_name next word) _ none in
    ap (λ t. t || has_key own word front) parts.0 ∙ front_has word front behind parts.1

front_distinct : (front behind : Words) → are_distinct (front ++ behind) ≡ true → are_distinct front ≡ true
front_distinct [] behind is = refl
front_distinct (word ∷ front) behind is =
    both _ _ (ap not (front_has word front behind (not_true _ (left (not (has_key own word (front ++ behind))) _ is))))
    (front_distinct front behind (right (not (has_key own word (front ++ behind))) _ is))

-- the first of some platforms are platforms
front_platforms : (front behind : Words) → are_platforms (front ++ behind) ≡ true → are_platforms front ≡ true
front_platforms front behind is =
    let few = nat_le (length (front ++ behind)) 32 in let each = list_all is_platform (front ++ behind) in let apart = are_distinct (front ++ behind) in
    let short : length (front ++ behind) ≤ 32 = leb-true (length (front ++ behind)) 32 (left few (each && apart) is) in
    both _ _ (le-leb (length front) 32 (omega (arith, short, length-append front behind)))
    (both _ _ (left (list_all is_platform front) (list_all is_platform behind) (sym (list_all-append is_platform front behind) ∙ left each apart (right few (each && apart) is)))
    (front_distinct front behind (right each apart (right few (each && apart) is))))

rising_words : (words : Words) → AllPairs (λ a b. slice_cmp nat_cmp a b ≡ Less) words → is_rising own words ≡ true
rising_words [] up = refl
rising_words (word ∷ words) up = after word words up
  where
    after : (word : List ℕ) (words : Words) → AllPairs (λ a b. slice_cmp nat_cmp a b ≡ Less) (word ∷ words) → is_rising_after own word words ≡ true
    after word [] up = refl
    after word (next ∷ words) up =
        both _ _ (ap is_lt (up 0 1 word (omega arith) (omega arith)))
        (after next words (λ i j d lt in'. up (suc i) (suc j) d (omega arith) (omega arith)))

-- what a text lists, in order, is the text's spelling
pub spelled_listed : (text : List ℕ) (names : Words) → AreListed text names → spelled_platforms text ≡ Some (join_with_byte 32 names)
spelled_listed text names are =
    let words = fields text in
    let in_order : names ≡ rising_of words =
    rising_of_is words names (rising_words names are.order.rising) (λ w. sym (list_any-IsPermutation (λ t. same_name t w) words names are.same)) in
    ap (λ t. cond t (Some (join_with_byte 32 (rising_of words))) None) (tested_platforms words are.words)
    ∙ ap (λ (ns : Words). Some (join_with_byte 32 ns)) (sym in_order)

-- a text with a word that can't be kept has no spelling
pub spelled_refused : (text : List ℕ) (at : ℕ) → IsFirstBadWord text at → spelled_platforms text ≡ None
spelled_refused text at is =
    let words = fields text in
    let whole : words ≡ (is.before ++ is.word ∷ []) ++ is.behind = is.words ∙ sym (append_assoc is.before (is.word ∷ []) is.behind) in
    let refused : are_platforms words ≡ false =
    false_from_ne_true _ (λ are. is.bad (platforms_tested (is.before ++ is.word ∷ []) (front_platforms (is.before ++ is.word ∷ []) is.behind (sym (ap are_platforms whole) ∙ are)))) in
    ap (λ t. cond t (Some (join_with_byte 32 (rising_of words))) None) refused
