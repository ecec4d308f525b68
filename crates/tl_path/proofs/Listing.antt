-- A text whose words are read one after the other.
use Rattle.std.proofs.Common.{◌≡◌, ℕ, ◌+◌, true, false, cond, List, [], ◌∷◌, ◌++◌, length, drop, filter, Some, IsPermutation, IsSorted, nat_cmp, refl, sym, ap, subst, ◌∙◌, arith, suc, zero, add-one, append_assoc, length-append}
use Rattle.std.specs.Prelude.{slice_get, ◌==◌}
use Rattle.std.specs.List.{slice_split}
use Rattle.std.specs.Cmp.Lexicographic.{slice_cmp}
use Rattle.std.proofs.lemmas.List.{append-nil}
use Rattle.std.proofs.lemmas.List.Sums.{sum_by-cons}
use Rattle.std.proofs.lemmas.Bool.Decides.{nat_tests}
use Rattle.tl_model.specs.Words.{is_full, fields}
use Rattle.tl_path.specs.Bytes.{is_blank}
use Rattle.tl_path.specs.Platforms.{ArePlatforms, AreListed, IsFirstBadWord, places_from, word_places}
use Rattle.tl_path.proofs.Parts.{lengths, lengths-parts}
use Rattle.tl_path.proofs.Listed.{none_listed, in_order}

-- the names read so far, where the parts that are left begin at `at`
pub record ReadSoFar (text : List ℕ) (names : List (List ℕ)) (at : ℕ) (left : List (List ℕ)) : Type 0 where
  pub are : ArePlatforms names
  pub words : names ++ filter is_full left ≡ fields text
  pub places : drop (length names) (word_places text) ≡ places_from at left
  pub room : at + lengths left ≡ length text + 1

pub read_start : (text : List ℕ) (left : List (List ℕ)) → left ≡ slice_split is_blank text → ReadSoFar text [] 0 left
read_start text left is = record {
  are = none_listed;
  words = ap (filter is_full) is;
  places = ap (places_from 0) (sym is);
  room = omega (arith, ap lengths is, lengths-parts text);
}

tail_at : (ps : List ℕ) (n at : ℕ) (rest : List ℕ) → drop n ps ≡ at ∷ rest → drop (suc n) ps ≡ rest
tail_at ps zero at rest is = ap (drop 1) is
tail_at [] (suc n) at rest is = absurd (cc)
tail_at (p ∷ ps) (suc n) at rest is = tail_at ps n at rest is

place_at : (ps : List ℕ) (n at : ℕ) (rest : List ℕ) → drop n ps ≡ at ∷ rest → slice_get ps n ≡ Some at
place_at ps zero at rest is = ap (λ l. slice_get l 0) is
place_at [] (suc n) at rest is = absurd (cc)
place_at (p ∷ ps) (suc n) at rest is = place_at ps n at rest is

room_more : (text : List ℕ) (at : ℕ) (part : List ℕ) (left : List (List ℕ)) → at + lengths (part ∷ left) ≡ length text + 1 → (at + (length part + 1)) + lengths left ≡ length text + 1
room_more text at part left room = omega (arith, room, sum_by-cons (λ c. length c + 1) part left)

pub read_empty : (text : List ℕ) (names : List (List ℕ)) (at : ℕ) (part : List ℕ) (left : List (List ℕ)) → is_full part ≡ false
    → ReadSoFar text names at (part ∷ left) → ReadSoFar text names (at + (length part + 1)) left
read_empty text names at part left empty here = record {
  are = here.are;
  words = ap (λ b. names ++ cond b (part ∷ filter is_full left) (filter is_full left)) (sym empty) ∙ here.words;
  places = here.places ∙ ap (λ b. cond b (at ∷ places_from (at + length part + 1) left) (places_from (at + length part + 1) left)) empty ∙ ap (λ n. places_from n left) (omega arith);
  room = room_more text at part left here.room;
}

word_first : (text : List ℕ) (names : List (List ℕ)) (at : ℕ) (part : List ℕ) (left : List (List ℕ)) → is_full part ≡ true → ReadSoFar text names at (part ∷ left)
    → names ++ part ∷ filter is_full left ≡ fields text
word_first text names at part left full here = ap (λ b. names ++ cond b (part ∷ filter is_full left) (filter is_full left)) (sym full) ∙ here.words

place_first : (text : List ℕ) (names : List (List ℕ)) (at : ℕ) (part : List ℕ) (left : List (List ℕ)) → is_full part ≡ true → ReadSoFar text names at (part ∷ left)
    → drop (length names) (word_places text) ≡ at ∷ places_from (at + length part + 1) left
place_first text names at part left full here =
    here.places ∙ ap (λ b. cond b (at ∷ places_from (at + length part + 1) left) (places_from (at + length part + 1) left)) full

pub read_word : (text : List ℕ) (names : List (List ℕ)) (at : ℕ) (part : List ℕ) (left : List (List ℕ)) → is_full part ≡ true → ArePlatforms (names ++ part ∷ [])
    → ReadSoFar text names at (part ∷ left) → ReadSoFar text (names ++ part ∷ []) (at + (length part + 1)) left
read_word text names at part left full more here = record {
  are = more;
  words = append_assoc names (part ∷ []) (filter is_full left) ∙ word_first text names at part left full here;
  places = ap (λ n. drop n (word_places text)) (length-append names (part ∷ []) ∙ add-one (length names))
      ∙ tail_at (word_places text) (length names) at (places_from (at + length part + 1) left) (place_first text names at part left full here)
      ∙ ap (λ n. places_from n left) (omega arith);
  room = room_more text at part left here.room;
}

pub bad_word : (text : List ℕ) (names : List (List ℕ)) (at : ℕ) (part : List ℕ) (left : List (List ℕ)) → is_full part ≡ true → ¬ (ArePlatforms (names ++ part ∷ []))
    → ReadSoFar text names at (part ∷ left) → IsFirstBadWord text at
bad_word text names at part left full bad here = record {
  before = names;
  word = part;
  behind = filter is_full left;
  words = sym (word_first text names at part left full here);
  kept = here.are;
  bad = bad;
  place = place_at (word_places text) (length names) at (places_from (at + length part + 1) left) (place_first text names at part left full here);
}

pub read_all : (text : List ℕ) (names : List (List ℕ)) (at : ℕ) (sorted : List (List ℕ)) → ReadSoFar text names at [] → IsPermutation names sorted → IsSorted (slice_cmp nat_cmp) sorted → AreListed text sorted
read_all text names at sorted here moved order =
    let same : names ≡ fields text = sym (append-nil names) ∙ here.words in
    record {
      words = subst ArePlatforms same here.are;
      same = subst (λ ws. IsPermutation ws sorted) same moved;
      order = in_order names sorted here.are moved order;
    }

pub full_part : (part : List ℕ) → (length part == 0) ≡ false → is_full part ≡ true
full_part [] some = sym some
full_part (b ∷ part) some = refl

pub empty_part : (part : List ℕ) → (length part == 0) ≡ true → is_full part ≡ false
empty_part [] none = refl
empty_part (b ∷ part) none = absurd (grind (arith, nat_tests, none))
