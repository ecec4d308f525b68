-- The parts of a text between its blanks, and where its words begin.
use Rattle.std.proofs.Common.{◌≡◌, ℕ, ◌+◌, ◌<◌, ◌≤◌, Bool, true, false, cond, List, [], ◌∷◌, length, take, drop, Option, Some, None, refl, sym, nat_lt, arith, suc}
use Rattle.std.specs.List.{position, position_or_len, onto_first, sum_by, slice_split}
use Rattle.std.specs.Option.{MatchOption}
use Rattle.std.specs.Str.{IsUtf8}
use Rattle.std.proofs.lemmas.Bool.Decides.{nat_tests}
use Rattle.std.proofs.lemmas.List.Quantifiers.{position-Some}
use Rattle.std.proofs.lemmas.List.Sums.{sum_by-cons, position_or_len_is, fails_before_first}
use Rattle.std.proofs.lemmas.List.Splits.{slice_split_none, slice_split_first}
use Rattle.std.proofs.lemmas.List.Elements.{All-from_get_or}
use Rattle.tl_path.specs.Bytes.{is_blank, is_lower_or_digit, is_of_platform}
use Rattle.tl_path.specs.Names.{is_platform}
use Rattle.tl_path.proofs.Words.{word_utf8, is_of_platform-small}

pub platform_utf8 : (text : List ℕ) → is_platform text ≡ true → IsUtf8 text
platform_utf8 = word_utf8 is_lower_or_digit is_of_platform 32 is_of_platform-small

abbrev parts : List ℕ → List (List ℕ)
parts text = slice_split is_blank text

cut_some : (text : List ℕ) (end : ℕ) → position is_blank text ≡ Some end → parts text ≡ take end text ∷ parts (drop (end + 1) text)
cut_some text end is =
    let at = position-Some is_blank text end 0 is in
    let len : position_or_len is_blank text ≡ end = position_or_len_is is_blank text end 0 (omega (arith, at.0)) at.2 (λ _. at.1) in
    rw len at (slice_split_first is_blank text 0 (omega (arith, at.0, len)))

past_end : (n m : ℕ) → cond (nat_lt n m) (Some n) None ≡ None → m ≤ n
past_end n m is = grind (arith, nat_tests)

cut_none : (text : List ℕ) → position is_blank text ≡ None → parts text ≡ text ∷ []
cut_none text is =
    let past : length text ≤ position_or_len is_blank text = past_end _ _ is in
    slice_split_none is_blank text (All-from_get_or (λ x. is_blank x ≡ false) text 0 (λ i h. fails_before_first is_blank text i 0 (omega arith)))

pub cut_part : (text : List ℕ) (r : Option ℕ) → r ≡ position is_blank text → MatchOption r (parts text ≡ text ∷ [])
    (λ end. (end < length text) × (parts text ≡ take end text ∷ parts (drop (end + 1) text)))
cut_part text None is = cut_none text (sym is)
cut_part text (Some end) is = ((position-Some is_blank text end 0 (sym is)).0, cut_some text end (sym is))

abbrev pub lengths : List (List ℕ) → ℕ
lengths cs = sum_by (λ c. length c + 1) cs

lengths-onto_first : (b : ℕ) (cs : List (List ℕ)) → 0 < lengths cs → lengths (onto_first b cs) ≡ lengths cs + 1
lengths-onto_first b [] h = absurd (omega (arith, h))
lengths-onto_first b (c ∷ cs) h = omega (arith, sum_by-cons (λ d. length d + 1) c cs, sum_by-cons (λ d. length d + 1) (b ∷ c) cs)

lengths_more : (s : Bool) (b n : ℕ) (cs : List (List ℕ)) → lengths cs ≡ n + 1 → lengths (cond s ([] ∷ cs) (onto_first b cs)) ≡ suc n + 1
lengths_more true b n cs h = omega (arith, h, sum_by-cons (λ d. length d + 1) [] cs)
lengths_more false b n cs h = omega (arith, h, lengths-onto_first b cs (omega (arith, h)))

-- the lengths of the parts, with a blank after each
pub lengths-parts : (text : List ℕ) → lengths (parts text) ≡ length text + 1
lengths-parts [] = refl
lengths-parts (b ∷ text) = lengths_more (is_blank b) b (length text) (parts text) (lengths-parts text)
