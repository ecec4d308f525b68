-- The first component of a text.
use Rattle.std.proofs.Common.{◌≡◌, ℕ, ◌+◌, ◌<◌, ◌≤◌, Bool, true, false, cond, List, [], ◌∷◌, length, take, drop, Option, Some, None, refl, sym, nat_lt, arith, nat_eq, suc}
use Rattle.std.specs.List.{position, position_or_len, onto_first, sum_by}
use Rattle.std.specs.Option.{MatchOption}
use Rattle.std.proofs.lemmas.Bool.Decides.{nat_tests}
use Rattle.std.proofs.lemmas.List.Quantifiers.{position-Some}
use Rattle.std.proofs.lemmas.List.Sums.{sum_by-cons, position_or_len_is, fails_before_first}
use Rattle.std.proofs.lemmas.List.Splits.{slice_split_none, slice_split_first}
use Rattle.std.proofs.lemmas.List.Elements.{All-from_get_or}
use Rattle.tl_path.specs.Components.{components}

abbrev pub slash : ℕ → Bool
slash b = nat_eq b 47

pub cut_some : (text : List ℕ) (end : ℕ) → position slash text ≡ Some end → components text ≡ take end text ∷ components (drop (end + 1) text)
cut_some text end is =
    let at = position-Some slash text end 0 is in
    let len : position_or_len slash text ≡ end = position_or_len_is slash text end 0 (omega (arith, at.0)) at.2 (λ _. at.1) in
    rw len at (slice_split_first slash text 0 (omega (arith, at.0, len)))

past_end : (n m : ℕ) → cond (nat_lt n m) (Some n) None ≡ None → m ≤ n
past_end n m is = grind (arith, nat_tests)

pub cut_none : (text : List ℕ) → position slash text ≡ None → components text ≡ text ∷ []
cut_none text is =
    let past : length text ≤ position_or_len slash text = past_end _ _ is in
    slice_split_none slash text (All-from_get_or (λ x. slash x ≡ false) text 0 (λ i h. fails_before_first slash text i 0 (omega arith)))

pub cut : (text : List ℕ) (r : Option ℕ) → r ≡ position slash text → MatchOption r (components text ≡ text ∷ [])
    (λ end. (end < length text) × (components text ≡ take end text ∷ components (drop (end + 1) text)))
cut text None is = cut_none text (sym is)
cut text (Some end) is = ((position-Some slash text end 0 (sym is)).0, cut_some text end (sym is))

abbrev pub lengths : List (List ℕ) → ℕ
lengths cs = sum_by (λ c. length c + 1) cs

lengths-onto_first : (b : ℕ) (cs : List (List ℕ)) → 0 < lengths cs → lengths (onto_first b cs) ≡ lengths cs + 1
lengths-onto_first b [] h = absurd (omega (arith, h))
lengths-onto_first b (c ∷ cs) h = omega (arith, sum_by-cons (λ d. length d + 1) c cs, sum_by-cons (λ d. length d + 1) (b ∷ c) cs)

lengths_more : (s : Bool) (b n : ℕ) (cs : List (List ℕ)) → lengths cs ≡ n + 1 → lengths (cond s ([] ∷ cs) (onto_first b cs)) ≡ suc n + 1
lengths_more true b n cs h = omega (arith, h, sum_by-cons (λ d. length d + 1) [] cs)
lengths_more false b n cs h = omega (arith, h, lengths-onto_first b cs (omega (arith, h)))

-- the lengths of the components, with a '/' after each
pub lengths-components : (text : List ℕ) → lengths (components text) ≡ length text + 1
lengths-components [] = refl
lengths-components (b ∷ text) = lengths_more (slash b) b (length text) (components text) (lengths-components text)
