-- The walk over a glob and a text that goes back to the last `*` alone.
use Rattle.std.proofs.Common.{◌≡◌, ℕ, ◌≤◌, ◌==◌, ◌||◌, ◌&&◌, Bool, true, false, cond, List, [], ◌∷◌, length, refl, sym, subst, ◌∙◌, ap, inl, inr, arith}
use Rattle.std.specs.List.{list_all, list_any}
use Rattle.std.proofs.lemmas.Bool.{cases_Bool, false≢true, and_parts, or_cases, or_left, or_right, ne_eqb}
use Rattle.tl_glob.specs.Matches.{takes, ends, is_match}

-- the ends of a text without the text itself
abbrev pub later : List ℕ → List (List ℕ)
later [] = []
later (b ∷ text) = ends text

-- a text is the first of its ends
any-ends : (test : List ℕ → Bool) (text : List ℕ) → list_any test (ends text) ≡ (test text || list_any test (later text))
any-ends test [] = refl
any-ends test (b ∷ text) = refl

from_later : (test : List ℕ → Bool) (text : List ℕ) → list_any test (later text) ≡ true → list_any test (ends text) ≡ true
from_later test text is = any-ends test text ∙ or_right (test text) _ is

-- where a part and what is behind it stand for some end, what is behind it stands for a later one
behind_part : (part : ℕ) (glob text : List ℕ) → (part == 42) ≡ false → list_any (is_match (part ∷ glob)) (ends text) ≡ true → list_any (is_match glob) (later text) ≡ true
behind_part part glob [] no_star is = absurd (false≢true (sym (ap (λ t. cond t (list_any (is_match glob) (ends [])) false || false) no_star) ∙ is))
behind_part part glob (byte ∷ text) no_star is = elim (or_cases _ _ is) [
  | inl here ↦
      let taken : (takes part byte && is_match glob text) ≡ true =
      sym (ap (λ t. cond t (list_any (is_match glob) (ends (byte ∷ text))) (takes part byte && is_match glob text)) no_star) ∙ here in
      any-ends (is_match glob) text ∙ or_left (is_match glob text) (list_any (is_match glob) (later text)) (and_parts (takes part byte) (is_match glob text) taken).1
  | inr far ↦ from_later (is_match glob) text (behind_part part glob text no_star far)
]

-- two `*` stand for no more than one
behind_star : (glob text : List ℕ) → list_any (is_match (42 ∷ glob)) (ends text) ≡ true → list_any (is_match glob) (ends text) ≡ true
behind_star glob [] is = elim (or_cases _ _ is) [ inl here ↦ here | inr none ↦ absurd (false≢true none) ]
behind_star glob (byte ∷ text) is = elim (or_cases _ _ is) [
  | inl here ↦ here
  | inr far ↦ or_right _ _ (behind_star glob text far)
]

absorbed : (a b : Bool) → (b ≡ true → a ≡ true) → (a || b) ≡ a
absorbed true b gives = refl
absorbed false true gives = sym (gives refl)
absorbed false false gives = refl

-- what is left to try: the parts behind the last `*` begin with `first`, which was tried at `from` last
pub record IsLeft (first from parts left : List ℕ) (whole : Bool) : Type 0 where
  pub answer : whole ≡ (is_match parts left || list_any (is_match first) (later from))
  pub covered : list_any (is_match first) (later from) ≡ true → list_any (is_match parts) (ends left) ≡ true
  pub order : length left ≤ length from

pub begun : (glob text : List ℕ) → IsLeft glob text glob text (list_any (is_match glob) (ends text))
begun glob text = record { answer = any-ends (is_match glob) text; covered = from_later (is_match glob) text; order = omega arith }

on_star : (first from behind left : List ℕ) (whole : Bool) → IsLeft first from (42 ∷ behind) left whole → IsLeft behind left behind left whole
on_star first from behind left whole here = record {
  answer = here.answer ∙ absorbed _ _ (λ is. behind_star behind left (here.covered is)) ∙ any-ends (is_match behind) left;
  covered = from_later (is_match behind) left;
  order = omega arith;
}

-- a `*` begins the parts behind the last one
pub star : (first from parts left behind : List ℕ) (part : ℕ) (whole : Bool) → parts ≡ part ∷ behind → part ≡ 42 → IsLeft first from parts left whole → IsLeft behind left behind left whole
star first from parts left behind part whole is here_star here =
    on_star first from behind left whole (subst (λ (p : List ℕ). IsLeft first from p left whole) (is ∙ ap (λ b. b ∷ behind) here_star) here)

-- another part stands for the next byte
pub taken : (first from parts left behind rest : List ℕ) (part byte : ℕ) (whole : Bool) → parts ≡ part ∷ behind → left ≡ byte ∷ rest → (part ≡ 42 → ⊥)
    → takes part byte ≡ true → IsLeft first from parts left whole → IsLeft first from behind rest whole
taken first from parts left behind rest part byte whole is text other fits here = record {
  answer = here.answer ∙ ap (λ (p : List ℕ). is_match p left || tried) is ∙ ap (λ (t : List ℕ). is_match (part ∷ behind) t || tried) text
      ∙ ap (λ t. cond t (list_any (is_match behind) (ends (byte ∷ rest))) (takes part byte && is_match behind rest) || tried) no_star
      ∙ ap (λ t. (t && is_match behind rest) || tried) fits;
  covered = λ later. behind_part part behind (byte ∷ rest) no_star (subst (λ (t : List ℕ). list_any (is_match (part ∷ behind)) (ends t) ≡ true) text (subst (λ (p : List ℕ). list_any (is_match p) (ends left) ≡ true) is (here.covered later)));
  order = omega (arith, here.order, ap length text);
}
  where
    tried : Bool
    tried = list_any (is_match first) (later from)

    no_star : (part == 42) ≡ false
    no_star = ne_eqb part 42 other

is_match-nil : (glob : List ℕ) → is_match glob [] ≡ list_all (λ b. b == 42) glob
is_match-nil [] = refl
is_match-nil (part ∷ glob) = elim (cases_Bool (part == 42)) [
  | inl star ↦ rw star (or_false (is_match glob []) ∙ is_match-nil glob)
  | inr other ↦ rw other refl
]
  where
    or_false : (b : Bool) → (b || false) ≡ b
    or_false true = refl
    or_false false = refl

-- at the text's end only `*` may be left
pub ended : (first from parts left : List ℕ) (whole : Bool) → length left ≡ 0 → IsLeft first from parts left whole → list_all (λ b. b == 42) parts ≡ whole
ended first from parts [] whole none here =
    sym (here.answer ∙ absorbed _ _ (λ is. elim (or_cases _ _ (here.covered is)) [ inl now ↦ now | inr none_left ↦ absurd (false≢true none_left) ]) ∙ is_match-nil parts)
ended first from parts (byte ∷ left) whole none here = absurd (omega arith)
