-- The lines of a text, read as pins one after the other.
use Rattle.std.proofs.Common.{◌≡◌, ℕ, ◌+◌, ◌<◌, ◌≤◌, ◌==◌, Bool, true, false, cond, List, [], ◌∷◌, ◌++◌, length, get_or, take, map, Option, Some, None, refl, sym, ap, subst, ◌∙◌, inl, inr, arith, ltb}
use Rattle.std.specs.Prelude.{filter, not, position, is_none, option_map}
use Rattle.std.specs.List.{position_or_len, onto_first}
use Rattle.std.proofs.lemmas.Bool.{cases_Bool, and_left, and_right, and_from, lt-ltb, cases_lt}
use Rattle.std.proofs.lemmas.List.{take_all, length-map, get_or-map, map-append, append-nil}
use Rattle.std.proofs.lemmas.List.Elements.{filter_more}
use Rattle.std.proofs.lemmas.List.Sums.{position_or_len_is}
use Rattle.tl_model.specs.Lines.{lines}
use Rattle.tl_text.specs.declared.span.Span.{Span}
use Rattle.tl_text.specs.Spans.{stretch, stretches}
use Rattle.tl_pin.specs.declared.line.PinLine.{PinLine}
use Rattle.tl_pin.specs.Reading.{pin_of, is_passed_over, is_bad_line, ReadsPins}

abbrev kept : List ℕ → Bool
kept line = not (is_passed_over line)

length-onto_first-le : (b n : ℕ) (some : List (List ℕ)) → length some ≤ n → length (onto_first b some) ≤ n + 1
length-onto_first-le b n [] le = omega arith
length-onto_first-le b n (line ∷ some) le = omega (arith, le)

-- a text has no more lines than bytes
length-lines-le : (text : List ℕ) → length (lines text) ≤ length text
length-lines-le [] = omega arith
length-lines-le (b ∷ text) = elim (cases_Bool (b == 10)) [
  | inl end ↦ rw end (omega (arith, length-lines-le text))
  | inr other ↦ rw other (omega (arith, length-onto_first-le b (length text) (lines text) (length-lines-le text)))
]

-- the pins so far: those of the first lines
pub record ReadSoFar (text : List ℕ) (pins : List PinLine) (i : ℕ) : Type 0 where
  pub read : map pin_of (filter kept (take i (lines text))) ≡ map (λ pin. Some pin) pins
  pub good : (k : ℕ) → k < i → is_bad_line (get_or (lines text) k []) ≡ false

pub none_read : (text : List ℕ) → ReadSoFar text [] 0
none_read text = record { read = refl; good = λ k lt. absurd (omega arith) }

-- the line that a span stands for
pub record IsLineAt (text line : List ℕ) (i : ℕ) : Type 0 where
  pub within : i < length (lines text)
  pub at : line ≡ get_or (lines text) i []
  pub small : i < length text

pub line_at : (text line : List ℕ) (spans : List Span) (i : ℕ) (d : Span) → stretches text spans ≡ lines text → i < length spans → line ≡ stretch text (get_or spans i d) → IsLineAt text line i
line_at text line spans i d are lt is =
    let within : i < length (lines text) = omega (arith, ap length are, length-map spans (stretch text), lt) in
    record {
      within = within;
      at = is ∙ sym (get_or-map (stretch text) spans i d [] lt) ∙ ap (λ (ls : List (List ℕ)). get_or ls i []) are;
      small = omega (arith, within, length-lines-le text);
    }

kept_more : (text line : List ℕ) (i : ℕ) → IsLineAt text line i → filter kept (take (i + 1) (lines text)) ≡ filter kept (take i (lines text)) ++ cond (kept line) (line ∷ []) []
kept_more text line i here =
    filter_more kept (lines text) i [] here.within
    ∙ ap (λ (l : List ℕ). filter kept (take i (lines text)) ++ cond (kept l) (l ∷ []) []) (sym here.at)

good_more : (text line : List ℕ) (i : ℕ) → IsLineAt text line i → is_bad_line line ≡ false → ((k : ℕ) → k < i → is_bad_line (get_or (lines text) k []) ≡ false)
    → (k : ℕ) → k < i + 1 → is_bad_line (get_or (lines text) k []) ≡ false
good_more text line i here good so_far k lt = elim (cases_lt k i) [
  | inl before ↦ so_far k before
  | inr last ↦ let same : i ≡ k = omega (arith, last, lt) in subst (λ n. is_bad_line (get_or (lines text) n []) ≡ false) same (ap is_bad_line (sym here.at) ∙ good)
]

-- a line that is passed over
pub passed : (text line : List ℕ) (pins : List PinLine) (i : ℕ) → IsLineAt text line i → is_passed_over line ≡ true → ReadSoFar text pins i → ReadSoFar text pins (i + 1)
passed text line pins i here over so_far = record {
  read = ap (map pin_of) (kept_more text line i here ∙ ap (λ t. filter kept (take i (lines text)) ++ cond (not t) (line ∷ []) []) over ∙ append-nil _) ∙ so_far.read;
  good = good_more text line i here (and_left (kept line) _ (ap not over)) so_far.good;
}

-- a line that has a pin
pub read_more : (text line : List ℕ) (pins : List PinLine) (pin : PinLine) (i : ℕ) → IsLineAt text line i → is_passed_over line ≡ false → pin_of line ≡ Some pin
    → ReadSoFar text pins i → ReadSoFar text (pins ++ pin ∷ []) (i + 1)
read_more text line pins pin i here stays is so_far = record {
  read = ap (map pin_of) (kept_more text line i here ∙ ap (λ t. filter kept (take i (lines text)) ++ cond (not t) (line ∷ []) []) stays)
      ∙ map-append pin_of (filter kept (take i (lines text))) (line ∷ [])
      ∙ ap (λ (os : List (Option PinLine)). os ++ pin_of line ∷ []) so_far.read
      ∙ ap (λ (o : Option PinLine). map (λ pin. Some pin) pins ++ o ∷ []) is
      ∙ sym (map-append (λ (p : PinLine). Some p) pins (pin ∷ []));
  good = good_more text line i here (and_right (kept line) _ (ap is_none is)) so_far.good;
}

-- the first line that can't stand there
pub first_bad : (text line : List ℕ) (pins : List PinLine) (i : ℕ) → IsLineAt text line i → is_passed_over line ≡ false → pin_of line ≡ None → ReadSoFar text pins i
    → option_map (λ before. before + 1) (position is_bad_line (lines text)) ≡ Some (i + 1)
first_bad text line pins i here stays none so_far =
    let bad : is_bad_line (get_or (lines text) i []) ≡ true = ap is_bad_line (sym here.at) ∙ and_from _ _ (ap not stays) (ap is_none none) in
    let at : position_or_len is_bad_line (lines text) ≡ i = position_or_len_is is_bad_line (lines text) i [] (omega (arith, here.within)) so_far.good (λ _. bad) in
    ap (λ n. option_map (λ before. before + 1) (cond (ltb n (length (lines text))) (Some n) None)) at
    ∙ ap (λ t. option_map (λ before. before + 1) (cond t (Some i) None)) (lt-ltb i (length (lines text)) here.within)

-- all lines are read
pub all_read : (text : List ℕ) (pins : List PinLine) (spans : List Span) (i : ℕ) → stretches text spans ≡ lines text → length spans ≤ i → ReadSoFar text pins i → ReadsPins text pins
all_read text pins spans i are all so_far =
    ap (λ (ls : List (List ℕ)). map pin_of (filter kept ls)) (sym (take_all i (lines text) (omega (arith, ap length are, length-map spans (stretch text), all)))) ∙ so_far.read
