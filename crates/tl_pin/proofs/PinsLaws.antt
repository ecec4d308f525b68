-- What a text reads as, as a function of it.
use Rattle.std.proofs.Common.{◌≡◌, ◌⊎◌, ℕ, zero, suc, ◌+◌, ◌<◌, ◌&&◌, Bool, true, false, cond, List, [], ◌∷◌, length, get_or, map, Option, Some, None, Ok, Err, refl, sym, ap, ◌∙◌, inl, inr, nat_lt, arith}
use Rattle.std.specs.Prelude.{filter, not, position, is_none, option_map}
use Rattle.std.specs.List.{filter_map, cons_option, position_or_len}
use Rattle.std.proofs.lemmas.Bool.{cases_Bool}
use Rattle.std.proofs.lemmas.Bool.Decides.{nat_tests}
use Rattle.std.proofs.lemmas.List.Sums.{position_or_len_is}
use Rattle.tl_model.specs.Lines.{lines}
use Rattle.tl_pin.specs.declared.line.PinLine.{PinLine}
use Rattle.tl_pin.specs.Reading.{pin_of, is_passed_over, is_bad_line, ReadsPins, unless_bad, pins_of}

abbrev kept : List ℕ → Bool
kept line = not (is_passed_over line)

-- lines that have these pins
record HavePins (ls : List (List ℕ)) (pins : List PinLine) : Type 0 where
  found : filter_map pin_of (filter kept ls) ≡ pins
  good : (k : ℕ) → k < length ls → is_bad_line (get_or ls k []) ≡ false

good_first : (line : List ℕ) (ls : List (List ℕ)) → is_bad_line line ≡ false → ((k : ℕ) → k < length ls → is_bad_line (get_or ls k []) ≡ false)
    → (k : ℕ) → k < length (line ∷ ls) → is_bad_line (get_or (line ∷ ls) k []) ≡ false
good_first line ls here later zero lt = here
good_first line ls here later (suc k) lt = later k (omega arith)

absent : (ls : List (List ℕ)) (line : List ℕ) (t : Bool) (pins : List PinLine) → kept line ≡ t → map pin_of (filter kept (line ∷ ls)) ≡ map (λ pin. Some pin) pins
    → map pin_of (cond t (line ∷ filter kept ls) (filter kept ls)) ≡ map (λ pin. Some pin) pins
absent ls line t pins e is = ap (λ b. map pin_of (cond b (line ∷ filter kept ls) (filter kept ls))) (sym e) ∙ is

first_has : (ls : List (List ℕ)) (line : List ℕ) (pins : List PinLine) → kept line ≡ true → pin_of line ∷ map pin_of (filter kept ls) ≡ map (λ pin. Some pin) pins
    → ((pins : List PinLine) → map pin_of (filter kept ls) ≡ map (λ pin. Some pin) pins → HavePins ls pins) → HavePins (line ∷ ls) pins
first_has ls line [] e same later = absurd (cc)
first_has ls line (pin ∷ pins) e same later =
    let here : pin_of line ≡ Some pin = cc in
    let more = later pins (cc) in
    record {
      found = ap (λ t. filter_map pin_of (cond t (line ∷ filter kept ls) (filter kept ls))) e ∙ ap (λ (o : Option PinLine). cons_option o (filter_map pin_of (filter kept ls))) here
          ∙ ap (λ (ps : List PinLine). pin ∷ ps) more.found;
      good = good_first line ls (ap (λ t. t && is_none (pin_of line)) e ∙ ap is_none here) more.good;
    }

have_pins : (ls : List (List ℕ)) (pins : List PinLine) → map pin_of (filter kept ls) ≡ map (λ pin. Some pin) pins → HavePins ls pins
have_pins [] [] is = record { found = refl; good = λ k lt. absurd (omega arith) }
have_pins [] (pin ∷ pins) is = absurd (cc)
have_pins (line ∷ ls) pins is = by (cases_Bool (kept line)) (λ ps same. have_pins ls ps same)
  where
    by : (kept line ≡ true) ⊎ (kept line ≡ false) → ((ps : List PinLine) → map pin_of (filter kept ls) ≡ map (λ pin. Some pin) ps → HavePins ls ps) → HavePins (line ∷ ls) pins
    by (inl e) later = first_has ls line pins e (absent ls line true pins e is) later
    by (inr e) later =
        let more = later pins (absent ls line false pins e is) in
        record {
          found = ap (λ t. filter_map pin_of (cond t (line ∷ filter kept ls) (filter kept ls))) e ∙ more.found;
          good = good_first line ls (ap (λ t. t && is_none (pin_of line)) e) more.good;
        }

none_below : (n : ℕ) → nat_lt n n ≡ false
none_below n = grind (arith, nat_tests)

-- a text that reads as pins
pub pins_read : (text : List ℕ) (pins : List PinLine) → ReadsPins text pins → pins_of text ≡ Ok pins
pins_read text pins reads =
    let ls = lines text in
    let have = have_pins ls pins reads in
    let past : position_or_len is_bad_line ls ≡ length ls = position_or_len_is is_bad_line ls (length ls) [] (omega arith) have.good (λ lt. absurd (omega (arith, lt))) in
    let none : position is_bad_line ls ≡ None =
    ap (λ n. cond (nat_lt n (length ls)) (Some n) None) past ∙ ap (λ t. cond t (Some (length ls)) None) (none_below (length ls)) in
    ap (λ (o : Option ℕ). unless_bad o (filter_map pin_of (filter kept ls))) none ∙ ap Ok have.found

-- a text that doesn't
pub pins_refused : (text : List ℕ) (line : ℕ) → option_map (λ before. before + 1) (position is_bad_line (lines text)) ≡ Some line → pins_of text ≡ Err line
pins_refused text line is = by (position is_bad_line (lines text)) is
  where
    by : (found : Option ℕ) → option_map (λ before. before + 1) found ≡ Some line → unless_bad found (filter_map pin_of (filter kept (lines text))) ≡ Err line
    by None e = absurd (cc)
    by (Some before) e = cc
