-- The line that acknowledges a step is one acknowledged line.
use Rattle.std.proofs.Common.{◌≡◌, ◌<◌, ◌≤◌, ◌+◌, ◌-◌, ◌^◌, ◌==◌, ℕ, Bool, true, false, cond, not, List, [], ◌∷◌, ◌++◌, length, take, drop, refl, sym, ap, subst, ◌∙◌, arith, append_assoc, rules}
use Rattle.std.specs.Prelude.{nat_eq, codes, if◌then◌else◌, Result, Ok, Err, IfOk}
use Rattle.std.specs.List.{list_all, before_first, after_first, position_or_len, ends_with}
use Rattle.std.specs.Cmp.Lexicographic.{pointwise}
use Rattle.std.specs.Char.{is_ascii_digit}
use Rattle.std.proofs.lemmas.Bool.{and_parts, and_from, leb-true, ne_eqb}
use Rattle.std.proofs.lemmas.List.Folds.{list_all-append}
use Rattle.std.proofs.lemmas.List.{take_at, drop_at, append-nil, length-append}
use Rattle.std.proofs.lemmas.List.Elements.{All-nil, All-cons, All-append, All-head, All-tail}
use Rattle.tl_model.specs.Lines.{IsLine}
use Rattle.tl_model.specs.Decimal.{decimal_text, decimal_parts, is_decimal, IsDecimal-decimal_text}
use Rattle.tl_model.specs.Acks.{is_ack, acks, acks_after, open_line, IsLabel}
use Rattle.tl_command.specs.Labels.{step_label}

-- a line with its end, behind the front of it
line_acks : (front line : List ℕ) → IsLine line → acks_after front (line ++ 10 ∷ []) ≡ (if is_ack (front ++ line) then 1 else 0) + 0
line_acks front [] is = ap (λ (l : List ℕ). (if is_ack l then 1 else 0) + 0) (sym (append-nil front))
line_acks front (b ∷ line) is =
    ap (λ t. cond t ((if is_ack front then 1 else 0) + acks_after [] (line ++ 10 ∷ [])) (acks_after (front ++ b ∷ []) (line ++ 10 ∷ []))) (All-head (λ b. (b == 10) ≡ false) b line is)
    ∙ line_acks (front ++ b ∷ []) line (All-tail (λ b. (b == 10) ≡ false) b line is)
    ∙ ap (λ (l : List ℕ). (if is_ack l then 1 else 0) + 0) (append_assoc front (b ∷ []) line)

line_open : (front line : List ℕ) → IsLine line → open_line front (line ++ 10 ∷ []) ≡ []
line_open front [] is = refl
line_open front (b ∷ line) is =
    ap (λ t. cond t (open_line [] (line ++ 10 ∷ [])) (open_line (front ++ b ∷ []) (line ++ 10 ∷ []))) (All-head (λ b. (b == 10) ≡ false) b line is)
    ∙ line_open (front ++ b ∷ []) line (All-tail (λ b. (b == 10) ≡ false) b line is)

-- a line of the form of an acknowledgement, with its end
pub label-line : (line : List ℕ) → IsLine line → is_ack line ≡ true → IsLabel (line ++ 10 ∷ [])
unfolding acks
label-line line is ack = record {
  one = line_acks [] line is ∙ ap (λ t. cond t 1 0 + 0) ack;
  whole = line_open [] line is;
}

-- where a test finds its first byte
place_at : (p : ℕ → Bool) (xs : List ℕ) (y : ℕ) (ys : List ℕ) → list_all (λ b. not (p b)) xs ≡ true → p y ≡ true → position_or_len p (xs ++ y ∷ ys) ≡ length xs
place_at p [] y ys none is = ap (λ t. cond (not t) (1 + position_or_len p ys) 0) is
place_at p (x ∷ xs) y ys none is =
    let parts = and_parts (not (p x)) (list_all (λ b. not (p b)) xs) none in
    ap (λ t. cond t (1 + position_or_len p (xs ++ y ∷ ys)) 0) parts.0 ∙ omega (arith, place_at p xs y ys parts.1 is)

before_at : (p : ℕ → Bool) (xs : List ℕ) (y : ℕ) (ys : List ℕ) → list_all (λ b. not (p b)) xs ≡ true → p y ≡ true → before_first p (xs ++ y ∷ ys) ≡ xs
before_at p xs y ys none is = ap (λ n. take n (xs ++ y ∷ ys)) (place_at p xs y ys none is) ∙ take_at xs (y ∷ ys) (length xs) refl

after_at : (p : ℕ → Bool) (xs : List ℕ) (y : ℕ) (ys : List ℕ) → list_all (λ b. not (p b)) xs ≡ true → p y ≡ true → after_first p (xs ++ y ∷ ys) ≡ ys
after_at p xs y ys none is =
    ap (λ n. drop (n + 1) (xs ++ y ∷ ys)) (place_at p xs y ys none is)
    ∙ ap (λ (l : List ℕ). drop (length xs + 1) l) (sym (append_assoc xs (y ∷ []) ys))
    ∙ drop_at (xs ++ y ∷ []) ys (length xs + 1) (omega (arith, length-append xs (y ∷ [])))

digit_apart : (other b : ℕ) → other < 48 → is_ascii_digit b ≡ true → not (b == other) ≡ true
digit_apart other b below is =
    let from : 48 ≤ b = leb-true 48 b (and_parts _ _ is).0 in
    ap not (ne_eqb b other (λ e. absurd (omega (arith, from, e, below))))

digits_apart : (other : ℕ) (digits : List ℕ) → other < 48 → list_all is_ascii_digit digits ≡ true → list_all (λ b. not (b == other)) digits ≡ true
digits_apart other [] below are = refl
digits_apart other (b ∷ digits) below are =
    let parts = and_parts (is_ascii_digit b) (list_all is_ascii_digit digits) are in
    and_from _ _ (digit_apart other b below parts.0) (digits_apart other digits below parts.1)

not_back : (t : Bool) → not t ≡ true → t ≡ false
not_back true none = absurd (cc)
not_back false none = refl

line_of_digits : (digits : List ℕ) → list_all is_ascii_digit digits ≡ true → IsLine digits
line_of_digits [] are = All-nil (λ b. (b == 10) ≡ false)
line_of_digits (b ∷ digits) are =
    let parts = and_parts (is_ascii_digit b) (list_all is_ascii_digit digits) are in
    All-cons (λ b. (b == 10) ≡ false) b digits (not_back _ (digit_apart 10 b (omega arith) parts.0)) (line_of_digits digits parts.1)

ends_at : (what : List ℕ) → ends_with nat_eq (what ++ codes " done") (codes " done") ≡ true
ends_at what =
    ap (λ (l : List ℕ). pointwise nat_eq (codes " done") l)
    (ap (λ n. drop (n - 5) (what ++ codes " done")) (length-append what (codes " done")) ∙ ap (λ n. drop n (what ++ codes " done")) (omega arith) ∙ drop_at what (codes " done") (length what) refl)

module _ (step count : ℕ) (what : List ℕ) (step_small : step < 2 ^ 64) (count_small : count < 2 ^ 64) (is : IsLine what) where
  first_digits : list_all is_ascii_digit (decimal_text step) ≡ true
  first_digits = (decimal_parts (decimal_text step) (IsDecimal-decimal_text step step_small)).1

  second_digits : list_all is_ascii_digit (decimal_text count) ≡ true
  second_digits = (decimal_parts (decimal_text count) (IsDecimal-decimal_text count count_small)).1

  abbrev ratio : List ℕ
  ratio = decimal_text step ++ 47 ∷ decimal_text count

  abbrev words : List ℕ
  words = ratio ++ 32 ∷ (what ++ codes " done")

  ratio_full : list_all (λ b. not (b == 32)) (decimal_text step ++ 47 ∷ decimal_text count) ≡ true
  ratio_full = list_all-append (λ b. not (b == 32)) (decimal_text step) (47 ∷ decimal_text count)
      ∙ and_from _ _ (digits_apart 32 (decimal_text step) (omega arith) first_digits) (digits_apart 32 (decimal_text count) (omega arith) second_digits)

  ratio_is : before_first (λ b. b == 32) words ≡ ratio
  ratio_is = before_at (λ b. b == 32) ratio 32 (what ++ codes " done") ratio_full refl

  rest_is : after_first (λ b. b == 32) words ≡ what ++ codes " done"
  rest_is = after_at (λ b. b == 32) ratio 32 (what ++ codes " done") ratio_full refl

  left_is : before_first (λ b. b == 47) ratio ≡ decimal_text step
  left_is = before_at (λ b. b == 47) (decimal_text step) 47 (decimal_text count) (digits_apart 47 (decimal_text step) (omega arith) first_digits) refl

  right_is : after_first (λ b. b == 47) ratio ≡ decimal_text count
  right_is = after_at (λ b. b == 47) (decimal_text step) 47 (decimal_text count) (digits_apart 47 (decimal_text step) (omega arith) first_digits) refl

  is_acked : is_ack (codes "step " ++ words) ≡ true
  is_acked = and_from _ _ (ap is_decimal (ap (before_first (λ b. b == 47)) ratio_is ∙ left_is) ∙ IsDecimal-decimal_text step step_small)
      (and_from _ _ (ap is_decimal (ap (after_first (λ b. b == 47)) ratio_is ∙ right_is) ∙ IsDecimal-decimal_text count count_small)
      (ap (λ (l : List ℕ). ends_with nat_eq l (codes " done")) rest_is ∙ ends_at what))

  is_line : IsLine (codes "step " ++ words)
  is_line = All-append (λ b. (b == 10) ≡ false) (codes "step ") words (search rules)
      (All-append (λ b. (b == 10) ≡ false) ratio (32 ∷ (what ++ codes " done"))
      (All-append (λ b. (b == 10) ≡ false) (decimal_text step) (47 ∷ decimal_text count) (line_of_digits (decimal_text step) first_digits)
      (All-cons (λ b. (b == 10) ≡ false) 47 (decimal_text count) refl (line_of_digits (decimal_text count) second_digits)))
      (All-cons (λ b. (b == 10) ≡ false) 32 (what ++ codes " done") refl (All-append (λ b. (b == 10) ≡ false) what (codes " done") is (search rules))))

  -- the line of a step that says what it did
  pub label-step : IsLabel (step_label step count what)
  label-step = subst (λ (l : List ℕ). IsLabel l) joined (label-line (codes "step " ++ words) is_line is_acked)
    where
      joined : (codes "step " ++ words) ++ 10 ∷ [] ≡ step_label step count what
      joined = simp append_assoc

-- what follows from what holds of an answer
pub ok_weaker : {T E : Type 0} (r : Result T E) (P Q : T → Type 0) → ((t : T) → P t → Q t) → IfOk r P → IfOk r Q
ok_weaker (Ok t) P Q weaker is = weaker t is
ok_weaker (Err e) P Q weaker is = tt
