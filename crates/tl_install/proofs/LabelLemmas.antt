-- What the steps of a plan are called is one line, and the line that acknowledges one is an acknowledged line, whatever its number.
use Rattle.std.proofs.Common.{◌≡◌, ◌<◌, ◌≤◌, ◌+◌, ◌-◌, ◌/◌, ◌%◌, ◌==◌, ℕ, zero, suc, Bool, true, false, cond, not, nat_lt, List, [], ◌∷◌, ◌++◌, length, take, drop, get_or, Option, Some, None, refl, sym, ap, subst, ◌∙◌, arith, append_assoc}
use Rattle.std.specs.Prelude.{nat_eq, codes}
use Rattle.std.specs.Char.{is_ascii_digit}
use Rattle.std.specs.Cmp.Lexicographic.{pointwise}
use Rattle.std.specs.Fmt.{digit_glyph, digits, digits_onto}
use Rattle.std.specs.List.{flat_map, list_all, AllByRecursion, before_first, after_first, position_or_len, ends_with}
use Rattle.std.proofs.lemmas.Bool.{and_parts, and_from, leb-true, lt-ltb, ne_eqb}
use Rattle.std.proofs.lemmas.List.{take_at, drop_at, length-append, take_more, flat_map_more}
use Rattle.std.proofs.lemmas.List.Elements.{All-nil, All-cons}
use Rattle.std.proofs.lemmas.List.Folds.{list_all-append}
use Rattle.tl_model.specs.Acks.{is_ack, IsLabel}
use Rattle.tl_model.specs.Decimal.{decimal_text, is_decimal}
use Rattle.tl_model.specs.Lines.{IsLine}
use Rattle.tl_path.specs.Names.{is_name}
use Rattle.tl_entry.specs.declared.object.Object.{Object}
use Rattle.tl_object.proofs.PlainLemmas.{line_append, line_tested}
use Rattle.tl_db.specs.declared.repo.Repo.{Repo}
use Rattle.tl_coming.specs.Parts.{part_entry, part_name}
use Rattle.tl_coming.specs.declared.part.PlanPart.{PlanPart}
use Rattle.tl_coming.specs.declared.part.PlanPart.TheVariants.{Install, Update, Remove}
use Rattle.tl_command.specs.Labels.{step_label}
use Rattle.tl_command.proofs.LabelLaws.{label-line}
use Rattle.tl_refusal.proofs.Plain.{line_of_name}
use Rattle.tl_install.specs.Labels.{coming_text, coming_texts, revision_text, verb_of}

-- ---- the digits of any number

digit_of : (d : ℕ) → d < 10 → is_ascii_digit (digit_glyph false d) ≡ true
digit_of d below = grind arith

remainder_below : (n : ℕ) → n % 10 < 10
remainder_below n = omega arith

all_onto : (k n : ℕ) (behind : List ℕ) → list_all is_ascii_digit behind ≡ true → list_all is_ascii_digit (digits_onto k 10 false n behind) ≡ true
all_onto zero n behind are = are
all_onto (suc k) n behind are =
    let more : list_all is_ascii_digit (digit_glyph false (n % 10) ∷ behind) ≡ true = and_from _ _ (digit_of (n % 10) (remainder_below n)) are in
    by (n / 10 == 0) more (all_onto k (n / 10) (digit_glyph false (n % 10) ∷ behind) more)
  where
    by : (b : Bool) → list_all is_ascii_digit (digit_glyph false (n % 10) ∷ behind) ≡ true → list_all is_ascii_digit (digits_onto k 10 false (n / 10) (digit_glyph false (n % 10) ∷ behind)) ≡ true
        → list_all is_ascii_digit (cond b (digit_glyph false (n % 10) ∷ behind) (digits_onto k 10 false (n / 10) (digit_glyph false (n % 10) ∷ behind))) ≡ true
    by true more rest = more
    by false more rest = rest

some_onto : (k n : ℕ) (behind : List ℕ) → nat_lt 0 (length behind) ≡ true → nat_lt 0 (length (digits_onto k 10 false n behind)) ≡ true
some_onto zero n behind some = some
some_onto (suc k) n behind some = by (n / 10 == 0) (some_onto k (n / 10) (digit_glyph false (n % 10) ∷ behind) (longer (digit_glyph false (n % 10)) behind))
  where
    longer : (d : ℕ) (ds : List ℕ) → nat_lt 0 (length (d ∷ ds)) ≡ true
    longer d ds = lt-ltb 0 (length (d ∷ ds)) (omega arith)

    by : (b : Bool) → nat_lt 0 (length (digits_onto k 10 false (n / 10) (digit_glyph false (n % 10) ∷ behind))) ≡ true
        → nat_lt 0 (length (cond b (digit_glyph false (n % 10) ∷ behind) (digits_onto k 10 false (n / 10) (digit_glyph false (n % 10) ∷ behind)))) ≡ true
    by true rest = longer (digit_glyph false (n % 10)) behind
    by false rest = rest

some_digits : (n : ℕ) → nat_lt 0 (length (decimal_text n)) ≡ true
unfolding digits
some_digits n = by (n / 10 == 0) (some_onto 63 (n / 10) (digit_glyph false (n % 10) ∷ []) (lt-ltb 0 1 (omega arith)))
  where
    by : (b : Bool) → nat_lt 0 (length (digits_onto 63 10 false (n / 10) (digit_glyph false (n % 10) ∷ []))) ≡ true
        → nat_lt 0 (length (cond b (digit_glyph false (n % 10) ∷ []) (digits_onto 63 10 false (n / 10) (digit_glyph false (n % 10) ∷ [])))) ≡ true
    by true rest = lt-ltb 0 1 (omega arith)
    by false rest = rest

all_digits : (n : ℕ) → list_all is_ascii_digit (decimal_text n) ≡ true
unfolding digits
all_digits n = all_onto 64 n [] refl

decimal-any : (n : ℕ) → is_decimal (decimal_text n) ≡ true
decimal-any n = and_from _ _ (some_digits n) (all_digits n)

-- ---- the line that acknowledges a step

-- where a test finds its first byte
place_at : (p : ℕ → Bool) (xs : List ℕ) (y : ℕ) (ys : List ℕ) → list_all (λ b. not (p b)) xs ≡ true → p y ≡ true → position_or_len p (xs ++ y ∷ ys) ≡ length xs
place_at p [] y ys none is = ap (λ t. cond (not t) (1 + position_or_len p ys) 0) is
place_at p (x ∷ xs) y ys none is =
    let parts = and_parts (not (p x)) (list_all (λ b. not (p b)) xs) none in
    ap (λ t. cond t (1 + position_or_len p (xs ++ y ∷ ys)) 0) parts.0 ∙ omega (arith, place_at p xs y ys parts.1 is)

before_at : (p : ℕ → Bool) (xs : List ℕ) (y : ℕ) (ys : List ℕ) → list_all (λ b. not (p b)) xs ≡ true → p y ≡ true → before_first p (xs ++ y ∷ ys) ≡ xs
before_at p xs y ys none is = ap (λ n. take n (xs ++ y ∷ ys)) (place_at p xs y ys none is) ∙ take_at xs (y ∷ ys) (length xs) refl

after_at : (p : ℕ → Bool) (xs : List ℕ) (y : ℕ) (ys : List ℕ) → list_all (λ b. not (p b)) xs ≡ true → p y ≡ true → after_first p (xs ++ y ∷ ys) ≡ ys
after_at p xs y ys none is =
    ap (λ n. drop (n + 1) (xs ++ y ∷ ys)) (place_at p xs y ys none is)
    ∙ ap (λ (l : List ℕ). drop (length xs + 1) l) (sym (append_assoc xs (y ∷ []) ys))
    ∙ drop_at (xs ++ y ∷ []) ys (length xs + 1) (omega (arith, length-append xs (y ∷ [])))

digit_apart : (other b : ℕ) → other < 48 → is_ascii_digit b ≡ true → not (b == other) ≡ true
digit_apart other b below is =
    let from : 48 ≤ b = leb-true 48 b (and_parts _ _ is).0 in
    ap not (ne_eqb b other (λ e. absurd (omega (arith, from, e, below))))

digits_apart : (other : ℕ) (some : List ℕ) → other < 48 → list_all is_ascii_digit some ≡ true → list_all (λ b. not (b == other)) some ≡ true
digits_apart other [] below are = refl
digits_apart other (b ∷ some) below are =
    let parts = and_parts (is_ascii_digit b) (list_all is_ascii_digit some) are in
    and_from _ _ (digit_apart other b below parts.0) (digits_apart other some below parts.1)

not_back : (t : Bool) → not t ≡ true → t ≡ false
not_back true none = absurd (cc)
not_back false none = refl

line_of_digits : (some : List ℕ) → list_all is_ascii_digit some ≡ true → IsLine some
line_of_digits [] are = All-nil (λ b. (b == 10) ≡ false)
line_of_digits (b ∷ some) are =
    let parts = and_parts (is_ascii_digit b) (list_all is_ascii_digit some) are in
    All-cons (λ b. (b == 10) ≡ false) b some (not_back _ (digit_apart 10 b (omega arith) parts.0)) (line_of_digits some parts.1)

-- the digits of a number are one line
pub line_of_decimal : (n : ℕ) → IsLine (decimal_text n)
line_of_decimal n = line_of_digits (decimal_text n) (all_digits n)

ends_at : (what : List ℕ) → ends_with nat_eq (what ++ codes " done") (codes " done") ≡ true
ends_at what =
    ap (λ (l : List ℕ). pointwise nat_eq (codes " done") l)
    (ap (λ n. drop (n - 5) (what ++ codes " done")) (length-append what (codes " done")) ∙ ap (λ n. drop n (what ++ codes " done")) (omega arith) ∙ drop_at what (codes " done") (length what) refl)

module _ (step count : ℕ) (what : List ℕ) (is : IsLine what) where
  abbrev ratio : List ℕ
  ratio = decimal_text step ++ 47 ∷ decimal_text count

  abbrev words : List ℕ
  words = ratio ++ 32 ∷ (what ++ codes " done")

  ratio_full : list_all (λ b. not (b == 32)) ratio ≡ true
  ratio_full = list_all-append (λ b. not (b == 32)) (decimal_text step) (47 ∷ decimal_text count)
      ∙ and_from _ _ (digits_apart 32 (decimal_text step) (omega arith) (all_digits step)) (digits_apart 32 (decimal_text count) (omega arith) (all_digits count))

  ratio_is : before_first (λ b. b == 32) words ≡ ratio
  ratio_is = before_at (λ b. b == 32) ratio 32 (what ++ codes " done") ratio_full refl

  rest_is : after_first (λ b. b == 32) words ≡ what ++ codes " done"
  rest_is = after_at (λ b. b == 32) ratio 32 (what ++ codes " done") ratio_full refl

  left_is : before_first (λ b. b == 47) ratio ≡ decimal_text step
  left_is = before_at (λ b. b == 47) (decimal_text step) 47 (decimal_text count) (digits_apart 47 (decimal_text step) (omega arith) (all_digits step)) refl

  right_is : after_first (λ b. b == 47) ratio ≡ decimal_text count
  right_is = after_at (λ b. b == 47) (decimal_text step) 47 (decimal_text count) (digits_apart 47 (decimal_text step) (omega arith) (all_digits step)) refl

  is_acked : is_ack (codes "step " ++ words) ≡ true
  is_acked = and_from _ _ (ap is_decimal (ap (before_first (λ b. b == 47)) ratio_is ∙ left_is) ∙ decimal-any step)
      (and_from _ _ (ap is_decimal (ap (after_first (λ b. b == 47)) ratio_is ∙ right_is) ∙ decimal-any count)
      (ap (λ (l : List ℕ). ends_with nat_eq l (codes " done")) rest_is ∙ ends_at what))

  is_line : IsLine (codes "step " ++ words)
  is_line = line_append (codes "step ") words (line_tested (codes "step ") refl)
      (line_append ratio (32 ∷ (what ++ codes " done"))
      (line_append (decimal_text step) (47 ∷ decimal_text count) (line_of_decimal step)
      (All-cons (λ b. (b == 10) ≡ false) 47 (decimal_text count) refl (line_of_decimal count)))
      (All-cons (λ b. (b == 10) ≡ false) 32 (what ++ codes " done") refl (line_append what (codes " done") is (line_tested (codes " done") refl))))

  -- the line of a step that says what it did, whatever its number
  pub label-any : IsLabel (step_label step count what)
  label-any = subst (λ (l : List ℕ). IsLabel l) joined (label-line (codes "step " ++ words) is_line is_acked)
    where
      joined : (codes "step " ++ words) ++ 10 ∷ [] ≡ step_label step count what
      joined = simp append_assoc

-- ---- what the parts of a plan are called

line_of_revision : (found : Option Object) → IsLine (revision_text found)
line_of_revision None = All-nil (λ b. (b == 10) ≡ false)
line_of_revision (Some entry) = line_append (codes " r") (decimal_text entry.revision) (line_tested (codes " r") refl) (line_of_decimal entry.revision)

line_of_verb : (part : PlanPart) → IsLine (verb_of part)
line_of_verb (Install name repo) = line_tested (codes "install") refl
line_of_verb (Update name repo) = line_tested (codes "update") refl
line_of_verb (Remove name) = line_tested (codes "remove") refl

-- what a part of a plan is called is one line where its name is
pub line_of_part : (repos : List Repo) (part : PlanPart) → IsLine (part_name part) → IsLine (coming_text repos part)
line_of_part repos part is =
    line_append (verb_of part) (codes " " ++ (part_name part ++ revision_text (part_entry repos part))) (line_of_verb part)
    (line_append (codes " ") (part_name part ++ revision_text (part_entry repos part)) (line_tested (codes " ") refl)
    (line_append (part_name part) (revision_text (part_entry repos part)) is (line_of_revision (part_entry repos part))))

-- the same of a name that reads
pub line_of_coming : (repos : List Repo) (part : PlanPart) (name : List ℕ) → name ≡ part_name part → is_name name ≡ true → IsLine (coming_text repos part)
line_of_coming repos part name same is = line_of_part repos part (subst IsLine same (line_of_name name is))

-- what further parts of a plan are called, with one more
pub more_said : (repos : List Repo) (start before mid after next : List ℕ) (more : List PlanPart) (i : ℕ) (part : PlanPart) → i < length more → part ≡ get_or more i part
    → before ≡ start ++ flat_map (λ p. codes ", " ++ coming_text repos p) (take i more) → next ≡ coming_text repos part → mid ≡ before ++ codes ", " → after ≡ mid ++ next
    → after ≡ start ++ flat_map (λ p. codes ", " ++ coming_text repos p) (take (i + 1) more)
more_said repos start before mid after next more i part lt at so_far said comma is =
    let text : PlanPart → List ℕ = λ p. codes ", " ++ coming_text repos p in
    is ∙ ap (λ (l : List ℕ). l ++ next) comma ∙ ap (λ (l : List ℕ). (before ++ codes ", ") ++ l) said ∙ append_assoc before (codes ", ") (coming_text repos part)
    ∙ ap (λ (l : List ℕ). l ++ text part) so_far ∙ flat_map_more text start (take i more) part
    ∙ ap (λ (p : PlanPart). start ++ flat_map text (take i more ++ p ∷ [])) at ∙ ap (λ (ps : List PlanPart). start ++ flat_map text ps) (sym (take_more more i part lt))

pub more_line : (before mid after next : List ℕ) → IsLine before → IsLine next → mid ≡ before ++ codes ", " → after ≡ mid ++ next → IsLine after
more_line before mid after next far near comma is =
    subst IsLine (sym (is ∙ ap (λ (l : List ℕ). l ++ next) comma)) (line_append (before ++ codes ", ") next (line_append before (codes ", ") far (line_tested (codes ", ") refl)) near)

some_line : (repos : List Repo) (parts : List PlanPart) → AllByRecursion (λ part. IsLine (part_name part)) parts → IsLine (flat_map (λ p. codes ", " ++ coming_text repos p) parts)
some_line repos [] are = All-nil (λ b. (b == 10) ≡ false)
some_line repos (part ∷ parts) are =
    line_append (codes ", " ++ coming_text repos part) (flat_map (λ p. codes ", " ++ coming_text repos p) parts)
    (line_append (codes ", ") (coming_text repos part) (line_tested (codes ", ") refl) (line_of_part repos part are.0)) (some_line repos parts are.1)

-- what a step is called is one line where its names are
pub line_of_step : (repos : List Repo) (step : List PlanPart) → AllByRecursion (λ part. IsLine (part_name part)) step → IsLine (coming_texts repos step)
line_of_step repos [] are = All-nil (λ b. (b == 10) ≡ false)
line_of_step repos (part ∷ more) are = line_append (coming_text repos part) (flat_map (λ p. codes ", " ++ coming_text repos p) more) (line_of_part repos part are.0) (some_line repos more are.1)
