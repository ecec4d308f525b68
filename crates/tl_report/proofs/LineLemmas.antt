-- The lines of a report are whole lines and no acknowledgements.
use Rattle.std.proofs.Common.{◌≡◌, ◌==◌, ℕ, Bool, true, false, cond, ◌&&◌, List, [], ◌∷◌, ◌++◌, ◌⊎◌, refl, sym, ◌∙◌, ap, subst, inl, inr, append_assoc}
use Rattle.std.specs.Prelude.{codes, not}
use Rattle.std.specs.List.{AllByRecursion, list_all}
use Rattle.std.proofs.lemmas.Bool.{cases_Bool, true≢false, eqb-true}
use Rattle.std.proofs.lemmas.List.Elements.{All-nil, All-cons, All-append}
use Rattle.tl_model.specs.Lines.{IsLine, text_of}
use Rattle.tl_model.specs.Acks.{is_ack, IsPlain, plain-text_of}
use Rattle.tl_path.specs.Bytes.{is_letter_or_digit, is_of_name}
use Rattle.tl_path.specs.Names.{is_name}
use Rattle.tl_path.proofs.Words.{word_all}
use Rattle.tl_entry.specs.Rising.{comes_before, insert_by, has_key}
use Rattle.tl_entry.specs.FilePaths.{with_text, rising_of}
use Rattle.tl_report.specs.Lines.{IsReportLine, word_of, line_of, in_order}
use Rattle.tl_report.specs.declared.lines.Finding.{Finding}
use Rattle.tl_report.specs.declared.lines.Finding.TheVariants.{Missing, Depends, Duplicate, Execute}

both : (a b : Bool) → (a && b) ≡ true → (a ≡ true) × (b ≡ true)
both true b is = (refl, is)
both false b is = absurd (cc)

-- bytes that all pass a test which the line end doesn't pass
pub line_of_all : (p : ℕ → Bool) → p 10 ≡ false → (bytes : List ℕ) → list_all p bytes ≡ true → IsLine bytes
line_of_all p not_end [] is = All-nil (λ b. (b == 10) ≡ false)
line_of_all p not_end (b ∷ bytes) is =
    let parts = both (p b) (list_all p bytes) is in
    All-cons (λ c. (c == 10) ≡ false) b bytes (no_line_end b parts.0) (line_of_all p not_end bytes parts.1)
  where
    no_line_end : (b : ℕ) → p b ≡ true → (b == 10) ≡ false
    no_line_end b is = elim (cases_Bool (b == 10)) [
      | inl same ↦ absurd (true≢false (sym is ∙ ap p (eqb-true b 10 same) ∙ not_end))
      | inr apart ↦ apart
    ]

-- a name has no line end
pub line_of_name : (name : List ℕ) → is_name name ≡ true → IsLine name
line_of_name name is = line_of_all is_of_name refl name (word_all is_letter_or_digit is_of_name 128 name is)

-- two parts with a space between them
pub line_of_two : (far near : List ℕ) → IsLine far → IsLine near → IsLine (far ++ 32 ∷ near)
line_of_two far near first second = All-append (λ b. (b == 10) ≡ false) far (32 ∷ near) first (All-cons (λ b. (b == 10) ≡ false) 32 near refl second)

line_of_word : (finding : Finding) → IsLine (word_of finding)
line_of_word Missing = line_of_all (λ b. not (b == 10)) refl (codes "missing") refl
line_of_word Depends = line_of_all (λ b. not (b == 10)) refl (codes "depends") refl
line_of_word Duplicate = line_of_all (λ b. not (b == 10)) refl (codes "duplicate") refl
line_of_word Execute = line_of_all (λ b. not (b == 10)) refl (codes "execute") refl

not_step : (finding : Finding) (thing about : List ℕ) → is_ack (line_of finding thing about) ≡ false
not_step Missing thing about = refl
not_step Depends thing about = refl
not_step Duplicate thing about = refl
not_step Execute thing about = refl

-- the line of a finding is one of a report
pub report-line_of : (finding : Finding) (thing about : List ℕ) → IsLine thing → IsLine about → IsReportLine (line_of finding thing about)
report-line_of finding thing about first second = record {
  whole = line_of_two (word_of finding ++ 32 ∷ thing) about (line_of_two (word_of finding) thing (line_of_word finding) first) second;
  other = not_step finding thing about;
}

-- what holds of each line holds of each one where they are put in order
all-insert : (P : List ℕ → Type 0) (x : List ℕ) (xs : List (List ℕ)) → P x → AllByRecursion P xs → AllByRecursion P (insert_by (λ t. t) x xs)
all-insert P x [] here all = (here, tt)
all-insert P x (y ∷ ys) here all = by (cases_Bool (comes_before x y)) (all-insert P x ys here all.1)
  where
    by : (comes_before x y ≡ true) ⊎ (comes_before x y ≡ false) → AllByRecursion P (insert_by (λ t. t) x ys) → AllByRecursion P (insert_by (λ t. t) x (y ∷ ys))
    by (inl first) more = subst (λ (t : Bool). AllByRecursion P (cond t (x ∷ y ∷ ys) (y ∷ insert_by (λ t. t) x ys))) (sym first) (here, all)
    by (inr later) more = subst (λ (t : Bool). AllByRecursion P (cond t (x ∷ y ∷ ys) (y ∷ insert_by (λ t. t) x ys))) (sym later) (all.0, more)

all-with_text : (P : List ℕ → Type 0) (x : List ℕ) (xs : List (List ℕ)) → P x → AllByRecursion P xs → AllByRecursion P (with_text x xs)
all-with_text P x xs here all = elim (cases_Bool (has_key (λ t. t) x xs)) [
  | inl there ↦ subst (λ (t : Bool). AllByRecursion P (cond t xs (insert_by (λ t. t) x xs))) (sym there) all
  | inr absent ↦ subst (λ (t : Bool). AllByRecursion P (cond t xs (insert_by (λ t. t) x xs))) (sym absent) (all-insert P x xs here all)
]

all-rising_of : (P : List ℕ → Type 0) (xs : List (List ℕ)) → AllByRecursion P xs → AllByRecursion P (rising_of xs)
all-rising_of P [] all = tt
all-rising_of P (x ∷ xs) all = all-with_text P x (rising_of xs) all.0 (all-rising_of P xs all.1)

wholes : (xs : List (List ℕ)) → AllByRecursion IsReportLine xs → AllByRecursion IsLine xs
wholes [] all = tt
wholes (x ∷ xs) all = (all.0.whole, wholes xs all.1)

others : (xs : List (List ℕ)) → AllByRecursion IsReportLine xs → AllByRecursion (λ line. is_ack line ≡ false) xs
others [] all = tt
others (x ∷ xs) all = (all.0.other, others xs all.1)

-- a report's lines as a text have no acknowledged line
pub plain-in_order : (xs : List (List ℕ)) → AllByRecursion IsReportLine xs → IsPlain (in_order xs)
plain-in_order xs all =
    let each = all-rising_of IsReportLine xs all in
    plain-text_of (rising_of xs) (wholes (rising_of xs) each) (others (rising_of xs) each)

-- one line more in a text
pub text_of-more : (lines : List (List ℕ)) (line : List ℕ) → text_of (lines ++ line ∷ []) ≡ (text_of lines ++ line) ++ 10 ∷ []
text_of-more [] line = refl
text_of-more (first ∷ lines) line =
    ap (λ (text : List ℕ). first ++ 10 ∷ text) (text_of-more lines line)
    ∙ sym (ap (λ (text : List ℕ). text ++ 10 ∷ []) (append_assoc first (10 ∷ text_of lines) line) ∙ append_assoc first (10 ∷ (text_of lines ++ line)) (10 ∷ []))
