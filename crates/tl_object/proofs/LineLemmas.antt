-- Facts about single lines and the forms in them.
use Rattle.std.proofs.Common.{◌≡◌, ℕ, zero, suc, ◌<◌, Bool, true, false, cond, ◌&&◌, not, eqb, List, [], ◌∷◌, Option, Some, None, Result, Ok, Err, refl, sym, ap, subst, ◌∙◌, arith}
use Rattle.std.specs.Prelude.{IfSome, IfErr, is_none, MatchOption}
use denote.Ref.{Bor}
use Rattle.std.specs.List.{list_all}
use Rattle.std.specs.Str.{IsUtf8, is_utf8, IsAscii}
use Rattle.std.proofs.lemmas.Bool.{false_from_ne_true, leb-true, true≢false}
use Rattle.std.proofs.lemmas.Bool.Decides.{nat_tests}
use Rattle.std.proofs.lemmas.Str.{is_utf8-from_IsUtf8, IsUtf8-from_is_utf8, IsUtf8-from_ascii}
use Rattle.tl_text.specs.declared.text.TextError.{TextError}
use Rattle.tl_text.specs.declared.text.TextError.TheVariants.{NotText}
use Rattle.tl_text.specs.Texts.{is_text, IsText, IsText-from, IsTextFault}
use Rattle.tl_object.specs.Cuts.{cut, onto_front}
use Rattle.tl_entry.specs.Forms.{is_fact_byte, is_fact_key, has_no_quote}
use Rattle.tl_entry.specs.Parts.{FileEntry}
use Rattle.tl_path.specs.Path.{path_fault}
use Rattle.tl_object.specs.Values.{◌>>=◌, formed, path_value}
use Rattle.tl_object.specs.Grammar.{line_value, line_form, head_value, head_of_line, head_alone, file_value, file_with, marked_file, marks_value, marks_from, mark_value, second_mark, last_mark, quoted, details_word, language_word}
use Rattle.tl_object.specs.Steps.{is_file_line}
use Rattle.tl_object.specs.Line.{Line}
use Rattle.tl_object.specs.Line as lines
use Rattle.tl_object.specs.declared.head.Head.{Head}
use Rattle.tl_object.specs.declared.fault.LineKind.{LineKind}
use Rattle.tl_object.specs.declared.fault.LineKind.TheVariants as kinds

pub line_value-utf8 : (line : List ℕ) → IsUtf8 line → line_value line ≡ line_form line
line_value-utf8 line is = ap (λ t. cond t (line_form line) (Err kinds.Utf8)) (is_utf8-from_IsUtf8 line is)

pub line_value-other : (line : List ℕ) → (IsUtf8 line → ⊥) → line_value line ≡ Err kinds.Utf8
line_value-other line none = ap (λ t. cond t (line_form line) (Err kinds.Utf8)) (false_from_ne_true (is_utf8 line) (λ e. none (IsUtf8-from_is_utf8 line e)))

both : (a b : Bool) → (a && b) ≡ true → (a ≡ true) × (b ≡ true)
both true b e = (refl, e)
both false b e = absurd (cc)

fact_byte : (b : ℕ) → is_fact_byte b ≡ true → (b < 128) × (not (eqb b 10) ≡ true)
fact_byte b e = (grind (arith, nat_tests), grind (arith, nat_tests))

fact_bytes : (bytes : List ℕ) → list_all is_fact_byte bytes ≡ true → IsAscii bytes × (list_all (λ b. not (eqb b 10)) bytes ≡ true)
fact_bytes [] e = (λ i. omega arith, refl)
fact_bytes (b ∷ bytes) e =
    let parts = both (is_fact_byte b) (list_all is_fact_byte bytes) e in
    let rest = fact_bytes bytes parts.1 in
    let here = fact_byte b parts.0 in
    (at here.0 rest.0, ap (λ t. t && list_all (λ c. not (eqb c 10)) bytes) here.1 ∙ rest.1)
  where
    at : b < 128 → IsAscii bytes → IsAscii (b ∷ bytes)
    at small others zero = small
    at small others (suc i) = others i

-- a fact's key is a text
pub fact_key-text : (key : List ℕ) → is_fact_key key ≡ true → IsText key
fact_key-text key e =
    let parts = both _ _ e in let more = both _ _ parts.1 in let bytes = fact_bytes key more.1 in
    IsText-from key (IsUtf8-from_ascii key bytes.0) bytes.1 (leb-true _ _ more.0)

abbrev front_of : Option (List ℕ × List ℕ) → List ℕ
front_of None = []
front_of (Some parts) = parts.0

-- what stands before the first quote has none
pub cut-plain : (text front back : List ℕ) → cut 34 text ≡ Some (front, back) → has_no_quote front ≡ true
cut-plain [] front back e = absurd (cc)
cut-plain (b ∷ text) front back e = step (eqb b 34) (cut 34 text) refl (λ f g is. cut-plain text f g is) e
  where
    step : (t : Bool) (found : Option (List ℕ × List ℕ)) → eqb b 34 ≡ t → ((f g : List ℕ) → found ≡ Some (f, g) → has_no_quote f ≡ true)
        → cond t (Some ([], text)) (onto_front b found) ≡ Some (front, back) → has_no_quote front ≡ true
    step true found is before e = subst (λ (o : Option (List ℕ × List ℕ)). has_no_quote (front_of o) ≡ true) e refl
    step false None is before e = absurd (cc)
    step false (Some (f, g)) is before e =
        let plain : has_no_quote (b ∷ f) ≡ true = ap (λ t. not t && has_no_quote f) is ∙ before f g refl in
        subst (λ (o : Option (List ℕ × List ℕ)). has_no_quote (front_of o) ≡ true) e plain

pub quoted-plain : (text : List ℕ) (found : Option (Bor (List ℕ) × Bor (List ℕ))) → MatchOption found (cut 34 text ≡ None) (λ parts. cut 34 text ≡ Some (parts.0.now, parts.1.now))
    → IfSome found (λ parts. has_no_quote parts.0.now ≡ true)
quoted-plain text None is = tt
quoted-plain text (Some parts) is = cut-plain text parts.0.now parts.1.now is

pub fact_key-no_fault : (key : List ℕ) (e : TextError) → is_fact_key key ≡ true → e ≡ NotText → IsTextFault key e → ⊥
fact_key-no_fault key e form is fault =
    let other : is_text key ≡ false = subst (λ (x : TextError). IsTextFault key x) is fault in
    true≢false (sym (fact_key-text key form) ∙ other)

-- ---- the faults of a file's line

-- a reading has no fault but a file's
abbrev FailsAsFile : {A : Type 0} → Result A LineKind → Type 0
FailsAsFile reading = IfErr reading (λ kind. kind ≡ kinds.File)

file_then : {A B : Type 0} (first : Result A LineKind) (next : A → Result B LineKind) → FailsAsFile first → ((x : A) → FailsAsFile (next x)) → FailsAsFile (first >>= next)
file_then (Ok x) next one other = other x
file_then (Err kind) next one other = one

file_formed : (form : Bool) (bytes : List ℕ) → FailsAsFile (formed form bytes kinds.File)
file_formed true bytes = tt
file_formed false bytes = refl

file_last : (found : Option (List ℕ × List ℕ)) → FailsAsFile (last_mark found)
file_last None = refl
file_last (Some (text, [])) = file_then (mark_value text) (λ mark. Ok (Some mark)) (file_formed (is_text text) text) (λ mark. tt)
file_last (Some (text, b ∷ rest)) = refl

file_second : (word text : List ℕ) → FailsAsFile (second_mark word text)
file_second word [] = tt
file_second word (b ∷ rest) = by_test (eqb b 32) (quoted word rest)
  where
    by_test : (t : Bool) (found : Option (List ℕ × List ℕ)) → FailsAsFile (cond t (last_mark found) (Err kinds.File))
    by_test true found = file_last found
    by_test false found = refl

abbrev Marks : Type 0
Marks = Option (List ℕ) × Option (List ℕ)

abbrev marks_of : Option (List ℕ) → Option (List ℕ) → Result Marks LineKind
marks_of details language = Ok (details, language)

file_marks : (details language : Option (List ℕ × List ℕ)) → FailsAsFile (marks_from details language)
file_marks (Some (text, rest)) other =
    file_then (mark_value text) (λ first. second_mark language_word rest >>= λ second. marks_of (Some first) second) (file_formed (is_text text) text)
    (λ first. file_then (second_mark language_word rest) (λ second. marks_of (Some first) second) (file_second language_word rest) (λ second. tt))
file_marks None (Some (text, rest)) =
    file_then (mark_value text) (λ first. second_mark details_word rest >>= λ second. marks_of second (Some first)) (file_formed (is_text text) text)
    (λ first. file_then (second_mark details_word rest) (λ second. marks_of second (Some first)) (file_second details_word rest) (λ second. tt))
file_marks None None = refl

abbrev file_of : List ℕ → Marks → Result FileEntry LineKind
file_of path marks = Ok (record { path = path; details = marks.0; language = marks.1 })

file_cut : (text : List ℕ) (parts : Option (List ℕ × List ℕ)) → FailsAsFile (file_with text parts)
file_cut text None = file_then (path_value text) (λ path. file_of path (None, None)) (file_formed (is_none (path_fault text)) text) (λ path. tt)
file_cut text (Some (front, marks)) =
    file_then (path_value front) (λ path. marked_file path marks) (file_formed (is_none (path_fault front)) front)
    (λ path. file_then (marks_value marks) (file_of path) (file_marks (quoted details_word marks) (quoted language_word marks)) (λ m. tt))

-- ---- what a line says that is no file's

abbrev head_fault : LineKind → Result Head LineKind
head_fault kind = Err kind

no_head : (file : Result FileEntry LineKind) → FailsAsFile file → ((file >>= λ f. Ok (lines.File f)) >>= head_alone) ≡ Err kinds.File
no_head (Ok file) fails = refl
no_head (Err kind) fails = ap head_fault fails

head_again : (head : Result Head LineKind) → ((head >>= λ h. Ok (lines.Head h)) >>= head_alone) ≡ head
head_again (Ok head) = refl
head_again (Err kind) = refl

-- a file's line is at fault as one
pub head_of_line-file : (line : List ℕ) → is_file_line line ≡ true → IsUtf8 line → head_of_line line ≡ Err kinds.File
head_of_line-file [] is utf8 = absurd (cc)
head_of_line-file (b ∷ text) is utf8 =
    ap (λ (r : Result Line LineKind). r >>= head_alone) (line_value-utf8 (b ∷ text) utf8)
    ∙ ap (λ t. (cond t (file_value text >>= λ f. Ok (lines.File f)) (head_value (b ∷ text) >>= λ h. Ok (lines.Head h))) >>= head_alone) is
    ∙ no_head (file_value text) (file_cut text (cut 32 text))

-- another line says what its key and its value say
pub head_of_line-head : (line : List ℕ) → is_file_line line ≡ false → IsUtf8 line → head_of_line line ≡ head_value line
head_of_line-head [] is utf8 = ap (λ (r : Result Line LineKind). r >>= head_alone) (line_value-utf8 [] utf8) ∙ head_again (head_value [])
head_of_line-head (b ∷ text) is utf8 =
    ap (λ (r : Result Line LineKind). r >>= head_alone) (line_value-utf8 (b ∷ text) utf8)
    ∙ ap (λ t. (cond t (file_value text >>= λ f. Ok (lines.File f)) (head_value (b ∷ text) >>= λ h. Ok (lines.Head h))) >>= head_alone) is
    ∙ head_again (head_value (b ∷ text))

pub head_of_line-other : (line : List ℕ) → (IsUtf8 line → ⊥) → head_of_line line ≡ Err kinds.Utf8
head_of_line-other line none = ap (λ (r : Result Line LineKind). r >>= head_alone) (line_value-other line none)
