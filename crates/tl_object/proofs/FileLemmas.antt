-- What the written lines of files say, and the files of a section that is read again.
use Rattle.std.proofs.Common.{◌≡◌, ℕ, suc, ◌==◌, true, false, cond, not, ◌&&◌, List, [], ◌∷◌, ◌++◌, ◌-◌, length, take, drop, Option, Some, None, Result, Ok, Err, refl, sym, subst, ◌∙◌, ap, arith, append_assoc}
use Rattle.std.specs.Prelude.{codes, IfSome, MatchResult, is_none, nat_lt, All}
use Rattle.std.specs.List.{list_all}
use Rattle.std.specs.Option.{option_and_then}
use Rattle.std.specs.Str.{IsUtf8, bytes_eq}
use Rattle.std.proofs.lemmas.List.{append-nil}
use Rattle.std.proofs.lemmas.List.Elements.{All-head, All-tail, All-nil}
use Rattle.std.proofs.lemmas.Str.{IsUtf8-append, IsUtf8-nil, is_utf8-from_IsUtf8}
use Rattle.std.proofs.lemmas.Bool.Decides.{nat_tests}
use Rattle.tl_model.specs.Lines.{IsLine}
use Rattle.tl_text.specs.Texts.{IsText, IsUtf8-from_text, IsLine-from_text}
use Rattle.tl_path.specs.Bytes.{is_barred}
use Rattle.tl_path.specs.Path.{IsPath}
use Rattle.tl_path.specs.declared.fault.PathFault.{PathFault}
use Rattle.tl_object.specs.Cuts.{cut}
use Rattle.tl_entry.specs.Forms.{has_no_quote}
use Rattle.tl_entry.specs.Parts.{FileEntry}
use Rattle.tl_object.specs.Values.{◌>>=◌, Gives, Fails, formed, path_value, stripped}
use Rattle.tl_object.specs.Grammar.{line_value, line_form, file_value, file_with, marked_file, marks_value, marks_from, mark_value, second_mark, last_mark, quoted, language_word}
use Rattle.tl_object.specs.Writing.{mark_text}
use Rattle.tl_object.specs.Formed.{IsMark, IsFormedFile}
use Rattle.tl_object.specs.Again.{IsFull}
use Rattle.tl_object.specs.Steps.{is_file_line}
use Rattle.tl_object.specs.declared.fault.LineFault.{LineFault}
use Rattle.tl_object.specs.declared.fault.LineFault.TheVariants as faults
use Rattle.tl_object.specs.declared.fault.LineKind.{LineKind}
use Rattle.tl_object.specs.declared.fault.LineKind.TheVariants as kinds
use Rattle.tl_object.specs.Line.{Line}
use Rattle.tl_object.specs.Line as lines
use Rattle.tl_object.proofs.LineLemmas.{line_value-utf8}
use Rattle.tl_object.proofs.PlainLemmas.{line_append, line_spaced, line_of_path, unbarred, line_tested}
use Rattle.tl_object.proofs.ValueLemmas.{not_nil, ascii_tested, utf8_spaced, utf8_of_path, take_whole, cut_at, cut_nowhere, stripped_front}

-- ---- the line of a file

-- the line of a file, without its end
abbrev pub file_text : FileEntry → List ℕ
file_text file = (32 ∷ file.path) ++ mark_text (codes "details=\"") file.details ++ mark_text (codes "language=\"") file.language

-- a quoted text behind a word
quoted_here : (word text rest : List ℕ) → bytes_eq word word ≡ true → has_no_quote text ≡ true → quoted word (word ++ text ++ 34 ∷ rest) ≡ Some (text, rest)
quoted_here word text rest same plain =
    ap (λ (bytes : List ℕ). option_and_then (cut 34) (stripped word bytes)) (append_assoc word text (34 ∷ rest))
    ∙ ap (option_and_then (cut 34)) (stripped_front word (text ++ 34 ∷ rest) same) ∙ cut_at 34 text rest plain refl

mark_again : (text : List ℕ) → IsText text → mark_value text ≡ Ok text
mark_again text is = ap (λ t. cond t (Ok text) (Err kinds.File)) is

abbrev Marks : Type 0
Marks = Option (List ℕ) × Option (List ℕ)

abbrev marks_of : Option (List ℕ) → Option (List ℕ) → Result Marks LineKind
marks_of details language = Ok (details, language)

details_alone : (text : List ℕ) → IsMark text → marks_value (codes "details=\"" ++ text ++ 34 ∷ []) ≡ Ok (Some text, None)
details_alone text is =
    ap (λ (o : Option (List ℕ × List ℕ)). marks_from o (quoted language_word (codes "details=\"" ++ text ++ 34 ∷ []))) (quoted_here (codes "details=\"") text [] refl is.1)
    ∙ ap (λ (r : Result (List ℕ) LineKind). r >>= λ first. marks_of (Some first) None) (mark_again text is.0)

language_alone : (text : List ℕ) → IsMark text → marks_value (codes "language=\"" ++ text ++ 34 ∷ []) ≡ Ok (None, Some text)
language_alone text is =
    ap (λ (o : Option (List ℕ × List ℕ)). marks_from None o) (quoted_here (codes "language=\"") text [] refl is.1)
    ∙ ap (λ (r : Result (List ℕ) LineKind). r >>= λ first. marks_of None (Some first)) (mark_again text is.0)

both_marks : (details language : List ℕ) → IsMark details → IsMark language
    → marks_value (codes "details=\"" ++ details ++ 34 ∷ 32 ∷ (codes "language=\"" ++ language ++ 34 ∷ [])) ≡ Ok (Some details, Some language)
both_marks details language is also =
    let rest : List ℕ = 32 ∷ (codes "language=\"" ++ language ++ 34 ∷ []) in
    ap (λ (o : Option (List ℕ × List ℕ)). marks_from o (quoted language_word (codes "details=\"" ++ details ++ 34 ∷ rest))) (quoted_here (codes "details=\"") details rest refl is.1)
    ∙ ap (λ (r : Result (List ℕ) LineKind). r >>= λ first. second_mark language_word rest >>= λ second. marks_of (Some first) second) (mark_again details is.0)
    ∙ ap (λ (o : Option (List ℕ × List ℕ)). last_mark o >>= λ second. marks_of (Some details) second) (quoted_here (codes "language=\"") language [] refl also.1)
    ∙ ap (λ (r : Result (List ℕ) LineKind). (r >>= λ mark. Ok (Some mark)) >>= λ second. marks_of (Some details) second) (mark_again language also.0)

path_byte : (b : ℕ) → not (is_barred b) ≡ true → not (b == 32) ≡ true
path_byte b is = grind (arith, nat_tests)

unspaced : (bytes : List ℕ) → All (λ b. not (is_barred b) ≡ true) bytes → list_all (λ b. not (b == 32)) bytes ≡ true
unspaced [] each = refl
unspaced (b ∷ bytes) each =
    ap (λ t. t && list_all (λ c. not (c == 32)) bytes) (path_byte b (All-head (λ c. not (is_barred c) ≡ true) b bytes each))
    ∙ unspaced bytes (All-tail (λ c. not (is_barred c) ≡ true) b bytes each)

no_space : (path : List ℕ) → IsPath path → list_all (λ b. not (b == 32)) path ≡ true
no_space path is = unspaced path (unbarred path is)

path_again : (path : List ℕ) → IsPath path → path_value path ≡ Ok path
path_again path is = ap (λ (o : Option PathFault). formed (is_none o) path kinds.File) is

abbrev pub entry : List ℕ → Option (List ℕ) → Option (List ℕ) → FileEntry
entry path details language = record { path = path; details = details; language = language }

-- a file with marks behind its path
marked : (path back : List ℕ) (details language : Option (List ℕ)) → IsPath path → marks_value back ≡ Ok (details, language)
    → file_value (path ++ 32 ∷ back) ≡ Ok (entry path details language)
marked path back details language is marks =
    ap (file_with (path ++ 32 ∷ back)) (cut_at 32 path back (no_space path is) refl)
    ∙ ap (λ (r : Result (List ℕ) LineKind). r >>= λ p. marked_file p back) (path_again path is)
    ∙ ap (λ (r : Result Marks LineKind). r >>= λ m. Ok (entry path m.0 m.1)) marks

-- a path alone is a file without marks
pub file_alone : (path : List ℕ) → IsPath path → file_value path ≡ Ok (entry path None None)
file_alone path is =
    ap (file_with path) (cut_nowhere 32 path (no_space path is))
    ∙ ap (λ (r : Result (List ℕ) LineKind). r >>= λ p. Ok (entry p None None)) (path_again path is)

file_again : (path : List ℕ) (details language : Option (List ℕ)) → IsPath path → IfSome details IsMark → IfSome language IsMark
    → file_value (path ++ mark_text (codes "details=\"") details ++ mark_text (codes "language=\"") language) ≡ Ok (entry path details language)
file_again path None None is first second =
    ap file_value (append-nil (path ++ []) ∙ append-nil path) ∙ file_alone path is
file_again path (Some details) None is first second =
    ap file_value (append-nil (path ++ mark_text (codes "details=\"") (Some details)))
    ∙ marked path (codes "details=\"" ++ details ++ 34 ∷ []) (Some details) None is (details_alone details first)
file_again path None (Some language) is first second =
    ap (λ (front : List ℕ). file_value (front ++ mark_text (codes "language=\"") (Some language))) (append-nil path)
    ∙ marked path (codes "language=\"" ++ language ++ 34 ∷ []) None (Some language) is (language_alone language second)
file_again path (Some details) (Some language) is first second =
    ap file_value (append_assoc path (mark_text (codes "details=\"") (Some details)) (mark_text (codes "language=\"") (Some language))
    ∙ ap (λ (back : List ℕ). path ++ 32 ∷ (codes "details=\"" ++ back)) (append_assoc details (34 ∷ []) (32 ∷ (codes "language=\"" ++ language ++ 34 ∷ []))))
    ∙ marked path (codes "details=\"" ++ (details ++ 34 ∷ 32 ∷ (codes "language=\"" ++ language ++ 34 ∷ []))) (Some details) (Some language) is (both_marks details language first second)

mark_utf8 : (word : List ℕ) (mark : Option (List ℕ)) → list_all (λ b. nat_lt b 128) word ≡ true → IfSome mark IsMark → IsUtf8 (mark_text word mark)
mark_utf8 word None is form = IsUtf8-nil
mark_utf8 word (Some text) is form =
    IsUtf8-append ((32 ∷ word) ++ text) (34 ∷ []) (IsUtf8-append (32 ∷ word) text (utf8_spaced word (ascii_tested word is)) (IsUtf8-from_text text form.0)) (ascii_tested (34 ∷ []) refl)

mark_line : (word : List ℕ) (mark : Option (List ℕ)) → IsLine word → IfSome mark IsMark → IsLine (mark_text word mark)
mark_line word None is form = All-nil (λ b. (b == 10) ≡ false)
mark_line word (Some text) is form =
    line_append ((32 ∷ word) ++ text) (34 ∷ []) (line_append (32 ∷ word) text (line_spaced word is) (IsLine-from_text text form.0)) (line_tested (34 ∷ []) refl)

-- ---- a line that begins with a space

-- what stands behind the first byte of a line
abbrev pub after_first : List ℕ → List ℕ
after_first line = take (length line - 1) (drop 1 line)

space : (b : ℕ) → (b == 32) ≡ true → b ≡ 32
space b is = grind (arith, nat_tests)

less_one : (n : ℕ) → suc n - 1 ≡ n
less_one n = omega arith

-- a line that begins with a space, and the text behind it
spaced : (line : List ℕ) → is_file_line line ≡ true → line ≡ 32 ∷ after_first line
spaced [] is = absurd (cc)
spaced (b ∷ text) is = ap (λ (first : ℕ). first ∷ text) (space b is) ∙ ap (λ (rest : List ℕ). 32 ∷ rest) (sym (ap (λ n. take n text) (less_one (length text)) ∙ take_whole text))

abbrev filed : Result FileEntry LineKind → Result Line LineKind
filed file = file >>= λ f. Ok (lines.File f)

spaced_alone : (path : List ℕ) → IsPath path → line_value (32 ∷ path) ≡ Ok (lines.File (entry path None None))
spaced_alone path is = line_value-utf8 (32 ∷ path) (utf8_spaced path (utf8_of_path path is)) ∙ ap filed (file_alone path is)

-- a line whose space stands before a path alone says that path's file
pub line_alone : (line : List ℕ) → is_file_line line ≡ true → IsPath (after_first line) → line_value line ≡ Ok (lines.File (entry (after_first line) None None))
line_alone line starts is = ap line_value (spaced line starts) ∙ spaced_alone (after_first line) is

form_filed : (text : List ℕ) (found : Result FileEntry LineFault) → Gives found (file_value text)
    → MatchResult found (λ file. line_form (32 ∷ text) ≡ Ok (lines.File file)) (λ e. Fails e (line_form (32 ∷ text)))
form_filed text (Ok file) is = ap filed is
form_filed text (Err faults.NoMemory) is = tt
form_filed text (Err (faults.Bad kind)) is = ap filed is

-- a line that begins with a space says what the text behind it says of a file
pub line_filed : (line : List ℕ) (found : Result FileEntry LineFault) → is_file_line line ≡ true → IsUtf8 line → Gives found (file_value (after_first line))
    → MatchResult found (λ file. line_value line ≡ Ok (lines.File file)) (λ e. Fails e (line_value line))
line_filed line found starts utf8 is =
    let said : line_value line ≡ line_form (32 ∷ after_first line) = line_value-utf8 line utf8 ∙ ap line_form (spaced line starts) in
    subst (λ (r : Result Line LineKind). MatchResult found (λ file. r ≡ Ok (lines.File file)) (λ e. Fails e r)) (sym said) (form_filed (after_first line) found is)

-- ---- the written line of a file

-- the line of a file says the file
pub file_says : (file : FileEntry) → IsFormedFile file → line_value (file_text file) ≡ Ok (lines.File file)
file_says file is =
    let path = utf8_spaced file.path (utf8_of_path file.path is.path) in
    let more = IsUtf8-append (32 ∷ file.path) (mark_text (codes "details=\"") file.details) path (mark_utf8 (codes "details=\"") file.details refl is.details) in
    let whole = IsUtf8-append ((32 ∷ file.path) ++ mark_text (codes "details=\"") file.details) (mark_text (codes "language=\"") file.language) more (mark_utf8 (codes "language=\"") file.language refl is.language) in
    ap (λ t. cond t (line_form (file_text file)) (Err kinds.Utf8)) (is_utf8-from_IsUtf8 (file_text file) whole)
    ∙ ap (λ (r : Result FileEntry LineKind). r >>= λ f. Ok (lines.File f)) (file_again file.path file.details file.language is.path is.details is.language)

pub file_full : (file : FileEntry) → IsFormedFile file → IsFull (file_text file)
file_full file is =
    let path = line_spaced file.path (line_of_path file.path is.path) in
    let more = line_append (32 ∷ file.path) (mark_text (codes "details=\"") file.details) path (mark_line (codes "details=\"") file.details (line_tested (codes "details=\"") refl) is.details) in
    record {
      ended = line_append ((32 ∷ file.path) ++ mark_text (codes "details=\"") file.details) (mark_text (codes "language=\"") file.language) more (mark_line (codes "language=\"") file.language (line_tested (codes "language=\"") refl) is.language);
      counts = refl;
      full = not_nil 32 (file.path ++ mark_text (codes "details=\"") file.details ++ mark_text (codes "language=\"") file.language);
    }
