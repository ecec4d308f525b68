-- The lines of documentation files, their marks, and their section.
use Rattle.std.proofs.Common.{◌≡◌, ◌⊎◌, ℕ, ◌==◌, ◌^◌, ◌<◌, Bool, true, false, cond, not, ◌&&◌, List, [], ◌∷◌, ◌++◌, ◌-◌, length, get_or, take, drop, Option, Some, None, inl, inr, refl, sym, subst, ◌∙◌, ap, arith, length-append, append_assoc}
use Rattle.std.specs.Prelude.{codes, All, IfSome}
use Rattle.std.specs.List.{flat_map, list_all}
use Rattle.std.proofs.lemmas.Bool.{and_from, true≢false}
use Rattle.std.proofs.lemmas.Bool.Decides.{nat_tests}
use Rattle.std.proofs.lemmas.List.{append-nil, nil_from_length}
use Rattle.std.proofs.Math.Seq.{take-append_seam, drop-append_seam, get_or-append_seam}
use Rattle.std.proofs.Math.ListN.{get_or-append}
use Rattle.std.proofs.lemmas.List.Elements.{All-nil, All-cons, All-head, All-tail, All-weaker, All-get_or}
use Rattle.std.proofs.lemmas.List.Sums.{AllPass-from_list_all}
use Rattle.memchr.specs.Find.{Nowhere, NoneBefore, Passes, is_byte}
use Rattle.tl_model.specs.Lines.{IsLine}
use Rattle.tl_model.specs.Acks.{IsPlain, plain-nil, plain-append}
use Rattle.tl_text.specs.Texts.{IsText}
use Rattle.tl_path.specs.Bytes.{is_barred}
use Rattle.tl_path.specs.Path.{IsPath}
use Rattle.tl_entry.specs.Forms.{has_no_quote}
use Rattle.tl_entry.specs.Parts.{FileEntry}
use Rattle.tl_entry.specs.Rising.{comes_before}
use Rattle.tl_entry.specs.Sections.{no_doc_files}
use Rattle.tl_entry.specs.declared.object.DocFiles.{DocFiles}
use Rattle.tl_object.specs.Formed.{IsMark, IsFormedFile, IsFormedDoc}
use Rattle.tl_object.specs.Writing.{mark_text, file_line, section_line, doc_lines}
use Rattle.tl_object.proofs.PlainLemmas.{plain_file_line, plain_section_line, line_of_number, line_of_path, line_of_mark, line_append, unbarred}
use Rattle.tl_object.proofs.ValueLemmas.{take_whole}
use Rattle.tl_written.specs.Stands.{Stands}
use Rattle.tl_written.specs.Rises.{AreRising}
use Rattle.tl_written.specs.Found.{Lacks, LacksEach}
use Rattle.tl_written.specs.Pieces.{MarkStands, DocFileStands, DocFilesStand, BeginsAtSpace}
use Rattle.tl_written.proofs.StandLemmas.{behind-both, section-written}
use Rattle.tl_written.proofs.FindLemmas.{append-cancel, apart-lacks}
use Rattle.tl_written.proofs.BeginLemmas.{file_line-fronts}
use Rattle.tl_written.proofs.PathLemmas.{path_after, section-absent, section-there, section-some}

-- what stands behind some bytes of a line is a line
pub line_rest : (front rest : List ℕ) → IsLine (front ++ rest) → IsLine rest
line_rest [] rest is = is
line_rest (b ∷ front) rest is = line_rest front rest (All-tail (λ b. (b == 10) ≡ false) b (front ++ rest) is)

-- what stands before some bytes of a line is a line
pub line_front : (front rest : List ℕ) → IsLine (front ++ rest) → IsLine front
line_front [] rest is = All-nil (λ b. (b == 10) ≡ false)
line_front (b ∷ front) rest is =
    All-cons (λ b. (b == 10) ≡ false) b front (All-head (λ b. (b == 10) ≡ false) b (front ++ rest) is) (line_front front rest (All-tail (λ b. (b == 10) ≡ false) b (front ++ rest) is))

-- bytes that are those of a line
line_as : (line other : List ℕ) → line ≡ other → IsLine line → IsLine other
line_as line other same is = subst IsLine same is

-- a text without the byte of a quote has no quote, by its test
unquoted : (text : List ℕ) → All (λ b. (b == 34) ≡ false) text → has_no_quote text ≡ true
unquoted [] is = refl
unquoted (b ∷ text) is = and_from _ _ (ap not (All-head (λ b. (b == 34) ≡ false) b text is)) (unquoted text (All-tail (λ b. (b == 34) ≡ false) b text is))

-- a line cut in front of a quoted text
pub line_quoted : (word line marked quoted : List ℕ) → IsLine line → line ≡ (32 ∷ []) ++ marked → marked ≡ word ++ quoted → IsLine quoted
line_quoted word line marked quoted is one two =
    line_rest (32 ∷ word) quoted (line_as line ((32 ∷ word) ++ quoted) (behind-both (32 ∷ []) word line marked quoted one two) is)

-- the text of a mark
pub line_mark : (mark rest quoted : List ℕ) → IsLine quoted → quoted ≡ mark ++ 34 ∷ rest → IsLine mark
line_mark mark rest quoted is same = line_front mark (34 ∷ rest) (line_as quoted (mark ++ 34 ∷ rest) same is)

-- what stands behind a mark
pub line_marked : (mark rest quoted : List ℕ) → IsLine quoted → quoted ≡ mark ++ 34 ∷ rest → IsLine rest
line_marked mark rest quoted is same = All-tail (λ b. (b == 10) ≡ false) 34 rest (line_rest mark (34 ∷ rest) (line_as quoted (mark ++ 34 ∷ rest) same is))

-- a mark, piece by piece
pub mark-stands : (word line marked quoted mark rest : List ℕ) → line ≡ (32 ∷ []) ++ marked → marked ≡ word ++ quoted → quoted ≡ mark ++ 34 ∷ rest → All (λ b. (b == 34) ≡ false) mark → IsText mark → MarkStands word line rest
mark-stands word line marked quoted mark rest one two three plain is =
    let named : line ≡ (32 ∷ word) ++ quoted = behind-both (32 ∷ []) word line marked quoted one two in
    let valued : line ≡ ((32 ∷ word) ++ mark) ++ 34 ∷ rest = behind-both (32 ∷ word) mark line quoted (34 ∷ rest) named three in
    record { mark = Some mark; same = behind-both ((32 ∷ word) ++ mark) (34 ∷ []) line (34 ∷ rest) rest valued refl; is = (is, unquoted mark plain) }

-- a text without a quote, by its test, has no byte of a quote
bare : (text : List ℕ) → has_no_quote text ≡ true → All (λ b. (b == 34) ≡ false) text
bare text is = All-weaker (λ b. not (b == 34) ≡ true) (λ b. (b == 34) ≡ false) (λ b e. from_not (b == 34) e) text (AllPass-from_list_all (λ b. not (b == 34)) text is)
  where
    from_not : (t : Bool) → not t ≡ true → t ≡ false
    from_not true e = sym e
    from_not false e = refl

-- the text of a mark stands behind its word, and what stands behind the mark follows its quote
pub record MarkRead (quoted rest : List ℕ) : Type 0 where
  pub text : List ℕ
  pub is : IsText text
  pub bare : All (λ b. (b == 34) ≡ false) text
  pub same : quoted ≡ text ++ 34 ∷ rest

-- where a line has a mark's word, a mark that stands there is a text
pub mark-read : (word line marked quoted : List ℕ) (mark : Option (List ℕ)) (rest : List ℕ) → line ≡ (32 ∷ []) ++ marked → marked ≡ word ++ quoted
    → IfSome mark IsMark → LacksEach rest ((32 ∷ word) ∷ []) → line ≡ mark_text word mark ++ rest → MarkRead quoted rest
mark-read word line marked quoted None rest one two is lacks same =
    absurd (lacks.0 quoted (sym same ∙ behind-both (32 ∷ []) word line marked quoted one two))
mark-read word line marked quoted (Some text) rest one two is lacks same =
    let there : (32 ∷ word) ++ quoted ≡ (((32 ∷ word) ++ text) ++ 34 ∷ []) ++ rest = sym (behind-both (32 ∷ []) word line marked quoted one two) ∙ same in
    let whole : (32 ∷ word) ++ quoted ≡ (32 ∷ word) ++ (text ++ 34 ∷ rest) =
    there ∙ append_assoc ((32 ∷ word) ++ text) (34 ∷ []) rest ∙ append_assoc (32 ∷ word) text (34 ∷ rest) in
    record { text = text; is = is.0; bare = bare text is.1; same = append-cancel (32 ∷ word) quoted (text ++ 34 ∷ rest) whole }

-- what is a text by another name passes the test for one
pub text_as : (mark text : List ℕ) (found : Bool) → (IsText mark → found ≡ true) → mark ≡ text → IsText text → found ≡ false → ⊥
text_as mark text found all same is none = true≢false (sym (all (subst IsText (sym same) is)) ∙ none)

-- a byte of a path, in a line that begins with that path
byte_there : (line path marks : List ℕ) (at : ℕ) → line ≡ path ++ marks → at < length path → get_or line at 0 ≡ get_or path at 0
byte_there line path marks at same within = ap (λ (t : List ℕ). get_or t at 0) same ∙ get_or-append path marks 0 at within

-- the byte that stands behind a path
byte_behind : (line path more : List ℕ) (b : ℕ) → line ≡ path ++ b ∷ more → get_or line (length path) 0 ≡ b
byte_behind line path more b same = ap (λ (t : List ℕ). get_or t (length path) 0) same ∙ get_or-append_seam path b more 0

-- no space stands within a path
not_within : (line path marks : List ℕ) (at : ℕ) → All (λ b. (b == 32) ≡ false) path → line ≡ path ++ marks → (get_or line at 0 == 32) ≡ true → at < length path → ⊥
not_within line path marks at unspaced same is within =
    true≢false (sym is ∙ ap (λ b. b == 32) (byte_there line path marks at same within) ∙ All-get_or (λ b. (b == 32) ≡ false) path at 0 within unspaced)

-- a path's end is where the first space of its line stands
first_space : (line path marks : List ℕ) (at : ℕ) → All (λ b. (b == 32) ≡ false) path → BeginsAtSpace marks → line ≡ path ++ marks
    → NoneBefore (Passes (is_byte 32) line) 0 (length line) at → Passes (is_byte 32) line at → at ≡ length path
first_space line path marks at unspaced (inl none) same first is =
    let within : at < length path = omega (arith, first.high, ap length (same ∙ ap (λ (t : List ℕ). path ++ t) none ∙ append-nil path)) in
    absurd (not_within line path marks at unspaced same is within)
first_space line path marks at unspaced (inr some) same first is =
    let there : line ≡ path ++ 32 ∷ some.0 = same ∙ ap (λ (t : List ℕ). path ++ t) some.1 in
    let later : length path < at → ⊥ = λ low. first.before (length path) (omega arith) low (ap (λ b. b == 32) (byte_behind line path some.0 32 there)) in
    let sooner : at < length path → ⊥ = not_within line path marks at unspaced same is in
    omega (arith, later, sooner)

-- a line cut behind its path
cut_there : (line path marks : List ℕ) (at : ℕ) → line ≡ path ++ marks → at ≡ length path → (take at line ≡ path) × (take (length line - at) (drop at line) ≡ marks)
cut_there line path marks at same end =
    let left : length line - at ≡ length marks = omega (arith, end, ap length same, length-append path marks) in
    let behind : drop at line ≡ marks = ap (λ n. drop n line) end ∙ ap (λ (t : List ℕ). drop (length path) t) same ∙ drop-append_seam path marks in
    let front : take at line ≡ path = ap (λ n. take n line) end ∙ ap (λ (t : List ℕ). take (length path) t) same ∙ take-append_seam path marks in
    (front, ap (λ n. take n (drop at line)) left ∙ ap (λ (t : List ℕ). take (length marks) t) behind ∙ take_whole marks)

-- a line with a space is cut behind its path
pub cut-spaced : (line : List ℕ) (at : ℕ) → NoneBefore (Passes (is_byte 32) line) 0 (length line) at → Passes (is_byte 32) line at
    → (path marks : List ℕ) → All (λ b. (b == 32) ≡ false) path → BeginsAtSpace marks → line ≡ path ++ marks → (take at line ≡ path) × (take (length line - at) (drop at line) ≡ marks)
cut-spaced line at first is path marks unspaced begins same = cut_there line path marks at same (first_space line path marks at unspaced begins same first is)

-- a line without a space is a path
pub cut-unspaced : (line : List ℕ) → Nowhere (Passes (is_byte 32) line) 0 (length line)
    → (path marks : List ℕ) → All (λ b. (b == 32) ≡ false) path → BeginsAtSpace marks → line ≡ path ++ marks → (line ≡ path) × ([] ≡ marks)
cut-unspaced line nowhere path marks unspaced (inl none) same = (same ∙ ap (λ (t : List ℕ). path ++ t) none ∙ append-nil path, sym none)
cut-unspaced line nowhere path marks unspaced (inr some) same =
    let there : line ≡ path ++ 32 ∷ some.0 = same ∙ ap (λ (t : List ℕ). path ++ t) some.1 in
    let within : length path < length line = omega (arith, ap length there, length-append path (32 ∷ some.0)) in
    absurd (nowhere (length path) (omega arith) within (ap (λ b. b == 32) (byte_behind line path some.0 32 there)))

-- a piece at the front of a line is a line
line_of_piece : (line piece rest : List ℕ) → IsLine line → line ≡ piece ++ rest → IsLine piece
line_of_piece line piece rest is same = line_front piece rest (line_as line (piece ++ rest) same is)

-- the line of a documentation file, piece by piece
pub doc_file-stands : (text behind line rest path marks more last : List ℕ) → text ≡ (32 ∷ []) ++ behind → behind ≡ line ++ 10 ∷ rest → line ≡ path ++ marks → IsLine marks → IsPath path
    → MarkStands (codes "details=\"") marks more → IsLine more → MarkStands (codes "language=\"") more last → length last < 1 → DocFileStands path text rest
unfolding file_line
doc_file-stands text behind line rest path marks more last one two three is_line is_path details more_line language short =
    let first : List ℕ = mark_text (codes "details=\"") details.mark in
    let second : List ℕ = mark_text (codes "language=\"") language.mark in
    let none : last ≡ [] = nil_from_length last (omega arith) in
    let file : FileEntry = record { path = path; details = details.mark; language = language.mark } in
    let ended : more ≡ second = language.same ∙ ap (λ (t : List ℕ). second ++ t) none ∙ append-nil second in
    let pathed : text ≡ (32 ∷ path) ++ (marks ++ 10 ∷ rest) =
    behind-both (32 ∷ []) path text behind (marks ++ 10 ∷ rest) one (two ∙ ap (λ (t : List ℕ). t ++ 10 ∷ rest) three ∙ append_assoc path marks (10 ∷ rest)) in
    let detailed : text ≡ ((32 ∷ path) ++ first) ++ (more ++ 10 ∷ rest) =
    behind-both (32 ∷ path) first text (marks ++ 10 ∷ rest) (more ++ 10 ∷ rest) pathed (ap (λ (t : List ℕ). t ++ 10 ∷ rest) details.same ∙ append_assoc first more (10 ∷ rest)) in
    let told : text ≡ (((32 ∷ path) ++ first) ++ second) ++ 10 ∷ rest =
    behind-both ((32 ∷ path) ++ first) second text (more ++ 10 ∷ rest) (10 ∷ rest) detailed (ap (λ (t : List ℕ). t ++ 10 ∷ rest) ended) in
    record {
      value = file;
      same = behind-both (((32 ∷ path) ++ first) ++ second) (10 ∷ []) text (10 ∷ rest) rest told refl;
      plain = plain_file_line file is_path (line_of_piece marks first more is_line details.same) (line_of_piece more second last more_line language.same);
      is = (record { path = is_path; details = details.is; language = language.is }, refl);
    }

-- the marks behind a file's path
abbrev pub file_marks : FileEntry → List ℕ
file_marks file = mark_text (codes "details=\"") file.details ++ mark_text (codes "language=\"") file.language

-- the line of a documentation file behind its space, without its end
abbrev pub file_body : FileEntry → List ℕ
file_body file = file.path ++ file_marks file

-- the line of a documentation file begins with a space
pub file-spaced : (file : FileEntry) (text rest : List ℕ) → text ≡ file_line file ++ rest → text ≡ (32 ∷ []) ++ (file_body file ++ 10 ∷ rest)
unfolding file_line
file-spaced file text rest same =
    let first : List ℕ = mark_text (codes "details=\"") file.details in
    let second : List ℕ = mark_text (codes "language=\"") file.language in
    same ∙ append_assoc (((32 ∷ file.path) ++ first) ++ second) (10 ∷ []) rest ∙ ap (λ (t : List ℕ). t ++ 10 ∷ rest) (append_assoc (32 ∷ file.path) first second)

-- what stands behind that space
pub file-behind : (file : FileEntry) (text behind rest : List ℕ) → text ≡ (32 ∷ []) ++ behind → text ≡ file_line file ++ rest → behind ≡ file_body file ++ 10 ∷ rest
file-behind file text behind rest one same = append-cancel (32 ∷ []) behind (file_body file ++ 10 ∷ rest) (sym one ∙ file-spaced file text rest same)

-- the text of a mark that may be absent is in one line
line_of_marks : (word : List ℕ) (mark : Option (List ℕ)) → list_all (λ b. not (b == 10)) word ≡ true → IfSome mark IsMark → IsLine (mark_text word mark)
line_of_marks word None plain is = All-nil (λ b. (b == 10) ≡ false)
line_of_marks word (Some text) plain is = line_of_mark word text plain is.0

-- the line of a documentation file is one line
pub file-line : (file : FileEntry) → IsFormedFile file → IsLine (file_body file)
file-line file is =
    let first : List ℕ = mark_text (codes "details=\"") file.details in
    let second : List ℕ = mark_text (codes "language=\"") file.language in
    line_append file.path (first ++ second) (line_of_path file.path is.path)
    (line_append first second (line_of_marks (codes "details=\"") file.details refl is.details) (line_of_marks (codes "language=\"") file.language refl is.language))

-- marks begin at a space
marks_spaced : (details language : Option (List ℕ)) → BeginsAtSpace (mark_text (codes "details=\"") details ++ mark_text (codes "language=\"") language)
marks_spaced None None = inl refl
marks_spaced None (Some text) = inr (_, refl)
marks_spaced (Some text) language = inr (_, refl)

-- a byte that isn't barred is no space
not_space : (b : ℕ) → not (is_barred b) ≡ true → (b == 32) ≡ false
not_space b is = grind (arith, nat_tests)

-- a path has no space
unspaced_path : (path : List ℕ) → IsPath path → All (λ b. (b == 32) ≡ false) path
unspaced_path path is = All-weaker (λ b. not (is_barred b) ≡ true) (λ b. (b == 32) ≡ false) not_space path (unbarred path is)

-- the parts of a documentation file's line, and what stands behind it
pub record FileRead (file : FileEntry) (path marks after rest : List ℕ) : Type 0 where
  pub named : path ≡ file.path
  pub marked : marks ≡ file_marks file
  pub left : after ≡ rest

-- a documentation file's line is read in one way
pub file-read : (file : FileEntry) (text behind line after path marks rest : List ℕ) → text ≡ (32 ∷ []) ++ behind
    → ((one left : List ℕ) → IsLine one → behind ≡ one ++ 10 ∷ left → (line ≡ one) × (after ≡ left))
    → ((front back : List ℕ) → All (λ b. (b == 32) ≡ false) front → BeginsAtSpace back → line ≡ front ++ back → (path ≡ front) × (marks ≡ back))
    → IsFormedFile file → text ≡ file_line file ++ rest → FileRead file path marks after rest
file-read file text behind line after path marks rest one cut parts is same =
    let lined = cut (file_body file) rest (file-line file is) (file-behind file text behind rest one same) in
    let parted = parts file.path (file_marks file) (unspaced_path file.path is.path) (marks_spaced file.details file.language) lined.0 in
    record { named = parted.0; marked = parted.1; left = lined.1 }

-- a language isn't details
pub lacks-details : (language : Option (List ℕ)) → LacksEach (mark_text (codes "language=\"") language) ((32 ∷ codes "details=\"") ∷ [])
lacks-details None = (λ rest same. absurd (cc), tt)
lacks-details (Some text) = (
  subst (λ (t : List ℕ). Lacks t (32 ∷ codes "details=\"")) (sym (append_assoc (32 ∷ codes "language=\"") text (34 ∷ [])))
      (apart-lacks (32 ∷ codes "language=\"") (32 ∷ codes "details=\"") (text ++ 34 ∷ []) refl),
  tt,
)

-- the empty text begins with no word that has a byte
pub lacks-nil : (b : ℕ) (word : List ℕ) → LacksEach [] ((b ∷ word) ∷ [])
lacks-nil b word = (λ rest same. absurd (cc), tt)

-- what stands behind the details
pub language-there : (language : Option (List ℕ)) (more : List ℕ) → more ≡ mark_text (codes "language=\"") language → more ≡ mark_text (codes "language=\"") language ++ []
language-there language more same = same ∙ sym (append-nil (mark_text (codes "language=\"") language))

-- what stands behind the line of a documentation file is shorter
pub doc_file-shorter : (path text rest : List ℕ) → DocFileStands path text rest → length rest < length text
unfolding file_line
doc_file-shorter path text rest one = omega (arith, ap length one.same, length-append (file_line one.value) rest)

-- the path of a documentation file comes behind the empty text
pub first_rises : (file : FileEntry) → IsFormedFile file → comes_before [] file.path ≡ true
first_rises file is = path_after file.path is.path

-- where a documentation file stands, the text begins with a space
pub file-some : (path text behind : List ℕ) → DocFileStands path text behind → (rest : List ℕ) → LacksEach rest ((32 ∷ []) ∷ []) → text ≡ rest → ⊥
file-some path text behind one rest lacks same = lacks.0 (file_body one.value ++ 10 ∷ behind) (sym same ∙ file-spaced one.value text behind one.same)

-- no section of documentation
pub no_doc : (text : List ℕ) → Stands doc_lines IsFormedDoc text text
no_doc text = record {
  value = no_doc_files;
  same = refl;
  plain = plain-nil;
  is = record { blocks = omega arith; files = All-nil _; rising = refl };
}

-- the section of documentation
pub doc-stands : (text files rest : List ℕ) (blocks : ℕ) → text ≡ section_line (codes "docfiles") blocks ++ files → blocks < 2 ^ 64 → DocFilesStand files rest
    → ((blocks ≡ 0) × (length rest ≡ length files → ⊥)) ⊎ (blocks ≡ 0 → ⊥) → Stands doc_lines IsFormedDoc text rest
doc-stands text files rest blocks one small some either =
    let key : List ℕ = codes "docfiles" in
    let whole : List ℕ = section_line key blocks ++ flat_map file_line some.value in
    let there : false ≡ (blocks == 0 && length some.value == 0) = sym (section-written file_line files rest blocks some.value some.same either) in
    record {
      value = record { blocks = blocks; files = some.value };
      same = behind-both (section_line key blocks) (flat_map file_line some.value) text files rest one some.same ∙ ap (λ t. cond t [] whole ++ rest) there;
      plain = subst (λ t. IsPlain (cond t [] whole)) there
          (plain-append (section_line key blocks) (flat_map file_line some.value) (plain_section_line key blocks refl (line_of_number blocks small)) some.plain);
      is = record { blocks = small; files = some.is.each; rising = some.is.rising };
    }

-- where no section's line stands, there is no section of documentation
pub doc-absent : (text : List ℕ) → ((blocks : ℕ) (rest : List ℕ) → blocks < 2 ^ 64 → text ≡ section_line (codes "docfiles") blocks ++ rest → ⊥)
    → (doc : DocFiles) (rest : List ℕ) → IsFormedDoc doc → text ≡ doc_lines doc ++ rest → text ≡ rest
doc-absent text none doc rest is same =
    section-absent file_line (codes "docfiles") text rest doc.blocks doc.files same (λ (files : List ℕ). none doc.blocks files is.blocks)

-- a section of documentation that is written: its blocks, and its files with what stands behind them
pub record DocRead (doc : DocFiles) (blocks : ℕ) (files rest : List ℕ) : Type 0 where
  pub written : (doc.blocks == 0 && length doc.files == 0) ≡ false
  pub stated : blocks ≡ doc.blocks
  pub rising : AreRising (λ (file : FileEntry). file.path) IsFormedFile doc.files
  pub same : files ≡ flat_map file_line doc.files ++ rest

-- where a section's line stands, a section of documentation is read in one way
pub doc-read : (text files : List ℕ) (blocks : ℕ) → text ≡ section_line (codes "docfiles") blocks ++ files
    → ((n : ℕ) (left : List ℕ) → n < 2 ^ 64 → text ≡ section_line (codes "docfiles") n ++ left → (blocks ≡ n) × (files ≡ left))
    → (doc : DocFiles) (rest : List ℕ) → IsFormedDoc doc → LacksEach rest ((32 ∷ []) ∷ codes "docfiles size=" ∷ []) → text ≡ doc_lines doc ++ rest → DocRead doc blocks files rest
doc-read text files blocks one found doc rest is lacks same =
    let there = section-there file_line (codes "docfiles") text files rest blocks doc.blocks doc.files lacks.1.0 one same in
    let parts = found doc.blocks (flat_map file_line doc.files ++ rest) is.blocks there.1 in
    record { written = there.0; stated = parts.0; rising = record { each = is.files; rising = is.rising }; same = parts.1 }

-- a section without blocks and files isn't written
pub doc-empty : (doc : DocFiles) (blocks : ℕ) (files rest after : List ℕ) → DocRead doc blocks files rest → after ≡ rest → blocks ≡ 0 → length after ≡ length files → ⊥
doc-empty doc blocks files rest after read left none whole =
    section-some file_line files rest after blocks doc.blocks doc.files file_line-fronts read.written read.stated read.same left none whole
