-- The text of an entry reads as the entry.
use Rattle.std.proofs.Common.{◌≡◌, ℕ, ◌==◌, Bool, true, false, cond, ◌&&◌, List, [], ◌++◌, length, Some, None, Result, Ok, Err, refl, sym, ◌∙◌, ap}
use Rattle.std.specs.Prelude.{All, codes, unwrap_or}
use Rattle.std.specs.List.{flat_map}
use Rattle.std.proofs.lemmas.Bool.{eqb-true}
use Rattle.std.proofs.lemmas.List.{append-nil, nil_from_length}
use Rattle.tl_model.specs.Lines.{text_of}
use Rattle.tl_object.specs.Content.{content}
use Rattle.tl_object.specs.Groups.{Group, object_of}
use Rattle.tl_entry.specs.Sections.{no_files, no_doc_files}
use Rattle.tl_object.specs.Reading.{as_object, entry_groups, first_name, entry_of}
use Rattle.tl_object.specs.Built.{built, finished}
use Rattle.tl_object.specs.Writing.{key_line, number_line, text_line, text_lines, category_word, container_lines, files_lines, doc_lines, bin_lines, relocated_line, first_lines, middle_lines, file_lines, object_text}
use Rattle.tl_object.specs.Formed.{IsFormedFact, HasFormedFront, HasFormedTexts, HasFormedFiles}
use Rattle.tl_object.specs.Again.{counted, ReadsAgain}
use Rattle.tl_object.specs.declared.fault.LineKind.{LineKind}
use Rattle.tl_object.specs.declared.key.Part.TheVariants.{Run, Doc, Src}
use Rattle.tl_entry.specs.declared.object.Files.{Files}
use Rattle.tl_entry.specs.declared.object.DocFiles.{DocFiles}
use Rattle.tl_entry.specs.declared.object.Object.{Object}
use Rattle.tl_object.specs.declared.builder.Builder.{Builder}
use Rattle.tl_object.proofs.ValueLemmas.{both}
use Rattle.tl_object.proofs.LastLemmas.{follows-none}
use Rattle.tl_object.proofs.AgainLemmas.{Leads, Begins, leads-append, begins-name, begins-append, content-lines}
use Rattle.tl_object.proofs.FieldLemmas.{told, told_files, told_doc, leads-category, leads-revision, leads-catalogue, leads-shortdesc, leads-relocated, leads-longdesc, leads-depends, leads-executes, leads-postactions, leads-facts, leads-box, leads-run, leads-src, leads-doc, leads-bins, bin_key}

-- ---- what a reader keeps at the end of each part of the text

abbrev after_name : Object → Builder
after_name o = record (built []) { name = o.name }

abbrev after_first : Object → Builder
after_first o = record (after_name o) { category = Some o.category; revision = Some o.revision; catalogue = o.catalogue; shortdesc = o.shortdesc; relocated = told o.relocated }

abbrev after_middle : Object → Builder
after_middle o = record (after_first o) { longdesc = o.longdesc; depends = o.depends; executes = o.executes; postactions = o.postactions }

abbrev after_boxes : Object → Builder
after_boxes o = record (after_middle o) { run_box = o.run_box; doc_box = o.doc_box; doc = told_doc o.doc }

abbrev after_files : Object → Builder
after_files o = record (after_boxes o) { src_box = o.src_box; src = told_files o.src; run = told_files o.run; bin = o.bin }

abbrev after_all : Object → Builder
after_all o = record (after_files o) { catalogue_facts = o.catalogue_facts }

first_again : (o : Object) → HasFormedFront o → Begins (first_lines o) o.name (after_first o)
unfolding first_lines
first_again o is =
    let b0 : Builder = after_name o in
    let b1 : Builder = record b0 { category = Some o.category } in
    let b2 : Builder = record b1 { revision = Some o.revision } in
    let b3 : Builder = record b2 { catalogue = o.catalogue } in
    let b4 : Builder = record b3 { shortdesc = o.shortdesc } in
    begins-append _ (relocated_line o.relocated) o.name b4 (after_first o)
    (begins-append _ (text_line (codes "shortdesc") o.shortdesc) o.name b3 b4
    (begins-append _ (text_line (codes "catalogue") o.catalogue) o.name b2 b3
    (begins-append _ (number_line (codes "revision") o.revision) o.name b1 b2
    (begins-append (key_line (codes "name") o.name) (key_line (codes "category") (category_word o.category)) o.name b0 b1 (begins-name o.name is.name) (leads-category b0 o.category refl))
    (leads-revision b1 o.revision refl is.revision))
    (leads-catalogue b2 o.catalogue refl is.catalogue))
    (leads-shortdesc b3 o.shortdesc refl is.shortdesc))
    (leads-relocated b4 o.relocated refl)

middle_again : (o : Object) → HasFormedTexts o → Leads (middle_lines o) (after_first o) (after_middle o)
unfolding middle_lines
middle_again o is =
    let b0 : Builder = after_first o in
    let b1 : Builder = record b0 { longdesc = o.longdesc } in
    let b2 : Builder = record b1 { depends = o.depends } in
    let b3 : Builder = record b2 { executes = o.executes } in
    leads-append _ (text_lines (codes "postaction") o.postactions) b0 b3 (after_middle o)
    (leads-append _ (text_lines (codes "execute") o.executes) b0 b2 b3
    (leads-append (text_lines (codes "longdesc") o.longdesc) (text_lines (codes "depend") o.depends) b0 b1 b2 (leads-longdesc b0 o.longdesc is.longdesc) (leads-depends b1 o.depends is.depends))
    (leads-executes b2 o.executes is.executes))
    (leads-postactions b3 o.postactions is.postactions)

files_again : (o : Object) → HasFormedFiles o → Leads (file_lines o) (after_middle o) (after_files o)
unfolding file_lines
files_again o is =
    let b0 : Builder = after_middle o in
    let b1 : Builder = record b0 { run_box = o.run_box } in
    let b2 : Builder = record b1 { doc_box = o.doc_box } in
    let b3 : Builder = after_boxes o in
    let b4 : Builder = record b3 { src_box = o.src_box } in
    let b5 : Builder = record b4 { src = told_files o.src } in
    let b6 : Builder = record b5 { run = told_files o.run } in
    leads-append _ (flat_map bin_lines o.bin) b0 b6 (after_files o)
    (leads-append _ (files_lines (codes "runfiles") o.run) b0 b5 b6
    (leads-append _ (files_lines (codes "srcfiles") o.src) b0 b4 b5
    (leads-append _ (container_lines (codes "srccontainersize") (codes "srccontainerchecksum") o.src_box) b0 b3 b4
    (leads-append _ (doc_lines o.doc) b0 b2 b3
    (leads-append (container_lines (codes "containersize") (codes "containerchecksum") o.run_box) (container_lines (codes "doccontainersize") (codes "doccontainerchecksum") o.doc_box) b0 b1 b2
    (leads-box b0 Run o.run_box refl is.run_box) (leads-box b1 Doc o.doc_box refl is.doc_box))
    (leads-doc b2 o.doc refl is.doc))
    (leads-box b3 Src o.src_box refl is.src_box))
    (leads-src b4 o.src refl is.src))
    (leads-run b5 o.run refl is.run))
    (leads-bins b6 o.bin (follows-none bin_key o.bin) is.platforms is.bin)

-- the text of an entry leads a reader to all of its parts
whole_again : (o : Object) → HasFormedFront o → HasFormedTexts o → HasFormedFiles o → All IsFormedFact o.catalogue_facts → Begins (object_text o) o.name (after_all o)
whole_again o front texts files facts =
    begins-append (first_lines o ++ middle_lines o ++ file_lines o) _ o.name (after_files o) (after_all o)
    (begins-append (first_lines o ++ middle_lines o) (file_lines o) o.name (after_middle o) (after_files o)
    (begins-append (first_lines o) (middle_lines o) o.name (after_first o) (after_middle o) (first_again o front) (middle_again o texts)) (files_again o files))
    (leads-facts (after_files o) o.catalogue_facts facts)

-- ---- the parts are those of the entry

told-same : (relocated : Bool) → unwrap_or (told relocated) false ≡ relocated
told-same true = refl
told-same false = refl

-- a section that is left out has no blocks and no files
files-same : (files : Files) → unwrap_or (told_files files) no_files ≡ files
files-same files = by_test (files.blocks == 0 && length files.paths == 0) refl
  where
    by_test : (t : Bool) → (files.blocks == 0 && length files.paths == 0) ≡ t → unwrap_or (cond t None (Some files)) no_files ≡ files
    by_test false is = refl
    by_test true is =
        let parts = both (files.blocks == 0) (length files.paths == 0) is in
        let blocks : files.blocks ≡ 0 = eqb-true files.blocks 0 parts.0 in
        let paths : files.paths ≡ [] = nil_from_length files.paths (eqb-true (length files.paths) 0 parts.1) in
        ap (λ (n : ℕ). record no_files { blocks = n }) (sym blocks) ∙ ap (λ (ps : List (List ℕ)). record files { paths = ps }) (sym paths)

doc-same : (doc : DocFiles) → unwrap_or (told_doc doc) no_doc_files ≡ doc
doc-same doc = by_test (doc.blocks == 0 && length doc.files == 0) refl
  where
    by_test : (t : Bool) → (doc.blocks == 0 && length doc.files == 0) ≡ t → unwrap_or (cond t None (Some doc)) no_doc_files ≡ doc
    by_test false is = refl
    by_test true is =
        let parts = both (doc.blocks == 0) (length doc.files == 0) is in
        let blocks : doc.blocks ≡ 0 = eqb-true doc.blocks 0 parts.0 in
        let files : doc.files ≡ [] = nil_from_length doc.files (eqb-true (length doc.files) 0 parts.1) in
        ap (λ (n : ℕ). record no_doc_files { blocks = n }) (sym blocks) ∙ ap (λ fs. record doc { files = fs }) (sym files)

same_parts : (o : Object) (relocated : Bool) (doc : DocFiles) (src run : Files) → relocated ≡ o.relocated → doc ≡ o.doc → src ≡ o.src → run ≡ o.run → record o { relocated = relocated; doc = doc; src = src; run = run } ≡ o
same_parts o relocated doc src run flag doc_is src_is run_is =
    ap (λ (x : Bool). record o { relocated = x; doc = doc; src = src; run = run }) flag ∙ ap (λ (x : DocFiles). record o { doc = x; src = src; run = run }) doc_is
    ∙ ap (λ (x : Files). record o { src = x; run = run }) src_is ∙ ap (λ (x : Files). record o { run = x }) run_is

finished-same : (o : Object) → finished (after_all o) ≡ o
finished-same o = same_parts o (unwrap_or (told o.relocated) false) (unwrap_or (told_doc o.doc) no_doc_files) (unwrap_or (told_files o.src) no_files) (unwrap_or (told_files o.run) no_files) (told-same o.relocated) (doc-same o.doc) (files-same o.src) (files-same o.run)

object_from : (o : Object) (groups : List Group) → built groups ≡ after_all o → object_of groups ≡ o
object_from o groups is = ap finished is ∙ finished-same o

-- a well-formed entry reads again from its text
pub reads-again : (o : Object) → HasFormedFront o → HasFormedTexts o → HasFormedFiles o → All IsFormedFact o.catalogue_facts → ReadsAgain o
reads-again o front texts files facts =
    let whole = whole_again o front texts files facts in
    record {
      lines = whole.added;
      text = whole.is;
      each = whole.each;
      some = whole.some;
      named = λ before. ap first_name (sym (append-nil (counted before whole.added))) ∙ whole.named before [];
      same = λ before.
          ap (λ (ls : List (ℕ × List ℕ)). as_object (entry_groups ls)) (sym (append-nil (counted before whole.added)))
          ∙ ap as_object (whole.read before []) ∙ ap (λ (x : Object). object_result x) (object_from o whole.groups whole.kept.same);
    }
  where
    object_result : Object → Result Object (ℕ × LineKind)
    object_result x = Ok x

-- an entry's text alone reads as the entry
pub entry-again : (o : Object) → ReadsAgain o → entry_of (object_text o) ≡ Ok o
entry-again o again =
    let alone : content 0 (object_text o) ≡ counted 0 again.lines =
    ap (content 0) (again.text ∙ sym (append-nil (text_of again.lines))) ∙ content-lines 0 again.lines [] again.each ∙ append-nil (counted 0 again.lines) in
    ap (λ (ls : List (ℕ × List ℕ)). as_object (entry_groups ls)) alone ∙ again.same 0

abbrev object_in : Object → Result Object (ℕ × LineKind) → Object
object_in other (Ok object) = object
object_in other (Err fault) = other

-- no two entries have one text
pub object_text-same : (o p : Object) → ReadsAgain o → ReadsAgain p → object_text o ≡ object_text p → o ≡ p
object_text-same o p again also same =
    ap (object_in o) (sym (entry-again o again) ∙ ap entry_of same ∙ entry-again p also)

-- no text reads as two entries
pub entry-same : (text : List ℕ) (o p : Object) → entry_of text ≡ Ok o → entry_of text ≡ Ok p → o ≡ p
entry-same text o p first second = ap (object_in o) (sym first ∙ second)
