-- The pieces of an entry, joined.
use Rattle.std.proofs.Common.{ℕ, List}
use Rattle.std.specs.Prelude.{codes}
use Rattle.std.specs.List.{flat_map}
use Rattle.tl_entry.specs.Parts.{FactEntry}
use Rattle.tl_entry.specs.declared.object.Object.{Object}
use Rattle.tl_object.specs.Formed.{IsFormedBox, IsFormedDoc, IsFormedSection, HasFormedFront, HasFormedTexts, HasFormedFiles}
use Rattle.tl_object.specs.Writing.{container_lines, doc_lines, files_lines, bin_lines, fact_line, first_lines, middle_lines, file_lines}
use Rattle.tl_object.proofs.RoundTrip.{reads-again}
use Rattle.tl_written.specs.Stands.{Stands}
use Rattle.tl_written.specs.Pieces.{blank, BinsStand, FirstStand, MiddleStand, FilesStand, FactsStand, EntryStands}
use Rattle.tl_written.proofs.TextLemmas.{Front, front-both, front-of}

-- the containers and the files
pub files-stand : (text a b c d e f rest : List ℕ) → Stands (container_lines (codes "containersize") (codes "containerchecksum")) IsFormedBox text a
    → Stands (container_lines (codes "doccontainersize") (codes "doccontainerchecksum")) IsFormedBox a b → Stands doc_lines IsFormedDoc b c
    → Stands (container_lines (codes "srccontainersize") (codes "srccontainerchecksum")) IsFormedBox c d → Stands (files_lines (codes "srcfiles")) IsFormedSection d e
    → Stands (files_lines (codes "runfiles")) IsFormedSection e f → BinsStand f rest → FilesStand text rest
unfolding file_lines
files-stand text a b c d e f rest run_box doc_box doc src_box src run bin =
    let one : Front (container_lines (codes "containersize") (codes "containerchecksum") run_box.value) text a = front-of _ _ text a run_box in
    let two = front-both _ (container_lines (codes "doccontainersize") (codes "doccontainerchecksum") doc_box.value) text a b one (front-of _ _ a b doc_box) in
    let three = front-both _ (doc_lines doc.value) text b c two (front-of _ _ b c doc) in
    let four = front-both _ (container_lines (codes "srccontainersize") (codes "srccontainerchecksum") src_box.value) text c d three (front-of _ _ c d src_box) in
    let five = front-both _ (files_lines (codes "srcfiles") src.value) text d e four (front-of _ _ d e src) in
    let six = front-both _ (files_lines (codes "runfiles") run.value) text e f five (front-of _ _ e f run) in
    let whole = front-both _ (flat_map bin_lines bin.value) text f rest six (front-of _ _ f rest bin) in
    record {
      value = record blank { run_box = run_box.value; doc_box = doc_box.value; src_box = src_box.value; doc = doc.value; src = src.value; run = run.value; bin = bin.value };
      same = whole.same;
      plain = whole.plain;
      is = record {
        run_box = run_box.is;
        doc_box = doc_box.is;
        src_box = src_box.is;
        doc = doc.is;
        src = src.is;
        run = run.is;
        bin = bin.is.each;
        platforms = bin.is.rising;
      };
    }

-- an entry from one that has its first lines, one that has its texts, one that has its files, and its facts
abbrev joined : Object → Object → Object → List FactEntry → Object
joined first middle files facts = record {
  name = first.name;
  category = first.category;
  revision = first.revision;
  catalogue = first.catalogue;
  shortdesc = first.shortdesc;
  relocated = first.relocated;
  longdesc = middle.longdesc;
  depends = middle.depends;
  executes = middle.executes;
  postactions = middle.postactions;
  run_box = files.run_box;
  doc_box = files.doc_box;
  src_box = files.src_box;
  doc = files.doc;
  src = files.src;
  run = files.run;
  bin = files.bin;
  catalogue_facts = facts;
}

-- the first lines are those of the first one
first_joined : (first middle files : Object) (facts : List FactEntry) (text rest : List ℕ) → Front (first_lines first) text rest → Front (first_lines (joined first middle files facts)) text rest
unfolding first_lines
first_joined first middle files facts text rest front = front

-- the middle lines are those of the second one
middle_joined : (first middle files : Object) (facts : List FactEntry) (text rest : List ℕ) → Front (middle_lines middle) text rest → Front (middle_lines (joined first middle files facts)) text rest
unfolding middle_lines
middle_joined first middle files facts text rest front = front

-- the lines of files are those of the third one
files_joined : (first middle files : Object) (facts : List FactEntry) (text rest : List ℕ) → Front (file_lines files) text rest → Front (file_lines (joined first middle files facts)) text rest
unfolding file_lines
files_joined first middle files facts text rest front = front

-- what is known of the first one
front_formed : (first middle files : Object) (facts : List FactEntry) → HasFormedFront first → HasFormedFront (joined first middle files facts)
front_formed first middle files facts is = record { name = is.name; revision = is.revision; catalogue = is.catalogue; shortdesc = is.shortdesc }

-- what is known of the second one
texts_formed : (first middle files : Object) (facts : List FactEntry) → HasFormedTexts middle → HasFormedTexts (joined first middle files facts)
texts_formed first middle files facts is = record { longdesc = is.longdesc; depends = is.depends; executes = is.executes; postactions = is.postactions }

-- what is known of the third one
files_formed : (first middle files : Object) (facts : List FactEntry) → HasFormedFiles files → HasFormedFiles (joined first middle files facts)
files_formed first middle files facts is = record {
  run_box = is.run_box;
  doc_box = is.doc_box;
  src_box = is.src_box;
  doc = is.doc;
  src = is.src;
  run = is.run;
  bin = is.bin;
  platforms = is.platforms;
}

-- a whole entry
pub entry-stands : (name text a b c rest : List ℕ) → FirstStand name text a → MiddleStand a b → FilesStand b c → FactsStand c rest → EntryStands name text rest
entry-stands name text a b c rest first middle files facts =
    let x : Object = first.value in
    let y : Object = middle.value in
    let z : Object = files.value in
    let fs : List FactEntry = facts.value in
    let whole : Object = joined x y z fs in
    let one_formed = front_formed x y z fs first.is.0 in
    let two_formed = texts_formed x y z fs middle.is in
    let three_formed = files_formed x y z fs files.is in
    let one : Front (first_lines whole) text a = first_joined x y z fs text a (record { same = first.same; plain = first.plain }) in
    let two : Front (middle_lines whole) a b = middle_joined x y z fs a b (record { same = middle.same; plain = middle.plain }) in
    let three : Front (file_lines whole) b c = files_joined x y z fs b c (record { same = files.same; plain = files.plain }) in
    let four : Front (flat_map fact_line fs) c rest = record { same = facts.same; plain = facts.plain } in
    let front = front-both _ _ text c rest (front-both _ _ text b c (front-both _ _ text a b one two) three) four in
    record {
      value = whole;
      same = front.same;
      plain = front.plain;
      is = (
        record {
          again = reads-again whole one_formed two_formed three_formed facts.is;
          formed = record { front = one_formed; texts = two_formed; files = three_formed; facts = facts.is };
        },
        first.is.1,
      );
    }
