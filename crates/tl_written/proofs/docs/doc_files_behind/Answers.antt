use Rattle.std.proofs.Common.{[], ◌∷◌, sym, ◌∙◌}
use Rattle.tl_entry.specs.Parts.{FileEntry}
use Rattle.tl_object.specs.Formed.{IsFormedFile}
use Rattle.tl_object.specs.Writing.{file_line}
use Rattle.tl_written.proofs.StandLemmas.{front-start, front-next, front-whole}
use Rattle.tl_written.proofs.LeftLemmas.{rising_left-start, rising_left-next, rising_left-none, rising_left-fails}
use Rattle.tl_written.proofs.DocLemmas.{doc_file-shorter, first_rises, file-some}
use Rattle.tl_written.proofs.docs.doc_files_behind.Goals as goal

pub loop-path-init : goal.loop-path-init
loop-path-init c = record {
  found = front-start (λ (file : FileEntry). file.path) file_line IsFormedFile c.args.text.now [];
  kept = rising_left-start (λ (file : FileEntry). file.path) file_line IsFormedFile ((32 ∷ []) ∷ []) c.args.text.now first_rises;
}

pub loop-path-smaller : goal.loop-path-smaller
loop-path-smaller c = doc_file-shorter c.in-Some.path.now c.loop-path.rest.now c.in-Some.behind.now c.in-Some.ensures.stands

pub loop-path-preserved : goal.loop-path-preserved
loop-path-preserved c = record {
  found = front-next (λ (file : FileEntry). file.path) file_line IsFormedFile c.args.text.now c.loop-path.rest.now c.in-Some.behind.now c.loop-path.last.now c.in-Some.path.now
      c.loop-path.invariant.found c.in-Some.ensures.stands (sym c.comes_before.ensures ∙ c.if-not-comes_before.false);
  kept = rising_left-next (λ (file : FileEntry). file.path) file_line IsFormedFile ((32 ∷ []) ∷ []) [] c.args.text.now c.loop-path.rest.now c.in-Some.behind.now c.loop-path.last.now c.in-Some.path.now
      c.loop-path.invariant.kept (λ files rest lacks. tt) (file-some c.in-Some.path.now c.loop-path.rest.now c.in-Some.behind.now c.in-Some.ensures.stands) c.in-Some.ensures.finds;
}

pub returns-then-not-comes_before-clause-finds : goal.returns-then-not-comes_before-clause-finds
returns-then-not-comes_before-clause-finds c = λ files rest rising lacks same.
    rising_left-fails (λ (file : FileEntry). file.path) file_line IsFormedFile ((32 ∷ []) ∷ []) [] c.args.text.now c.loop-path.rest.now c.in-Some.behind.now c.loop-path.last.now c.in-Some.path.now
    c.loop-path.invariant.kept (λ some behind none. tt) (file-some c.in-Some.path.now c.loop-path.rest.now c.in-Some.behind.now c.in-Some.ensures.stands) c.in-Some.ensures.finds
    (sym c.comes_before.ensures ∙ c.if-not-comes_before.true) files rest rising lacks same

pub returns-clause-stands : goal.returns-clause-stands
returns-clause-stands c =
    front-whole (λ (file : FileEntry). file.path) file_line IsFormedFile c.args.text.now c.loop-path.rest.now c.loop-path.last.now c.loop-path.invariant.found

pub returns-clause-finds : goal.returns-clause-finds
returns-clause-finds c = λ files rest rising lacks same.
    rising_left-none (λ (file : FileEntry). file.path) file_line IsFormedFile ((32 ∷ []) ∷ []) [] c.args.text.now c.loop-path.rest.now c.loop-path.last.now
    c.loop-path.invariant.kept (λ some behind none. tt) c.in_default.ensures.finds files rest rising lacks same
