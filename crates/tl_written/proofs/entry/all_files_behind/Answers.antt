use Rattle.tl_written.proofs.LineLemmas.{some_more}
use Rattle.tl_written.proofs.EntryLemmas.{files-stand}
use Rattle.tl_written.proofs.EntryFindLemmas.{files-cut, files-lack, behind_run_box, behind_doc_box, behind_doc, behind_src_box, behind_src, behind_run}
use Rattle.tl_written.proofs.entry.all_files_behind.Goals as goal

pub returns-clause-stand : goal.returns-clause-stand
returns-clause-stand c =
    some_more _ _ c.bins_behind.result
    (λ rest is. files-stand c.args.text.now c.in_ok-rest.rest.now c.in_ok-rest-2.rest.now c.in_ok-rest-3.rest.now c.in_ok-rest-4.rest.now c.in_ok-rest-5.rest.now c.in_ok-rest-6.rest.now rest.now
    c.in_ok-rest.ensures.stands c.in_ok-rest-2.ensures.stands c.in_ok-rest-3.ensures.stands c.in_ok-rest-4.ensures.stands c.in_ok-rest-5.ensures.stands c.in_ok-rest-6.ensures.stands is)
    c.bins_behind.ensures.stands

pub returns-in_err-rest-clause-finds : goal.returns-in_err-rest-clause-finds
returns-in_err-rest-clause-finds c = λ o rest formed lacks same.
    let lacking = files-lack o rest lacks in
    absurd (c.in_err-rest.ensures.finds o.run_box (behind_run_box o rest) formed.run_box lacking.run_box (files-cut o c.args.text.now rest same))

pub returns-in_err-rest-2-clause-finds : goal.returns-in_err-rest-2-clause-finds
returns-in_err-rest-2-clause-finds c = λ o rest formed lacks same.
    let lacking = files-lack o rest lacks in
    let one = c.in_ok-rest.ensures.finds o.run_box (behind_run_box o rest) formed.run_box lacking.run_box (files-cut o c.args.text.now rest same) in
    absurd (c.in_err-rest-2.ensures.finds o.doc_box (behind_doc_box o rest) formed.doc_box lacking.doc_box one)

pub returns-in_err-rest-3-clause-finds : goal.returns-in_err-rest-3-clause-finds
returns-in_err-rest-3-clause-finds c = λ o rest formed lacks same.
    let lacking = files-lack o rest lacks in
    let one = c.in_ok-rest.ensures.finds o.run_box (behind_run_box o rest) formed.run_box lacking.run_box (files-cut o c.args.text.now rest same) in
    let two = c.in_ok-rest-2.ensures.finds o.doc_box (behind_doc_box o rest) formed.doc_box lacking.doc_box one in
    absurd (c.in_err-rest-3.ensures.finds o.doc (behind_doc o rest) formed.doc lacking.doc two)

pub returns-in_err-rest-4-clause-finds : goal.returns-in_err-rest-4-clause-finds
returns-in_err-rest-4-clause-finds c = λ o rest formed lacks same.
    let lacking = files-lack o rest lacks in
    let one = c.in_ok-rest.ensures.finds o.run_box (behind_run_box o rest) formed.run_box lacking.run_box (files-cut o c.args.text.now rest same) in
    let two = c.in_ok-rest-2.ensures.finds o.doc_box (behind_doc_box o rest) formed.doc_box lacking.doc_box one in
    let three = c.in_ok-rest-3.ensures.finds o.doc (behind_doc o rest) formed.doc lacking.doc two in
    absurd (c.in_err-rest-4.ensures.finds o.src_box (behind_src_box o rest) formed.src_box lacking.src_box three)

pub returns-in_err-rest-5-clause-finds : goal.returns-in_err-rest-5-clause-finds
returns-in_err-rest-5-clause-finds c = λ o rest formed lacks same.
    let lacking = files-lack o rest lacks in
    let one = c.in_ok-rest.ensures.finds o.run_box (behind_run_box o rest) formed.run_box lacking.run_box (files-cut o c.args.text.now rest same) in
    let two = c.in_ok-rest-2.ensures.finds o.doc_box (behind_doc_box o rest) formed.doc_box lacking.doc_box one in
    let three = c.in_ok-rest-3.ensures.finds o.doc (behind_doc o rest) formed.doc lacking.doc two in
    let four = c.in_ok-rest-4.ensures.finds o.src_box (behind_src_box o rest) formed.src_box lacking.src_box three in
    absurd (c.in_err-rest-5.ensures.finds o.src (behind_src o rest) formed.src lacking.src four)

pub returns-in_err-rest-6-clause-finds : goal.returns-in_err-rest-6-clause-finds
returns-in_err-rest-6-clause-finds c = λ o rest formed lacks same.
    let lacking = files-lack o rest lacks in
    let one = c.in_ok-rest.ensures.finds o.run_box (behind_run_box o rest) formed.run_box lacking.run_box (files-cut o c.args.text.now rest same) in
    let two = c.in_ok-rest-2.ensures.finds o.doc_box (behind_doc_box o rest) formed.doc_box lacking.doc_box one in
    let three = c.in_ok-rest-3.ensures.finds o.doc (behind_doc o rest) formed.doc lacking.doc two in
    let four = c.in_ok-rest-4.ensures.finds o.src_box (behind_src_box o rest) formed.src_box lacking.src_box three in
    let five = c.in_ok-rest-5.ensures.finds o.src (behind_src o rest) formed.src lacking.src four in
    absurd (c.in_err-rest-6.ensures.finds o.run (behind_run o rest) formed.run lacking.run five)

pub returns-clause-finds : goal.returns-clause-finds
returns-clause-finds c = λ o rest formed lacks same.
    let lacking = files-lack o rest lacks in
    let one = c.in_ok-rest.ensures.finds o.run_box (behind_run_box o rest) formed.run_box lacking.run_box (files-cut o c.args.text.now rest same) in
    let two = c.in_ok-rest-2.ensures.finds o.doc_box (behind_doc_box o rest) formed.doc_box lacking.doc_box one in
    let three = c.in_ok-rest-3.ensures.finds o.doc (behind_doc o rest) formed.doc lacking.doc two in
    let four = c.in_ok-rest-4.ensures.finds o.src_box (behind_src_box o rest) formed.src_box lacking.src_box three in
    let five = c.in_ok-rest-5.ensures.finds o.src (behind_src o rest) formed.src lacking.src four in
    let six = c.in_ok-rest-6.ensures.finds o.run (behind_run o rest) formed.run lacking.run five in
    c.bins_behind.ensures.finds o.bin rest (record { each = formed.bin; rising = formed.platforms }) lacking.bin six
