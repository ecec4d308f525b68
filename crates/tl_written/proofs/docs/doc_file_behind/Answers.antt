use Rattle.std.proofs.Common.{[], ◌∷◌, ◌++◌, length, ap, arith}
use Rattle.std.specs.Prelude.{codes}
use Rattle.tl_written.proofs.PathLemmas.{no_fault}
use Rattle.tl_written.proofs.DocLemmas.{doc_file-stands, file-spaced, file-behind, file_body, file-line, file-read, lacks-details, lacks-nil, language-there}
use Rattle.tl_written.proofs.docs.doc_file_behind.Goals as goal

pub returns-in-empty-clause-stands : goal.returns-in-empty-clause-stands
returns-in-empty-clause-stands c =
    doc_file-stands c.args.text.now c.in_ok-behind.field-0.now c.in_ok-line.line.now c.in_ok-line.rest.now c.path_and_marks.result.0.now c.path_and_marks.result.1.now c.in_ok-marks.marks.now c.in_ok-mark_behind.field-0.now
    c.in_ok-behind.ensures.stands c.in_ok-line.ensures.stands.0 c.path_and_marks.ensures.parts c.path_and_marks.ensures.line c.in-Ok.ensures.path.1 c.in_ok-marks.ensures.mark c.in_ok-marks.ensures.line c.in_ok-mark_behind.ensures.mark c.in-empty.len_below

pub returns-in_err-behind-clause-finds : goal.returns-in_err-behind-clause-finds
returns-in_err-behind-clause-finds c = λ file rest is lacks same. absurd (c.in_err-behind.ensures.none (file_body file ++ 10 ∷ rest) (file-spaced file c.args.text.now rest same))

pub returns-in_err-line-clause-finds : goal.returns-in_err-line-clause-finds
returns-in_err-line-clause-finds c = λ file rest is lacks same.
    absurd (c.in_err-line.ensures.finds (file_body file) rest (file-line file is) (file-behind file c.args.text.now c.in_ok-behind.field-0.now rest c.in_ok-behind.ensures.stands same))

pub returns-in_default-clause-finds : goal.returns-in_default-clause-finds
returns-in_default-clause-finds c = λ file rest is lacks same.
    let read = file-read file c.args.text.now c.in_ok-behind.field-0.now c.in_ok-line.line.now c.in_ok-line.rest.now c.path_and_marks.result.0.now c.path_and_marks.result.1.now rest
    c.in_ok-behind.ensures.stands c.in_ok-line.ensures.finds c.path_and_marks.ensures.finds is same in
    no_fault file.path c.path_and_marks.result.0.now c.in_default.field-0 is.path read.named c.in_default.ensures.path

pub returns-in_err-marks-clause-finds : goal.returns-in_err-marks-clause-finds
returns-in_err-marks-clause-finds c = λ file rest is lacks same.
    let read = file-read file c.args.text.now c.in_ok-behind.field-0.now c.in_ok-line.line.now c.in_ok-line.rest.now c.path_and_marks.result.0.now c.path_and_marks.result.1.now rest
    c.in_ok-behind.ensures.stands c.in_ok-line.ensures.finds c.path_and_marks.ensures.finds is same in
    absurd (c.in_err-marks.ensures.finds file.details _ is.details (lacks-details file.language) read.marked)

pub returns-in_err-mark_behind-clause-finds : goal.returns-in_err-mark_behind-clause-finds
returns-in_err-mark_behind-clause-finds c = λ file rest is lacks same.
    let read = file-read file c.args.text.now c.in_ok-behind.field-0.now c.in_ok-line.line.now c.in_ok-line.rest.now c.path_and_marks.result.0.now c.path_and_marks.result.1.now rest
    c.in_ok-behind.ensures.stands c.in_ok-line.ensures.finds c.path_and_marks.ensures.finds is same in
    let more = c.in_ok-marks.ensures.finds file.details _ is.details (lacks-details file.language) read.marked in
    absurd (c.in_err-mark_behind.ensures.finds file.language [] is.language (lacks-nil 32 (codes "language=\"")) (language-there file.language _ more))

pub returns-in-empty-clause-finds : goal.returns-in-empty-clause-finds
returns-in-empty-clause-finds c = λ file rest is lacks same.
    let read = file-read file c.args.text.now c.in_ok-behind.field-0.now c.in_ok-line.line.now c.in_ok-line.rest.now c.path_and_marks.result.0.now c.path_and_marks.result.1.now rest
    c.in_ok-behind.ensures.stands c.in_ok-line.ensures.finds c.path_and_marks.ensures.finds is same in
    (read.named, read.left)

pub returns-in-len1-up-clause-finds : goal.returns-in-len1-up-clause-finds
returns-in-len1-up-clause-finds c = λ file rest is lacks same.
    let read = file-read file c.args.text.now c.in_ok-behind.field-0.now c.in_ok-line.line.now c.in_ok-line.rest.now c.path_and_marks.result.0.now c.path_and_marks.result.1.now rest
    c.in_ok-behind.ensures.stands c.in_ok-line.ensures.finds c.path_and_marks.ensures.finds is same in
    let more = c.in_ok-marks.ensures.finds file.details _ is.details (lacks-details file.language) read.marked in
    let none = c.in_ok-mark_behind.ensures.finds file.language [] is.language (lacks-nil 32 (codes "language=\"")) (language-there file.language _ more) in
    omega (arith, c.in-len1-up.len_at_least, ap length none)
