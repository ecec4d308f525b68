use Rattle.tl_written.proofs.DocLemmas.{line_quoted, line_mark, line_marked, mark-stands, mark-read, text_as}
use Rattle.tl_written.proofs.docs.mark_behind.Goals as goal

pub is_text-requires : goal.is_text-requires
is_text-requires c =
    line_mark c.in_ok-mark.mark.now c.in_ok-mark.rest.now c.in-Some-behind.quoted.now
    (line_quoted c.args.word.now c.args.line.now c.in-Some.marked.now c.in-Some-behind.quoted.now c.requires c.in-Some.ensures.stands c.in-Some-behind.ensures.stands) c.in_ok-mark.ensures.stands.0

pub returns-then-is_text-clause-mark : goal.returns-then-is_text-clause-mark
returns-then-is_text-clause-mark c =
    mark-stands c.args.word.now c.args.line.now c.in-Some.marked.now c.in-Some-behind.quoted.now c.in_ok-mark.mark.now c.in_ok-mark.rest.now
    c.in-Some.ensures.stands c.in-Some-behind.ensures.stands c.in_ok-mark.ensures.stands.0 c.in_ok-mark.ensures.stands.1 (c.is_text.ensures.is c.if-is_text.true)

pub returns-then-is_text-clause-line : goal.returns-then-is_text-clause-line
returns-then-is_text-clause-line c =
    line_marked c.in_ok-mark.mark.now c.in_ok-mark.rest.now c.in-Some-behind.quoted.now
    (line_quoted c.args.word.now c.args.line.now c.in-Some.marked.now c.in-Some-behind.quoted.now c.requires c.in-Some.ensures.stands c.in-Some-behind.ensures.stands) c.in_ok-mark.ensures.stands.0

pub returns-in_err-mark-clause-finds : goal.returns-in_err-mark-clause-finds
returns-in_err-mark-clause-finds c = λ mark rest is lacks same.
    let read = mark-read c.args.word.now c.args.line.now c.in-Some.marked.now c.in-Some-behind.quoted.now mark rest c.in-Some.ensures.stands c.in-Some-behind.ensures.stands is lacks same in
    absurd (c.in_err-mark.ensures.finds read.text rest read.bare read.same)

pub returns-then-is_text-clause-finds : goal.returns-then-is_text-clause-finds
returns-then-is_text-clause-finds c = λ mark rest is lacks same.
    let read = mark-read c.args.word.now c.args.line.now c.in-Some.marked.now c.in-Some-behind.quoted.now mark rest c.in-Some.ensures.stands c.in-Some-behind.ensures.stands is lacks same in
    (c.in_ok-mark.ensures.finds read.text rest read.bare read.same).1

pub returns-else-is_text-clause-finds : goal.returns-else-is_text-clause-finds
returns-else-is_text-clause-finds c = λ mark rest is lacks same.
    let read = mark-read c.args.word.now c.args.line.now c.in-Some.marked.now c.in-Some-behind.quoted.now mark rest c.in-Some.ensures.stands c.in-Some-behind.ensures.stands is lacks same in
    text_as c.in_ok-mark.mark.now read.text _ c.is_text.ensures.all (c.in_ok-mark.ensures.finds read.text rest read.bare read.same).0 read.is c.if-is_text.false
