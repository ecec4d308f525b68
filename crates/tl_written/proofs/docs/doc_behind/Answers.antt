use Rattle.tl_written.proofs.DocLemmas.{no_doc, doc-stands, doc-absent, doc-read, doc-empty}
use Rattle.tl_written.proofs.docs.doc_behind.Goals as goal

pub returns-in_default-clause-stands : goal.returns-in_default-clause-stands
returns-in_default-clause-stands c = no_doc c.args.text.now

pub returns-in_default-clause-finds : goal.returns-in_default-clause-finds
returns-in_default-clause-finds c = λ doc rest is lacks same. doc-absent c.args.text.now c.in_default.ensures.finds doc rest is same

pub returns-in_err-rest-clause-finds : goal.returns-in_err-rest-clause-finds
returns-in_err-rest-clause-finds c = λ doc rest is lacks same.
    let read = doc-read c.args.text.now c.in-Some.files.now _ c.in-Some.ensures.stands.0 c.in-Some.ensures.finds doc rest is lacks same in
    absurd (c.in_err-rest.ensures.finds doc.files rest read.rising (lacks.0, tt) read.same)

pub returns-else-blocks-eq0-clause-stands : goal.returns-else-blocks-eq0-clause-stands
returns-else-blocks-eq0-clause-stands c =
    doc-stands c.args.text.now c.in-Some.files.now c.in_ok-rest.rest.now _ c.in-Some.ensures.stands.0 c.in-Some.ensures.stands.1 c.in_ok-rest.ensures.stands c.else-blocks-eq0.either

pub returns-else-blocks-eq0-clause-finds : goal.returns-else-blocks-eq0-clause-finds
returns-else-blocks-eq0-clause-finds c = λ doc rest is lacks same.
    let read = doc-read c.args.text.now c.in-Some.files.now _ c.in-Some.ensures.stands.0 c.in-Some.ensures.finds doc rest is lacks same in
    c.in_ok-rest.ensures.finds doc.files rest read.rising (lacks.0, tt) read.same

pub returns-then-rest-files-clause-finds : goal.returns-then-rest-files-clause-finds
returns-then-rest-files-clause-finds c = λ doc rest is lacks same.
    let read = doc-read c.args.text.now c.in-Some.files.now _ c.in-Some.ensures.stands.0 c.in-Some.ensures.finds doc rest is lacks same in
    let left = c.in_ok-rest.ensures.finds doc.files rest read.rising (lacks.0, tt) read.same in
    doc-empty doc _ c.in-Some.files.now rest c.in_ok-rest.rest.now read left c.if-blocks-eq0.true c.if-rest-files.true
