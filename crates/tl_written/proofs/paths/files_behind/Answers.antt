use Rattle.tl_written.proofs.PathLemmas.{no_section, section_stands, files_absent, files_found, files_some}
use Rattle.tl_written.proofs.paths.files_behind.Goals as goal

pub returns-in_default-clause-stands : goal.returns-in_default-clause-stands
returns-in_default-clause-stands c = no_section c.args.key.now c.args.text.now

pub returns-in_default-clause-finds : goal.returns-in_default-clause-finds
returns-in_default-clause-finds c = λ files rest formed lacks same. files_absent c.args.key.now c.args.text.now rest files formed same c.in_default.ensures.finds

pub returns-in_err-rest-clause-finds : goal.returns-in_err-rest-clause-finds
returns-in_err-rest-clause-finds c = λ files rest formed lacks same.
    let there = files_found c.args.key.now c.args.text.now c.in-Some.paths.now rest _ files formed lacks c.in-Some.ensures.stands.0 same c.in-Some.ensures.finds in
    absurd (c.in_err-rest.ensures.finds files.paths rest there.rising there.lacks there.same)

pub returns-then-rest-paths-clause-finds : goal.returns-then-rest-paths-clause-finds
returns-then-rest-paths-clause-finds c = λ files rest formed lacks same.
    let there = files_found c.args.key.now c.args.text.now c.in-Some.paths.now rest _ files formed lacks c.in-Some.ensures.stands.0 same c.in-Some.ensures.finds in
    let left = c.in_ok-rest.ensures.finds files.paths rest there.rising there.lacks there.same in
    files_some _ c.in-Some.paths.now rest c.in_ok-rest.rest.now files there left c.if-blocks-eq0.true c.if-rest-paths.true

pub returns-else-blocks-eq0-clause-stands : goal.returns-else-blocks-eq0-clause-stands
returns-else-blocks-eq0-clause-stands c =
    section_stands c.args.key.now c.args.text.now c.in-Some.paths.now c.in_ok-rest.rest.now _ c.requires c.in-Some.ensures.stands.0 c.in-Some.ensures.stands.1 c.in_ok-rest.ensures.stands
    c.else-blocks-eq0.either

pub returns-else-blocks-eq0-clause-finds : goal.returns-else-blocks-eq0-clause-finds
returns-else-blocks-eq0-clause-finds c = λ files rest formed lacks same.
    let there = files_found c.args.key.now c.args.text.now c.in-Some.paths.now rest _ files formed lacks c.in-Some.ensures.stands.0 same c.in-Some.ensures.finds in
    c.in_ok-rest.ensures.finds files.paths rest there.rising there.lacks there.same
