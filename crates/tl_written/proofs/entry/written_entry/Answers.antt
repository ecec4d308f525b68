use Rattle.std.proofs.Common.{◌∷◌}
use Rattle.tl_written.proofs.EntryLemmas.{entry-stands}
use Rattle.tl_written.proofs.EntryFindLemmas.{entry-cut, entry-lacks}
use Rattle.tl_written.proofs.entry.written_entry.Goals as goal

pub returns-clause-stands : goal.returns-clause-stands
returns-clause-stands c =
    entry-stands c.in_ok-name.name.now c.args.text.now c.in_ok-name.rest.now c.in_ok-rest.rest.now c.in_ok-rest-2.rest.now c.facts_behind.result.now
    c.in_ok-name.ensures.stands c.in_ok-rest.ensures.stands c.in_ok-rest-2.ensures.stand c.facts_behind.ensures.stand

pub returns-in_err-name-clause-finds : goal.returns-in_err-name-clause-finds
returns-in_err-name-clause-finds c = λ o rest formed same.
    absurd (c.in_err-name.ensures.finds o _ formed.front (entry-lacks o rest).front (entry-cut o c.args.text.now (10 ∷ rest) same))

pub returns-in_err-rest-clause-finds : goal.returns-in_err-rest-clause-finds
returns-in_err-rest-clause-finds c = λ o rest formed same.
    let one = c.in_ok-name.ensures.finds o _ formed.front (entry-lacks o rest).front (entry-cut o c.args.text.now (10 ∷ rest) same) in
    absurd (c.in_err-rest.ensures.finds o _ formed.texts (entry-lacks o rest).texts one.1)

pub returns-in_err-rest-2-clause-finds : goal.returns-in_err-rest-2-clause-finds
returns-in_err-rest-2-clause-finds c = λ o rest formed same.
    let one = c.in_ok-name.ensures.finds o _ formed.front (entry-lacks o rest).front (entry-cut o c.args.text.now (10 ∷ rest) same) in
    let two = c.in_ok-rest.ensures.finds o _ formed.texts (entry-lacks o rest).texts one.1 in
    absurd (c.in_err-rest-2.ensures.finds o _ formed.files (entry-lacks o rest).files two)

pub returns-clause-finds : goal.returns-clause-finds
returns-clause-finds c = λ o rest formed same.
    let one = c.in_ok-name.ensures.finds o _ formed.front (entry-lacks o rest).front (entry-cut o c.args.text.now (10 ∷ rest) same) in
    let two = c.in_ok-rest.ensures.finds o _ formed.texts (entry-lacks o rest).texts one.1 in
    let three = c.in_ok-rest-2.ensures.finds o _ formed.files (entry-lacks o rest).files two in
    (one.0, c.facts_behind.ensures.finds o.catalogue_facts (10 ∷ rest) formed.facts (entry-lacks o rest).facts three)
