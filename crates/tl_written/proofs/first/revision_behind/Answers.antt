use Rattle.tl_model.specs.Decimal.{decimal_text}
use Rattle.tl_written.proofs.FirstLemmas.{revision-stands, line_of_revision, revision_fits, no_revision, past_revision}
use Rattle.tl_written.proofs.first.revision_behind.Goals as goal

pub returns-in_err-digits-clause-finds : goal.returns-in_err-digits-clause-finds
returns-in_err-digits-clause-finds c = λ n rest small lacks same. absurd (c.in_err-digits.ensures.finds (decimal_text n) rest (line_of_revision n small) same)

pub returns-in_err-number_of-clause-finds : goal.returns-in_err-number_of-clause-finds
returns-in_err-number_of-clause-finds c = λ n rest small lacks same.
    let there = c.in_ok-digits.ensures.finds (decimal_text n) rest (line_of_revision n small) same in
    absurd (no_revision n (c.in_err-number_of.ensures.finds n (revision_fits n small) there.0))

pub returns-then-branch-lt-REVISIONS-clause-stands : goal.returns-then-branch-lt-REVISIONS-clause-stands
returns-then-branch-lt-REVISIONS-clause-stands c =
    revision-stands c.in_ok-number_of.field-0 c.in_ok-digits.digits.now c.args.text.now c.in_ok-digits.rest.now
    c.in_ok-number_of.ensures.stands.0 c.in_ok-number_of.ensures.stands.1 c.if-branch-lt-REVISIONS.true c.in_ok-digits.ensures.stands.0

pub returns-then-branch-lt-REVISIONS-clause-finds : goal.returns-then-branch-lt-REVISIONS-clause-finds
returns-then-branch-lt-REVISIONS-clause-finds c = λ n rest small lacks same. (c.in_ok-digits.ensures.finds (decimal_text n) rest (line_of_revision n small) same).1

pub returns-else-branch-lt-REVISIONS-clause-finds : goal.returns-else-branch-lt-REVISIONS-clause-finds
returns-else-branch-lt-REVISIONS-clause-finds c = λ n rest small lacks same.
    let there = c.in_ok-digits.ensures.finds (decimal_text n) rest (line_of_revision n small) same in
    past_revision c.in_ok-number_of.field-0 n (c.in_ok-number_of.ensures.finds n (revision_fits n small) there.0) small c.if-branch-lt-REVISIONS.false
