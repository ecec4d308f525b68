use Rattle.std.proofs.Common.{◌≡◌, ◌+◌, ◌++◌, ◌∙◌, ap, sym, subst, ℕ, List, length, take, drop, arith}
use Rattle.std.proofs.lemmas.Bool.{cond-true, cond-false}
use Rattle.std.proofs.lemmas.List.{take_at, length-take}
use Rattle.tl_model.specs.Pictures.{quiet_join}
use Rattle.tl_journal_text.specs.Records.{is_target}
use Rattle.tl_journal.specs.Reading.{body_at}
use Rattle.tl_journal.proofs.Pieces.{same_text}
use Rattle.tl_journal.proofs.Fronts.{Front, name_cut, name_long, name_read}
use Rattle.tl_journal.proofs.fields.name_at.Goals as goal

pub returns-then-not-branch-clause-name : goal.returns-then-not-branch-clause-name
returns-then-not-branch-clause-name g c t go =
    name_cut (body_at c.args.body.now.slot (g.H.Host.seen c.args.host.now)) c.args.from _ _ go (c.in_ok-front.ensures.taken t) c.if-not-branch.true

pub returns-then-count-gt1024-clause-name : goal.returns-then-count-gt1024-clause-name
returns-then-count-gt1024-clause-name g c t go =
    name_long (body_at c.args.body.now.slot (g.H.Host.seen c.args.host.now)) c.args.from _ _ _ go (c.in_ok-front.ensures.taken t) c.if-not-branch.false c.from_be_bytes-count.ensures c.if-count-gt1024.true

pub returns-in_err-front-2-clause-quiet : goal.returns-in_err-front-2-clause-quiet
returns-in_err-front-2-clause-quiet g c t = quiet_join _ _ _ (c.front.ensures.quiet t) (c.front-2.ensures.quiet t)

pub returns-then-not-branch-2-clause-quiet : goal.returns-then-not-branch-2-clause-quiet
returns-then-not-branch-2-clause-quiet g c t = quiet_join _ _ _ (c.front.ensures.quiet t) (c.front-2.ensures.quiet t)

pub returns-then-is_target-clause-quiet : goal.returns-then-is_target-clause-quiet
returns-then-is_target-clause-quiet g c t = quiet_join _ _ _ (c.front.ensures.quiet t) (c.front-2.ensures.quiet t)

pub returns-else-is_target-clause-quiet : goal.returns-else-is_target-clause-quiet
returns-else-is_target-clause-quiet g c t = quiet_join _ _ _ (c.front.ensures.quiet t) (c.front-2.ensures.quiet t)

pub returns-then-not-branch-2-clause-name : goal.returns-then-not-branch-2-clause-name
returns-then-not-branch-2-clause-name g c t go =
    let s = g.H.Host.seen in
    let count = c.from_be_bytes-count.result in
    let bytes = body_at c.args.body.now.slot (s c.args.host.now) in
    let len : length (take count c.args.name.now) ≡ count = omega (arith, length-take count c.args.name.now) in
    let second : Front bytes (length (take count c.args.name.now)) (c.args.from + 2) c.front-2.new.into c.in_ok-front-2.field-0 =
    subst (λ (l : List ℕ). Front l (length (take count c.args.name.now)) (c.args.from + 2) c.front-2.new.into c.in_ok-front-2.field-0)
    (same_text (s c.args.host.now) (s c.front.new.host) c.args.body.now c.front.new.body (c.front.ensures.quiet t) c.front.ensures.same) (c.in_ok-front-2.ensures.taken t) in
    name_read bytes c.args.from count _ _ _ _ _ go (c.in_ok-front.ensures.taken t) c.if-not-branch.false c.from_be_bytes-count.ensures len second
    ∙ cond-false c.in_ok-front-2.field-0 _ _ c.if-not-branch-2.true

pub returns-then-is_target-clause-name : goal.returns-then-is_target-clause-name
returns-then-is_target-clause-name g c t go =
    let s = g.H.Host.seen in
    let count = c.from_be_bytes-count.result in
    let bytes = body_at c.args.body.now.slot (s c.args.host.now) in
    let len : length (take count c.args.name.now) ≡ count = omega (arith, length-take count c.args.name.now) in
    let second : Front bytes (length (take count c.args.name.now)) (c.args.from + 2) c.front-2.new.into c.in_ok-front-2.field-0 =
    subst (λ (l : List ℕ). Front l (length (take count c.args.name.now)) (c.args.from + 2) c.front-2.new.into c.in_ok-front-2.field-0)
    (same_text (s c.args.host.now) (s c.front.new.host) c.args.body.now c.front.new.body (c.front.ensures.quiet t) c.front.ensures.same) (c.in_ok-front-2.ensures.taken t) in
    let front : (rest : List ℕ) → take count (c.front-2.new.into ++ rest) ≡ c.front-2.new.into = λ rest. take_at c.front-2.new.into rest count (omega arith) in
    name_read bytes c.args.from count _ _ _ _ _ go (c.in_ok-front.ensures.taken t) c.if-not-branch.false c.from_be_bytes-count.ensures len second
    ∙ cond-true c.in_ok-front-2.field-0 _ _ c.if-not-branch-2.false
    ∙ cond-true (is_target c.front-2.new.into) _ _ (ap is_target (sym (front _)) ∙ (sym c.is_target.ensures ∙ c.if-is_target.true))
    ∙ ap (λ (l : List ℕ). go l (drop (c.args.from + 2 + count) bytes)) (sym (front _))

pub returns-else-is_target-clause-name : goal.returns-else-is_target-clause-name
returns-else-is_target-clause-name g c t go =
    let s = g.H.Host.seen in
    let count = c.from_be_bytes-count.result in
    let bytes = body_at c.args.body.now.slot (s c.args.host.now) in
    let len : length (take count c.args.name.now) ≡ count = omega (arith, length-take count c.args.name.now) in
    let second : Front bytes (length (take count c.args.name.now)) (c.args.from + 2) c.front-2.new.into c.in_ok-front-2.field-0 =
    subst (λ (l : List ℕ). Front l (length (take count c.args.name.now)) (c.args.from + 2) c.front-2.new.into c.in_ok-front-2.field-0)
    (same_text (s c.args.host.now) (s c.front.new.host) c.args.body.now c.front.new.body (c.front.ensures.quiet t) c.front.ensures.same) (c.in_ok-front-2.ensures.taken t) in
    let front : (rest : List ℕ) → take count (c.front-2.new.into ++ rest) ≡ c.front-2.new.into = λ rest. take_at c.front-2.new.into rest count (omega arith) in
    name_read bytes c.args.from count _ _ _ _ _ go (c.in_ok-front.ensures.taken t) c.if-not-branch.false c.from_be_bytes-count.ensures len second
    ∙ cond-true c.in_ok-front-2.field-0 _ _ c.if-not-branch-2.false
    ∙ cond-false (is_target c.front-2.new.into) _ _ (ap is_target (sym (front _)) ∙ (sym c.is_target.ensures ∙ c.if-is_target.false))
