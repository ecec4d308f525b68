use Rattle.std.proofs.Common.{◌≡◌, ◌+◌, ◌∙◌, subst, inl, inr, arith, List, ℕ, length, take}
use Rattle.std.proofs.lemmas.List.{length-take}
use Rattle.std.proofs.lemmas.Result.{IfOk-weaker}
use Rattle.tl_model.specs.Pictures.{quiet_join}
use Rattle.tl_journal.specs.declared.fields.Field.{Field}
use Rattle.tl_journal.specs.declared.fields.Field.TheVariants as fields
use Rattle.tl_journal.specs.Items.{NameGoes, IsFieldInside, IsWritten}
use Rattle.tl_journal.specs.Reading.{body_at}
use Rattle.tl_journal.proofs.Pieces.{same_text}
use Rattle.tl_journal.proofs.Fronts.{kind_cut, end_found, end_missing, other_found, remove_found, name_missing, write_found}
use Rattle.tl_journal.proofs.fields.next.Goals as goal

pub returns-then-not-branch-clause-item : goal.returns-then-not-branch-clause-item
returns-then-not-branch-clause-item g c t = kind_cut (body_at c.args.body.now.slot (g.H.Host.seen c.args.host.now)) c.args.from _ _ (c.in_ok-front.ensures.taken t) c.if-not-branch.true

pub returns-then-size-from-eq1-clause-item : goal.returns-then-size-from-eq1-clause-item
returns-then-size-from-eq1-clause-item g c t =
    let is = (c.requires.part t).size in
    let size = c.size.ensures in
    let same = c.front.ensures.same.size in
    end_found (body_at c.args.body.now.slot (g.H.Host.seen c.args.host.now)) c.args.from _ _ (c.in_ok-front.ensures.taken t) c.if-not-branch.false c.if-kind-eq69.true (omega (arith, c.if-size-from-eq1.true))

pub returns-else-size-from-eq1-clause-item : goal.returns-else-size-from-eq1-clause-item
returns-else-size-from-eq1-clause-item g c t =
    let is = (c.requires.part t).size in
    let size = c.size.ensures in
    let same = c.front.ensures.same.size in
    let inside = c.in_ok-front.ensures.inside c.if-not-branch.false in
    end_missing (body_at c.args.body.now.slot (g.H.Host.seen c.args.host.now)) c.args.from _ _ (c.in_ok-front.ensures.taken t) c.if-not-branch.false c.if-kind-eq69.true (omega arith) (λ one. c.if-size-from-eq1.false (omega arith))

pub returns-in_err-count-clause-quiet : goal.returns-in_err-count-clause-quiet
returns-in_err-count-clause-quiet g c t = quiet_join _ _ _ (c.front.ensures.quiet t) (c.name_at.ensures.quiet t)

pub returns-in-Whole-clause-quiet : goal.returns-in-Whole-clause-quiet
returns-in-Whole-clause-quiet g c t = quiet_join _ _ _ (c.front.ensures.quiet t) (c.name_at.ensures.quiet t)

pub returns-in-Faulty-clause-quiet : goal.returns-in-Faulty-clause-quiet
returns-in-Faulty-clause-quiet g c t = quiet_join _ _ _ (c.front.ensures.quiet t) (c.name_at.ensures.quiet t)

pub returns-in-Whole-clause-item : goal.returns-in-Whole-clause-item
returns-in-Whole-clause-item g c t =
    let s = g.H.Host.seen in
    let bytes = body_at c.args.body.now.slot (s c.args.host.now) in
    let text = same_text (s c.args.host.now) (s c.front.new.host) c.args.body.now c.front.new.body (c.front.ensures.quiet t) c.front.ensures.same in
    remove_found bytes c.args.from c.in-Whole.count _ c.name_at.new.name _ (c.in_ok-front.ensures.taken t) c.if-not-branch.false c.if-kind-eq82.true
    (subst (λ (l : List ℕ). NameGoes l (c.args.from + 1) c.name_at.new.name (fields.Whole c.in-Whole.count)) text
    (subst (λ (o : Field). NameGoes (body_at c.front.new.body.slot (s c.front.new.host)) (c.args.from + 1) c.name_at.new.name o) c.in-Whole.is (c.in_ok-count.ensures.name t)))

pub returns-in-Faulty-clause-item : goal.returns-in-Faulty-clause-item
returns-in-Faulty-clause-item g c t =
    let s = g.H.Host.seen in
    let bytes = body_at c.args.body.now.slot (s c.args.host.now) in
    let text = same_text (s c.args.host.now) (s c.front.new.host) c.args.body.now c.front.new.body (c.front.ensures.quiet t) c.front.ensures.same in
    name_missing bytes c.args.from c.in-Faulty.place _ c.name_at.new.name _ (c.in_ok-front.ensures.taken t) c.if-not-branch.false (inl c.if-kind-eq82.true)
    (subst (λ (l : List ℕ). NameGoes l (c.args.from + 1) c.name_at.new.name (fields.Faulty c.in-Faulty.place)) text
    (subst (λ (o : Field). NameGoes (body_at c.front.new.body.slot (s c.front.new.host)) (c.args.from + 1) c.name_at.new.name o) c.in-Faulty.is (c.in_ok-count.ensures.name t)))

pub returns-in_err-count-2-clause-quiet : goal.returns-in_err-count-2-clause-quiet
returns-in_err-count-2-clause-quiet g c t = quiet_join _ _ _ (c.front.ensures.quiet t) (c.name_at-then-kind-eq87.ensures.quiet t)

pub returns-in-Faulty-2-clause-quiet : goal.returns-in-Faulty-2-clause-quiet
returns-in-Faulty-2-clause-quiet g c t = quiet_join _ _ _ (c.front.ensures.quiet t) (c.name_at-then-kind-eq87.ensures.quiet t)

pub returns-in-Faulty-2-clause-item : goal.returns-in-Faulty-2-clause-item
returns-in-Faulty-2-clause-item g c t =
    let s = g.H.Host.seen in
    let bytes = body_at c.args.body.now.slot (s c.args.host.now) in
    let text = same_text (s c.args.host.now) (s c.front.new.host) c.args.body.now c.front.new.body (c.front.ensures.quiet t) c.front.ensures.same in
    name_missing bytes c.args.from c.in-Faulty-2.place _ c.name_at-then-kind-eq87.new.name _ (c.in_ok-front.ensures.taken t) c.if-not-branch.false (inr c.if-kind-eq87.true)
    (subst (λ (l : List ℕ). NameGoes l (c.args.from + 1) c.name_at-then-kind-eq87.new.name (fields.Faulty c.in-Faulty-2.place)) text
    (subst (λ (o : Field). NameGoes (body_at c.front.new.body.slot (s c.front.new.host)) (c.args.from + 1) c.name_at-then-kind-eq87.new.name o) c.in-Faulty-2.is (c.in_ok-count-2.ensures.name t)))

pub returns-in-Whole-2-clause-quiet : goal.returns-in-Whole-2-clause-quiet
returns-in-Whole-2-clause-quiet g c t = quiet_join _ _ _ (quiet_join _ _ _ (c.front.ensures.quiet t) (c.name_at-then-kind-eq87.ensures.quiet t)) (c.written.ensures.quiet t)

pub returns-in-Whole-2-clause-item : goal.returns-in-Whole-2-clause-item
returns-in-Whole-2-clause-item g c t =
    let s = g.H.Host.seen in
    let bytes = body_at c.args.body.now.slot (s c.args.host.now) in
    let buffer = c.name_at-then-kind-eq87.new.name in
    let count = c.in-Whole-2.count in
    let first = same_text (s c.args.host.now) (s c.front.new.host) c.args.body.now c.front.new.body (c.front.ensures.quiet t) c.front.ensures.same in
    let text = same_text (s c.front.new.host) (s c.name_at-then-kind-eq87.new.host) c.front.new.body c.name_at-then-kind-eq87.new.body (c.name_at-then-kind-eq87.ensures.quiet t) c.name_at-then-kind-eq87.ensures.same ∙ first in
    let name = subst (λ (l : List ℕ). NameGoes l (c.args.from + 1) buffer (fields.Whole count)) first
    (subst (λ (o : Field). NameGoes (body_at c.front.new.body.slot (s c.front.new.host)) (c.args.from + 1) buffer o) c.in-Whole-2.is (c.in_ok-count-2.ensures.name t)) in
    let inside = subst (λ (o : Field). IsFieldInside c.front.new.body.size (c.args.from + 1) buffer o) c.in-Whole-2.is c.in_ok-count-2.ensures.inside in
    let len : length (take count buffer) ≡ count = omega (arith, length-take count buffer, inside.1) in
    IfOk-weaker c.written.result _ _ (λ item is. write_found bytes c.args.from count _ buffer _ item (c.in_ok-front.ensures.taken t) c.if-not-branch.false c.if-kind-eq87.true name len
    (subst (λ (l : List ℕ). IsWritten l (c.args.from + 3 + count) (take count buffer) buffer item) text (is buffer))) (c.written.ensures.item t)

pub returns-clause-item : goal.returns-clause-item
returns-clause-item g c t =
    other_found (body_at c.args.body.now.slot (g.H.Host.seen c.args.host.now)) c.args.from _ _ (c.in_ok-front.ensures.taken t) c.if-not-branch.false c.if-kind-eq69.false c.if-kind-eq82.false c.if-kind-eq87.false
