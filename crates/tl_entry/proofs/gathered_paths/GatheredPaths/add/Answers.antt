use Rattle.std.proofs.Common.{List, ℕ, refl, arith}
use Rattle.tl_entry.proofs.GatherLemmas.{among_sorted, after_last, after_late}
use Rattle.tl_entry.proofs.gathered_paths.GatheredPaths.add.Goals as goal

abbrev own : List ℕ → List ℕ
own path = path

pub returns-in_default-clause-ok : goal.returns-in_default-clause-ok
returns-in_default-clause-ok c =
    (rw (← c.self.view_is) (among_sorted own c.args.path c.self.inside.late c.self.inside.sorted (rw c.bytes.ensures.bytes at c.in_default.ensures)), refl)

pub invariant_of-self-then-at-len : goal.invariant_of-self-then-at-len
invariant_of-self-then-at-len c =
    (after_late own c.add.result c.args.path c.self.inside.sorted c.self.inside.late c.add.new.self c.in-Some.at c.self.invariant (rw c.bytes.ensures.bytes at c.in-Some.ensures) (omega arith)
    (rw c.in_ok-to_path.ensures at c.add.ensures.ok) c.add.ensures.err).0

pub returns-then-at-len-clause-ok : goal.returns-then-at-len-clause-ok
returns-then-at-len-clause-ok c =
    rw (← c.self.view_is)
    (after_late own c.add.result c.args.path c.self.inside.sorted c.self.inside.late c.add.new.self c.in-Some.at c.self.invariant (rw c.bytes.ensures.bytes at c.in-Some.ensures) (omega arith)
    (rw c.in_ok-to_path.ensures at c.add.ensures.ok) c.add.ensures.err).1.0

pub invariant_of-self-2 : goal.invariant_of-self-2
invariant_of-self-2 c =
    let place = rw c.bytes.ensures.bytes at c.in-Some.ensures in
    (after_last own c.args.path c.self.inside.sorted c.self.inside.late c.push.new.self c.in-Some.at c.self.invariant place (omega (arith, place.within)) c.in_ok-push.ensures.ok).gathered

pub returns-clause-ok : goal.returns-clause-ok
returns-clause-ok c =
    let place = rw c.bytes.ensures.bytes at c.in-Some.ensures in
    let p = after_last own c.args.path c.self.inside.sorted c.self.inside.late c.push.new.self c.in-Some.at c.self.invariant place (omega (arith, place.within)) c.in_ok-push.ensures.ok in
    rw (← c.self.view_is) (p.absent, p.same)
