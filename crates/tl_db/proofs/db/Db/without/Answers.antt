use Rattle.tl_db.proofs.DbLemmas.{name}
use Rattle.tl_db.proofs.FindLemmas.{left_out, nothing_left_out}
use Rattle.tl_db.proofs.db.Db.without.Goals as goal

pub invariant_of-self : goal.invariant_of-self
invariant_of-self c =
    (left_out name c.args.name.now c.bytes.result.now c.self.inside.objects.items c.as_slice.result.now c.remove.new.self.items c.in-Some.at c.remove.result
    c.as_slice.ensures.value c.bytes.ensures.bytes c.self.invariant c.in-Some.ensures.0 c.in-Some.ensures.1 c.remove.ensures.items).rising

pub returns-in-Some-clause-left : goal.returns-in-Some-clause-left
returns-in-Some-clause-left c =
    let left = left_out name c.args.name.now c.bytes.result.now c.self.inside.objects.items c.as_slice.result.now c.remove.new.self.items c.in-Some.at c.remove.result
    c.as_slice.ensures.value c.bytes.ensures.bytes c.self.invariant c.in-Some.ensures.0 c.in-Some.ensures.1 c.remove.ensures.items in
    rw (← c.self.view_is) left.same

pub returns-in-None-clause-left : goal.returns-in-None-clause-left
returns-in-None-clause-left c =
    rw (← c.self.view_is) (nothing_left_out name c.args.name.now c.bytes.result.now c.self.inside.objects.items c.as_slice.result.now c.as_slice.ensures.value c.bytes.ensures.bytes c.in-None.ensures).1
