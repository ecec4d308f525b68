use Rattle.tl_entry.proofs.RisingLemmas.{placed}
use Rattle.tl_db.proofs.db.Db.add.Goals as goal

pub invariant_of-self-2 : goal.invariant_of-self-2
invariant_of-self-2 c =
    (placed (λ x. x.name) c.args.object c.key.result.now c.as_slice.result.now c.self.inside.objects.items c.insert.new.self.items c.in-Some.at c.key.ensures c.as_slice.ensures.value c.self.invariant c.in-Some.ensures c.in_ok-insert.ensures.items).rising

pub returns-clause-ok : goal.returns-clause-ok
returns-clause-ok c =
    let p = placed (λ x. x.name) c.args.object c.key.result.now c.as_slice.result.now c.self.inside.objects.items c.insert.new.self.items c.in-Some.at c.key.ensures c.as_slice.ensures.value c.self.invariant c.in-Some.ensures c.in_ok-insert.ensures.items in
    rw (← c.self.view_is) p.same
