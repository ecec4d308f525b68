use Rattle.std.proofs.Common.{◌≡◌, subst, OnOk}
use Rattle.tl_entry.specs.declared.object.Object.{Object}
use Rattle.tl_tree.specs.Changes.{with_entry}
use Rattle.tl_tree.proofs.entries.put_entry.Goals as goal

pub returns : goal.returns
returns c = subst (λ (o : Object). OnOk c.with.result (c.with.new.self ≡ with_entry o c.args.db.now)) c.in_ok-copy.ensures c.with.ensures.ok
