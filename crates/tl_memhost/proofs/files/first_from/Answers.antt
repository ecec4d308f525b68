use Rattle.tl_memhost.proofs.Held.{first_none, first_some}
use Rattle.tl_memhost.proofs.files.first_from.Goals as goal

pub returns-in-Some : goal.returns-in-Some
returns-in-Some c = first_some c.args.start c.args.held.now c.range.result c.next.new.self (c.in-Some.name.now, c.in-Some.field-0-1.now) c.as_slice.result.now c.in-Some.ensures.steps c.as_slice.ensures.value (c.range.ensures.in_range tt)

pub returns-in-None : goal.returns-in-None
returns-in-None c = first_none c.args.start c.args.held.now c.range.result c.in-None.ensures.steps.0 (c.range.ensures.in_range tt)
