use Rattle.std.proofs.Common.{sym, subst, arith}
use Rattle.tl_model.specs.Volume.{Volume}
use Rattle.tl_journal_text.specs.Stand.{tree_of}
use Rattle.tl_tree.specs.Answers.{IsStepError}
use Rattle.tl_tree.specs.Traces.{stays_trace, stays_cut}
use Rattle.tl_tree.specs.declared.error.StepError.{StepError}
use Rattle.tl_refusal.specs.declared.refusal.Refusal.TheVariants.{TooLarge}
use Rattle.tl_command.specs.Endings.{no_devices}
use Rattle.tl_command.specs.Runs.{changing_entries, refused}
use Rattle.tl_command.proofs.Databases.{performs_unmade}
use Rattle.tl_command.proofs.Joins.{performs_cut_off, performs_same}
use Rattle.tl_command.proofs.Limits.{changing-too_large}
use Rattle.tl_command.proofs.opening.open_step.Goals as goal

pub returns-in-Ok-clause-opened : goal.returns-in-Ok-clause-opened
returns-in-Ok-clause-opened g c =
    let e = c.in-Ok.ensures in record {
      begins = e.opened.0;
      given_none = λ t. e.given t;
      allowed = e.opened.1;
      stands = c.stands.ensures.tree;
      stages = λ t. e.stages t;
      later = e.cause.later;
    }

pub returns-in-HostFault-clause-acted : goal.returns-in-HostFault-clause-acted
returns-in-HostFault-clause-acted g c go =
    let e = c.in-Err.ensures in
    let old = c.args.tree in
    let host = c.in-Err.field-0.host in
    performs_cut_off g.H.Host.tells g.H.Host.seen old.seen host no_devices no_devices (λ t. changing_entries old.db c.args.change.now.parts (go t))
    (λ t tree stood. stays_cut old.seen (g.H.Host.seen host) tree stood (e.stages t).stays)
    (λ t. let same = (e.stages t).syncs in omega (arith, same)) e.cause.later (e.cause.failed c.in-HostFault.is)

pub returns-in-NoMemory-clause-acted : goal.returns-in-NoMemory-clause-acted
returns-in-NoMemory-clause-acted g c go =
    let e = c.in-Err.ensures in
    let old = c.args.tree in
    let parts = c.args.change.now.parts in
    let mid = g.H.Host.seen c.in-Err.field-0.host in
    let command = λ (t : Volume). changing_entries old.db parts (go t) in
    performs_unmade g.H.Host.tells g.H.Host.seen old parts c.args.change.now.label no_devices no_devices c.stands.ensures.tree command mid c.give_up_spent.result.ending c.give_up_spent.result.state
    (λ t. stays_trace old.seen mid (tree_of old.seen.present.held) (c.stands.ensures.tree t) (e.stages t).stays) (λ t. (e.stages t).syncs) e.cause.later (c.give_up_spent.ensures command)

pub returns-in-TooLarge-clause-acted : goal.returns-in-TooLarge-clause-acted
returns-in-TooLarge-clause-acted g c go =
    let e = c.in-Err.ensures in
    let old = c.args.tree in
    let parts = c.args.change.now.parts in
    let mid = g.H.Host.seen c.in-Err.field-0.host in
    let found = c.in-TooLarge in
    let large = subst (λ (f : StepError). IsStepError old parts f) found.is e.error in
    let refusing = λ (t : Volume). refused (TooLarge found.what found.limit) in
    let command = λ (t : Volume). changing_entries old.db parts (go t) in
    performs_same g.H.Host.tells g.H.Host.seen 0 old.seen no_devices no_devices c.refuse_spent.result.ending c.refuse_spent.result.state refusing command
    (λ t tree stood. sym (changing-too_large old.db parts (go tree) found.what found.limit large.0 large.1))
    (performs_unmade g.H.Host.tells g.H.Host.seen old parts c.args.change.now.label no_devices no_devices c.stands.ensures.tree refusing mid c.refuse_spent.result.ending c.refuse_spent.result.state
    (λ t. stays_trace old.seen mid (tree_of old.seen.present.held) (c.stands.ensures.tree t) (e.stages t).stays) (λ t. (e.stages t).syncs) e.cause.later c.refuse_spent.ensures)
