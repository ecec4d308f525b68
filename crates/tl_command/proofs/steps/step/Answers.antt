use Rattle.std.proofs.Common.{[], ◌∷◌, subst, arith}
use Rattle.tl_model.specs.Volume.{Volume}
use Rattle.tl_model.specs.Trace.{Step, Trace}
use Rattle.tl_journal_text.specs.Stand.{stand}
use Rattle.tl_tree.specs.Changes.{changed}
use Rattle.tl_tree.specs.Answers.{IsLostStep, IsStepError}
use Rattle.tl_tree.specs.declared.error.StepError.{StepError}
use Rattle.tl_command.specs.Endings.{no_devices}
use Rattle.tl_command.specs.Runs.{stepping}
use Rattle.tl_command.proofs.Databases.{same_tree, performs_unmade, performs_unstepped, performs_cut_step}
use Rattle.tl_command.proofs.steps.step.Goals as goal

pub returns-in-Ok-clause-made : goal.returns-in-Ok-clause-made
returns-in-Ok-clause-made g c =
    let e = c.in-Ok.ensures in
    let old = c.args.tree in
    let new = c.in-Ok.next in
    let parts = c.args.change.now.parts in
    let label = c.args.change.now.label in record {
      made = record {
        trace = λ t tree stood.
            subst (λ (v : Volume). Trace stand old.seen new.seen v (Step (changed old.db parts v) label ∷ [])) (same_tree old.seen tree (c.stands.ensures.tree t) stood) (e.stepped t).trace;
        syncs = λ t tree stood. omega (arith, e.syncs t);
        later = e.cause.later;
      };
      db = e.db.0;
      allowed = e.db.1;
      packages = λ t. (e.stepped t).packages;
    }

pub returns-in-HostFault-clause-acted : goal.returns-in-HostFault-clause-acted
returns-in-HostFault-clause-acted g c rest =
    let e = c.in-Err.ensures in
    let old = c.args.tree in
    let parts = c.args.change.now.parts in
    let label = c.args.change.now.label in
    let host = c.in-Err.field-0.host in
    performs_cut_step g.H.Host.tells g.H.Host.seen old parts label no_devices no_devices c.stands.ensures.tree rest host
    (subst (λ (f : StepError). IsStepError old parts f) c.in-HostFault.is e.error)
    (λ t. subst (λ (f : StepError). IsLostStep old parts label f (g.H.Host.seen host)) c.in-HostFault.is (e.lost t)) e.syncs e.cause.later (e.cause.failed c.in-HostFault.is)

pub returns-in-NoMemory-clause-acted : goal.returns-in-NoMemory-clause-acted
returns-in-NoMemory-clause-acted g c rest =
    let e = c.in-Err.ensures in
    let old = c.args.tree in
    let parts = c.args.change.now.parts in
    let label = c.args.change.now.label in
    let mid = g.H.Host.seen c.in-Err.field-0.host in
    let command = λ (t : Volume). stepping old.db parts label (rest t) t in
    performs_unmade g.H.Host.tells g.H.Host.seen old parts label no_devices no_devices c.stands.ensures.tree command mid c.give_up_spent.result.ending c.give_up_spent.result.state
    (λ t. (subst (λ (f : StepError). IsLostStep old parts label f mid) c.in-NoMemory.is (e.lost t)).0)
    (λ t. (subst (λ (f : StepError). IsLostStep old parts label f mid) c.in-NoMemory.is (e.lost t)).1) e.cause.later (c.give_up_spent.ensures command)

pub returns-in-TooLarge-clause-acted : goal.returns-in-TooLarge-clause-acted
returns-in-TooLarge-clause-acted g c rest =
    let e = c.in-Err.ensures in
    let old = c.args.tree in
    let parts = c.args.change.now.parts in
    let label = c.args.change.now.label in
    let mid = g.H.Host.seen c.in-Err.field-0.host in
    let found = c.in-TooLarge in
    let large = subst (λ (f : StepError). IsStepError old parts f) found.is e.error in
    performs_unstepped g.H.Host.tells g.H.Host.seen old parts label no_devices no_devices c.stands.ensures.tree rest found.what found.limit mid c.refuse_spent.result.ending c.refuse_spent.result.state
    large.0 large.1
    (λ t. (subst (λ (f : StepError). IsLostStep old parts label f mid) found.is (e.lost t)).0)
    (λ t. (subst (λ (f : StepError). IsLostStep old parts label f mid) found.is (e.lost t)).1) e.cause.later c.refuse_spent.ensures
