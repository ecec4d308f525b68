use Rattle.std.proofs.Common.{subst, refl}
use Rattle.tl_model.specs.Volume.{Volume}
use Rattle.tl_tree.specs.Answers.{IsTreeError}
use Rattle.tl_tree.specs.declared.error.TreeError.{TreeError}
use Rattle.tl_tree.specs.Planted.{database_text}
use Rattle.tl_journal_text.specs.Stand.{tree_of}
use Rattle.tl_tree.specs.declared.error.TreeError.TheVariants as loading
use Rattle.tl_refusal.specs.declared.refusal.Refusal.TheVariants.{BadDatabase, TooLarge}
use Rattle.tl_command.specs.declared.ending.Ending.TheVariants.{HostFault}
use Rattle.tl_command.specs.Endings.{no_devices}
use Rattle.tl_command.specs.Runs.{over_database}
use Rattle.tl_command.proofs.Joins.{performs_of, performs_quiet, advances_quiet}
use Rattle.tl_command.proofs.Limits.{over-bad, over-too_large}
use Rattle.tl_command.proofs.Databases.{loads_read, performs_unread, performs_refused_database}
use Rattle.tl_command.proofs.database.load_at_rest.Goals as goal

pub returns-in-Ok-clause-loaded : goal.returns-in-Ok-clause-loaded
returns-in-Ok-clause-loaded g c =
    let e = c.in-Ok.ensures in
    loads_read g.H.Host.tells c.args.journal c.in-Ok.tree c.stands.ensures.tree e.same e.cause.later e.db

pub returns-in-HostFault-clause-acted : goal.returns-in-HostFault-clause-acted
returns-in-HostFault-clause-acted g c go =
    let e = c.in-Err.ensures in
    let first = c.args.journal in
    let host = c.in-Err.field-0.host in
    performs_of g.H.Host.tells g.H.Host.seen (λ tree. over_database (go tree) (database_text tree)) first c.args.journal HostFault _ refl
    (performs_unread g.H.Host.tells g.H.Host.seen first no_devices no_devices (λ tree. over_database (go tree) (database_text tree)) host (g.H.Host.seen host) refl e.same e.cause.later (e.cause.failed c.in-HostFault.is))

pub returns-in-NoMemory-clause-acted : goal.returns-in-NoMemory-clause-acted
returns-in-NoMemory-clause-acted g c go =
    let e = c.in-Err.ensures in
    let first = c.args.journal in
    let mid = g.H.Host.seen c.in-Err.field-0.host in
    let command = λ (tree : Volume). over_database (go tree) (database_text tree) in
    let ending = c.give_up_spent.result.ending in
    let state = c.give_up_spent.result.state in
    performs_of g.H.Host.tells g.H.Host.seen command first c.args.journal ending state refl
    (performs_quiet g.H.Host.tells g.H.Host.seen 0 first no_devices no_devices ending state command mid (advances_quiet g.H.Host.tells first mid e.same e.cause.later) (c.give_up_spent.ensures command))

pub returns-in-BadDatabase-clause-acted : goal.returns-in-BadDatabase-clause-acted
returns-in-BadDatabase-clause-acted g c go =
    let e = c.in-Err.ensures in
    let first = c.args.journal in
    let mid = g.H.Host.seen c.in-Err.field-0.host in
    let found = c.in-BadDatabase in
    let ending = c.refuse_spent.result.ending in
    let state = c.refuse_spent.result.state in
    performs_of g.H.Host.tells g.H.Host.seen (λ tree. over_database (go tree) (database_text tree)) first c.args.journal ending state refl
    (performs_refused_database g.H.Host.tells g.H.Host.seen first no_devices no_devices (BadDatabase found.line found.kind) (λ text. IsTreeError text (loading.BadDatabase found.line found.kind))
    (λ go text error. over-bad go text found.line found.kind error) mid ending state c.stands.ensures.tree e.same e.cause.later
    (λ t. subst (λ (f : TreeError). IsTreeError (database_text (tree_of first.present.held)) f) found.is (e.error t)) c.refuse_spent.ensures go)

pub returns-in-TooLarge-clause-acted : goal.returns-in-TooLarge-clause-acted
returns-in-TooLarge-clause-acted g c go =
    let e = c.in-Err.ensures in
    let first = c.args.journal in
    let mid = g.H.Host.seen c.in-Err.field-0.host in
    let found = c.in-TooLarge in
    let ending = c.refuse_spent-in-TooLarge.result.ending in
    let state = c.refuse_spent-in-TooLarge.result.state in
    performs_of g.H.Host.tells g.H.Host.seen (λ tree. over_database (go tree) (database_text tree)) first c.args.journal ending state refl
    (performs_refused_database g.H.Host.tells g.H.Host.seen first no_devices no_devices (TooLarge found.what found.limit) (λ text. IsTreeError text (loading.TooLarge found.what found.limit))
    (λ go text error. over-too_large go text found.what found.limit error) mid ending state c.stands.ensures.tree e.same e.cause.later
    (λ t. subst (λ (f : TreeError). IsTreeError (database_text (tree_of first.present.held)) f) found.is (e.error t)) c.refuse_spent-in-TooLarge.ensures go)
