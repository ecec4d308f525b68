use Rattle.std.proofs.Common.{sym, subst}
use Rattle.tl_model.specs.Volume.{Volume}
use Rattle.tl_model.specs.Seen.{Seen}
use Rattle.tl_db.specs.Canonical.{IsRewritten}
use Rattle.tl_tree.specs.Answers.{IsTreeError}
use Rattle.tl_tree.specs.declared.error.TreeError.{TreeError}
use Rattle.tl_tree.specs.declared.error.TreeError.TheVariants as loading
use Rattle.tl_tree.specs.Planted.{database_text}
use Rattle.tl_journal_text.specs.Stand.{tree_of}
use Rattle.tl_refusal.specs.declared.refusal.Refusal.TheVariants.{BadDatabase, TooLarge}
use Rattle.tl_command.specs.declared.ending.Ending.TheVariants.{HostFault}
use Rattle.tl_command.specs.Endings.{no_devices}
use Rattle.tl_command.specs.Runs.{over_database}
use Rattle.tl_command.specs.Loaded.{Rewrites}
use Rattle.tl_command.proofs.Joins.{performs_of, performs_quiet, advances_quiet}
use Rattle.tl_command.proofs.Limits.{over-bad, over-too_large}
use Rattle.tl_command.proofs.Databases.{same_tree, performs_unread, performs_refused_database}
use Rattle.tl_command.proofs.database.canonical_database.Goals as goal

pub returns-in-Ok-clause-text : goal.returns-in-Ok-clause-text
returns-in-Ok-clause-text g c =
    let e = c.in-Ok.ensures in
    let first = c.into_journal-journal.result in
    let text = c.in-Ok.text.items in
    subst (λ (s : Seen). Rewrites g.H.Host.tells s c.of_journal.result text) c.into_journal-journal.ensures
    (subst (λ (s : Seen). Rewrites g.H.Host.tells first s text) (sym c.of_journal.ensures) (record {
      quiet = advances_quiet g.H.Host.tells first c.canonical_database.new.journal e.same e.cause.later;
      text = λ t tree stood. subst (λ (v : Volume). IsRewritten (database_text v) text) (same_tree first tree (c.stands.ensures.tree t) stood) (e.text t);
      plain = e.plain;
    }))

pub returns-in-Err-HostFault-clause-acted : goal.returns-in-Err-HostFault-clause-acted
returns-in-Err-HostFault-clause-acted g c go =
    let e = c.in-Err-HostFault.ensures in
    let first = c.into_journal-journal.result in
    let command = λ (tree : Volume). over_database (go tree) (database_text tree) in
    performs_of g.H.Host.tells g.H.Host.seen command first c.args.session HostFault _ c.into_journal-journal.ensures
    (performs_unread g.H.Host.tells g.H.Host.seen first no_devices no_devices command c.into_host.result c.canonical_database.new.journal c.into_host.ensures e.same e.cause.later (e.cause.failed c.in-Err-HostFault.field-0-is))

pub returns-in-Err-NoMemory-clause-acted : goal.returns-in-Err-NoMemory-clause-acted
returns-in-Err-NoMemory-clause-acted g c go =
    let e = c.in-Err-NoMemory.ensures in
    let first = c.into_journal-journal.result in
    let mid = c.canonical_database.new.journal in
    let command = λ (tree : Volume). over_database (go tree) (database_text tree) in
    let ending = c.give_up.result.ending in
    let state = c.give_up.result.state in
    performs_of g.H.Host.tells g.H.Host.seen command first c.args.session ending state c.into_journal-journal.ensures
    (performs_quiet g.H.Host.tells g.H.Host.seen 0 first no_devices no_devices ending state command mid (advances_quiet g.H.Host.tells first mid e.same e.cause.later) (performs_of _ _ _ _ _ _ _ c.of_journal-in-Err-NoMemory.ensures (c.give_up.ensures command)))

pub returns-in-Err-BadDatabase-clause-acted : goal.returns-in-Err-BadDatabase-clause-acted
returns-in-Err-BadDatabase-clause-acted g c go =
    let found = c.in-Err-BadDatabase in
    let e = found.ensures in
    let first = c.into_journal-journal.result in
    let ending = c.refuse.result.ending in
    let state = c.refuse.result.state in
    performs_of g.H.Host.tells g.H.Host.seen (λ tree. over_database (go tree) (database_text tree)) first c.args.session ending state c.into_journal-journal.ensures
    (performs_refused_database g.H.Host.tells g.H.Host.seen first no_devices no_devices (BadDatabase found.line found.kind) (λ text. IsTreeError text (loading.BadDatabase found.line found.kind))
    (λ go text error. over-bad go text found.line found.kind error) c.canonical_database.new.journal ending state c.stands.ensures.tree e.same e.cause.later
    (λ t. subst (λ (f : TreeError). IsTreeError (database_text (tree_of first.present.held)) f) found.field-0-is (e.error t)) (performs_of _ _ _ _ _ _ _ c.of_journal-in-Err-BadDatabase.ensures c.refuse.ensures.performs) go)

pub returns-in-Err-TooLarge-clause-acted : goal.returns-in-Err-TooLarge-clause-acted
returns-in-Err-TooLarge-clause-acted g c go =
    let found = c.in-Err-TooLarge in
    let e = found.ensures in
    let first = c.into_journal-journal.result in
    let ending = c.refuse-in-Err-TooLarge.result.ending in
    let state = c.refuse-in-Err-TooLarge.result.state in
    performs_of g.H.Host.tells g.H.Host.seen (λ tree. over_database (go tree) (database_text tree)) first c.args.session ending state c.into_journal-journal.ensures
    (performs_refused_database g.H.Host.tells g.H.Host.seen first no_devices no_devices (TooLarge found.what found.limit) (λ text. IsTreeError text (loading.TooLarge found.what found.limit))
    (λ go text error. over-too_large go text found.what found.limit error) c.canonical_database.new.journal ending state c.stands.ensures.tree e.same e.cause.later
    (λ t. subst (λ (f : TreeError). IsTreeError (database_text (tree_of first.present.held)) f) found.field-0-is (e.error t)) (performs_of _ _ _ _ _ _ _ c.of_journal-in-Err-TooLarge.ensures c.refuse-in-Err-TooLarge.ensures.performs) go)
