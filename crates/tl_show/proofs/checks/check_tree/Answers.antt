use Rattle.std.proofs.Common.{List, ℕ, ap, subst, ◌∙◌}
use Rattle.tl_model.specs.Volume.{Volume}
use Rattle.tl_command.specs.Endings.{no_devices}
use Rattle.tl_command.specs.Performs.{Performs}
use Rattle.tl_command.specs.Runs.{Run, saying}
use Rattle.tl_command.proofs.Joins.{performs_of, performs_quiet, performs_same, advances_quiet}
use Rattle.tl_command.proofs.Databases.{same_tree, performs_unread}
use Rattle.tl_report.specs.Check.{check_text}
use Rattle.tl_show.specs.Check.{check_run}
use Rattle.tl_show.proofs.checks.check_tree.Goals as goal

pub returns-in-Ok : goal.returns-in-Ok
returns-in-Ok g c =
    let tells = g.H.Host.tells in
    let seen = g.H.Host.seen in
    let old = c.args.tree in
    let mid = c.check.new.tree.seen in
    let text = c.in-Ok.text.items in
    let ending = c.say.result.ending in
    let state = c.say.result.state in
    performs_same tells seen 0 old.seen no_devices no_devices ending state (λ _. saying text) (λ t. check_run c.args.what t old.db)
    (λ t tree stood. ap saying (c.in-Ok.ensures.text t ∙ ap (λ (v : Volume). check_text c.args.what v old.db) (same_tree old.seen tree (c.stands.ensures.tree t) stood)))
    (performs_quiet tells seen 0 old.seen no_devices no_devices ending state (λ _. saying text) mid (advances_quiet tells old.seen mid c.in-Ok.ensures.same c.in-Ok.ensures.cause.later)
    (performs_of tells seen (λ _. saying text) c.of_tree.result mid ending state c.of_tree.ensures
    (subst (λ (bytes : List ℕ). Performs tells seen (λ _. saying bytes) 0 c.of_tree.result no_devices no_devices ending state) c.deref.ensures.value c.say.ensures)))

pub returns-in-Err-HostFault : goal.returns-in-Err-HostFault
returns-in-Err-HostFault g c =
    let e = c.in-Err-HostFault.ensures in
    performs_unread g.H.Host.tells g.H.Host.seen c.args.tree.seen no_devices no_devices (λ t. check_run c.args.what t c.args.tree.db) c.into_host.result c.check.new.tree.seen (c.into_host.ensures ∙ c.release.ensures) e.same e.cause.later
    (e.cause.failed c.in-Err-HostFault.field-0-is)

pub returns-in-Err : goal.returns-in-Err
returns-in-Err g c =
    let command : Volume → Run = λ t. check_run c.args.what t c.args.tree.db in
    let mid = c.check.new.tree.seen in
    let ending = c.give_up.result.ending in
    let state = c.give_up.result.state in
    performs_quiet g.H.Host.tells g.H.Host.seen 0 c.args.tree.seen no_devices no_devices ending state command mid (advances_quiet g.H.Host.tells c.args.tree.seen mid c.check.ensures.same c.check.ensures.cause.later)
    (performs_of g.H.Host.tells g.H.Host.seen command c.of_tree-in-Err.result mid ending state c.of_tree-in-Err.ensures (c.give_up.ensures command))
