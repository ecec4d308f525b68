use Rattle.std.proofs.Common.{◌&&◌, ℕ, List, subst}
use Rattle.tl_tree.specs.Planted.{database_text}
use Rattle.tl_bring.specs.declared.coming.InstallAsk.{InstallAsk}
use Rattle.tl_renew.specs.declared.ask.UpdateAsk.{UpdateAsk}
use Rattle.tl_command.specs.Performs.{Performs}
use Rattle.tl_command.specs.Runs.{over_database}
use Rattle.tl_install.specs.Install.{install_run}
use Rattle.tl_update.specs.Update.{update_run}
use Rattle.tl_tool.specs.Commands.{install_ask, update_ask}
use Rattle.tl_tool.specs.Outsides.{shelf_faults}
use Rattle.tl_tool.proofs.Acts.{over_as}
use Rattle.tl_tool.proofs.acting.act_over.Goals as goal

pub returns-in-Install : goal.returns-in-Install
returns-in-Install g c =
    let shelf = g.S.Shelf.tells in
    let host = g.H.Host.tells in
    let old = g.S.Shelf.seen c.args.shelf.now in
    let new = g.S.Shelf.seen c.install.new.shelf in
    let asked = install_ask c.in-Install.no_depends c.in-Install.no_depends_at_all c.in-Install.reinstall in
    let Does = λ (names : List (List ℕ)) (ask : InstallAsk). Performs (shelf && host) g.H.Host.seen
    (λ tree. over_database (install_run names ask c.args.formats c.args.repositories.now old.repositories tree) (database_text tree)) 0 c.args.session (shelf_faults old) (shelf_faults new)
    c.install.result.ending c.install.result.state in
    over_as shelf host g.H.Host.seen c.args.action _ c.args.repositories.now c.args.formats c.args.session old new c.install.result.ending c.install.result.state c.in-Install.is
    (subst (λ (names : List (List ℕ)). Does names asked) c.as_slice-in-Install.ensures (subst (λ (ask : InstallAsk). Does c.as_slice-in-Install.result.now ask) c.install_ask-ask.ensures c.install.ensures))

pub returns-in-Update : goal.returns-in-Update
returns-in-Update g c =
    let shelf = g.S.Shelf.tells in
    let host = g.H.Host.tells in
    let old = g.S.Shelf.seen c.args.shelf.now in
    let new = g.S.Shelf.seen c.update.new.shelf in
    let asked = update_ask c.in-Update.all c.in-Update.no_auto_install c.in-Update.no_auto_remove c.in-Update.reinstall_forcibly_removed in
    let Does = λ (names : List (List ℕ)) (ask : UpdateAsk). Performs (shelf && host) g.H.Host.seen
    (λ tree. over_database (update_run names ask c.args.formats c.args.repositories.now old.repositories tree) (database_text tree)) 0 c.args.session (shelf_faults old) (shelf_faults new)
    c.update.result.ending c.update.result.state in
    over_as shelf host g.H.Host.seen c.args.action _ c.args.repositories.now c.args.formats c.args.session old new c.update.result.ending c.update.result.state c.in-Update.is
    (subst (λ (names : List (List ℕ)). Does names asked) c.as_slice-in-Update.ensures (subst (λ (ask : UpdateAsk). Does c.as_slice-in-Update.result.now ask) c.update_ask-ask.ensures c.update.ensures))
