use Rattle.std.proofs.Common.{[], true, refl}
use Rattle.tl_model.specs.Devices.{ShelfSeen, RegexpsSeen, Outside}
use Rattle.tl_journal_text.specs.Stand.{stand, tree_of}
use Rattle.tl_auto.proofs.VerdictLemmas.{keeps_same}
use Rattle.tl_command.proofs.Wholes.{acted_begun, runs_begun, caused_begun, later_begun, begins_fewer}
use Rattle.tl_tool.specs.Commands.{act_of, tells_all}
use Rattle.tl_tool.specs.Outsides.{shelf_faults}
use Rattle.tl_tool.proofs.Acts.{failed-apart, tells_all-host}
use Rattle.tl_tool.proofs.top.start.Goals as goal

abbrev nothing_beside : ShelfSeen → RegexpsSeen → Outside
nothing_beside shelf regexps = record { repositories = shelf.repositories; input = []; verdicts = regexps.verdicts }

pub returns-in-Ok-clause-run : goal.returns-in-Ok-clause-run
returns-in-Ok-clause-run g c outside input same later t tree stood =
    let host = g.H.Host.tells in
    let tells = tells_all c.args.command.action g.S.Shelf.tells input host in
    let to-host = tells_all-host c.args.command.action g.S.Shelf.tells input host in
    runs_begun tells g.H.Host.seen (act_of c.args.command outside) (g.H.Host.seen c.args.host) c.in-Ok.session (shelf_faults (g.S.Shelf.seen c.args.shelf.now)) (shelf_faults (g.S.Shelf.seen c.act.new.shelf))
    c.act.result.ending c.act.result.state (begins_fewer tells host to-host (g.H.Host.seen c.args.host) c.in-Ok.session c.in-Ok.ensures.begun) (c.act.ensures outside input same later)
    c.end.result.0 (g.H.Host.seen c.end.result.1) (λ told. c.end.ensures.run (to-host told)) (λ told. c.end.ensures.syncs (to-host told)) t tree stood

pub returns-in-Ok-clause-shut : goal.returns-in-Ok-clause-shut
returns-in-Ok-clause-shut g c input t some carried =
    let host = g.H.Host.tells in
    let tells = tells_all c.args.command.action g.S.Shelf.tells input host in
    let to-host = tells_all-host c.args.command.action g.S.Shelf.tells input host in
    let first = g.H.Host.seen c.args.host in
    let mid = c.in-Ok.session in
    let tree = tree_of mid.present.held in
    let outside = nothing_beside (g.S.Shelf.seen c.args.shelf.now) c.act.new.regexps in
    let command = act_of c.args.command outside in
    let begins = c.in-Ok.ensures.begun in
    c.end.ensures.shut (to-host t) (command tree) first tree
    (acted_begun tells g.H.Host.seen command first mid (shelf_faults (g.S.Shelf.seen c.args.shelf.now)) (shelf_faults (g.S.Shelf.seen c.act.new.shelf)) c.act.result.ending c.act.result.state
    (begins_fewer tells host to-host first mid begins) (c.act.ensures outside input refl (keeps_same c.act.new.regexps.verdicts)) t tree (begins.stood (to-host t))) carried

pub returns-in-Ok-clause-cause : goal.returns-in-Ok-clause-cause
returns-in-Ok-clause-cause g c =
    let host = g.H.Host.tells in
    let tells = tells_all c.args.command.action g.S.Shelf.tells true host in
    let to-host = tells_all-host c.args.command.action g.S.Shelf.tells true host in
    let first = g.H.Host.seen c.args.host in
    let mid = c.in-Ok.session in
    let before = shelf_faults (g.S.Shelf.seen c.args.shelf.now) in
    let after = shelf_faults (g.S.Shelf.seen c.act.new.shelf) in
    let outside = nothing_beside (g.S.Shelf.seen c.args.shelf.now) c.act.new.regexps in
    let command = act_of c.args.command outside in
    let begins = begins_fewer tells host to-host first mid c.in-Ok.ensures.begun in
    let performs = c.act.ensures outside true refl (keeps_same c.act.new.regexps.verdicts) in
    c.end.ensures.cause first before after (later_begun tells g.H.Host.seen command first mid before after c.act.result.ending c.act.result.state begins performs)
    (caused_begun tells g.H.Host.seen command first mid before after c.act.result.ending c.act.result.state begins performs)

pub returns-in-Ok-clause-words : goal.returns-in-Ok-clause-words
returns-in-Ok-clause-words g c = let performs = c.act.ensures (nothing_beside (g.S.Shelf.seen c.args.shelf.now) c.act.new.regexps) true refl (keeps_same c.act.new.regexps.verdicts) in c.end.ensures.words performs.words

pub returns-in-Err-clause-run : goal.returns-in-Err-clause-run
returns-in-Err-clause-run g c outside input same later t tree stood =
    c.in-Err.ensures.ended.run (tells_all-host c.args.command.action g.S.Shelf.tells input g.H.Host.tells t) (act_of c.args.command outside tree) tree stood

pub returns-in-Err-clause-shut : goal.returns-in-Err-clause-shut
returns-in-Err-clause-shut g c input t some carried =
    let host = g.H.Host.tells in
    let ended = c.in-Err.ensures.ended in
    failed-apart (stand (g.H.Host.seen c.args.host).present.held) c.in-Err.ended.0 (ended.uncarried (tells_all-host c.args.command.action g.S.Shelf.tells input host t)) some carried
