use Rattle.std.proofs.Common.{◌&&◌, List, sym, subst, ◌∙◌}
use Rattle.tl_action.specs.declared.command.Repository.{Repository}
use Rattle.tl_command.specs.Performs.{Performs}
use Rattle.tl_tool.specs.Commands.{action_run}
use Rattle.tl_tool.specs.Outsides.{over_shelf, shelf_faults}
use Rattle.tl_tool.proofs.Acts.{acts-alone, acts-matching, acts-over}
use Rattle.tl_tool.proofs.acting.act.Goals as goal

pub returns-then-reads_repositories : goal.returns-then-reads_repositories
returns-then-reads_repositories g c =
    let shelf = g.S.Shelf.tells in
    let host = g.H.Host.tells in
    let old = g.S.Shelf.seen c.args.shelf.now in
    let new = g.S.Shelf.seen c.act_over.new.shelf in
    acts-over shelf host g.H.Host.seen c.args.command c.args.session old new c.args.regexps.now c.act_over.result.ending c.act_over.result.state
    (sym c.reads_repositories.ensures ∙ c.if-reads_repositories.true)
    (subst (λ (repositories : List Repository). Performs (shelf && host) g.H.Host.seen (action_run c.args.command.action repositories c.args.command.formats (over_shelf old)) 0 c.args.session (shelf_faults old) (shelf_faults new)
    c.act_over.result.ending c.act_over.result.state) c.as_slice.ensures c.act_over.ensures)

pub returns-then-reads_patterns : goal.returns-then-reads_patterns
returns-then-reads_patterns g c =
    acts-matching g.S.Shelf.tells g.H.Host.tells g.H.Host.seen c.args.command c.args.session (g.S.Shelf.seen c.args.shelf.now) c.act_matching.new.regexps c.act_matching.result.ending c.act_matching.result.state
    c.act_matching.ensures

pub returns : goal.returns
returns g c =
    acts-alone g.S.Shelf.tells g.H.Host.tells g.H.Host.seen c.args.command c.args.session (g.S.Shelf.seen c.args.shelf.now) c.args.regexps.now c.act_alone.result.ending c.act_alone.result.state c.act_alone.ensures
