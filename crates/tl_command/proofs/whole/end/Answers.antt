use Rattle.std.proofs.Common.{Ok, sym, ◌∙◌, ap, subst}
use Rattle.tl_model.specs.Seen.{Seen}
use Rattle.tl_command.specs.Whole.{IsRun}
use Rattle.tl_command.proofs.Wholes.{acted_at_rest, run_rest, run_rest_cut}
use Rattle.tl_command.proofs.whole.end.Goals as goal

pub returns-in-Ok-rest-clause-run : goal.returns-in-Ok-rest-clause-run
returns-in-Ok-rest-clause-run g c t run first tree acted =
    let ending = c.args.acted.ending in
    let mid = c.into_journal.result in
    subst (λ (last : Seen). IsRun run ending first last tree) (sym c.into_host.ensures)
    (run_rest run ending first mid c.in-Ok-rest.clean tree
    (acted_at_rest g.H.Host.seen run ending c.args.acted.state first mid tree (c.in-Ok.is ∙ ap Ok (sym c.into_journal.ensures)) acted) (c.in-Ok-rest.ensures.rests t).stays)

pub returns-in-Err-rest-clause-run : goal.returns-in-Err-rest-clause-run
returns-in-Err-rest-clause-run g c t run first tree acted =
    let ending = c.args.acted.ending in
    let mid = c.into_journal.result in
    run_rest_cut run ending first mid (g.H.Host.seen c.in-Err-rest.lost.host) tree
    (acted_at_rest g.H.Host.seen run ending c.args.acted.state first mid tree (c.in-Ok.is ∙ ap Ok (sym c.into_journal.ensures)) acted) (c.in-Err-rest.ensures.rests t).stays
