use Rattle.std.proofs.Common.{◌≡◌, [], sym, ◌∙◌, subst}
use Rattle.tl_model.specs.Causes.{Rose}
use Rattle.tl_model.specs.Seen.{Seen}
use Rattle.tl_command.specs.Performs.{Advances}
use Rattle.tl_command.proofs.Joins.{performs_alone, performs_fewer, performs_of, performs_quiet}
use Rattle.tl_fill.proofs.EndLemmas.{performs_broken, performs_refusal}
use Rattle.tl_install.specs.declared.ending.Free.{Free}
use Rattle.tl_install.specs.Free.{IsFreeOf}
use Rattle.tl_install.proofs.ending.end_plan.Goals as goal

pub returns-in-Ok : goal.returns-in-Ok
returns-in-Ok g c first tells command before after told quiet rose ends =
    performs_refusal tells g.H.Host.seen first before after command g.H.Host.tells told c.in-Ok.refusal c.args.tree.seen c.refuse.result.ending c.refuse.result.state quiet
    (ends c.in-Ok.refusal c.in-Ok.ensures.refuses) (performs_of _ _ _ _ _ _ _ c.of_tree.ensures c.refuse.ensures.performs)

pub returns-in-Err-Host : goal.returns-in-Err-Host
returns-in-Err-Host g c first tells command before after told quiet rose ends =
    let host = c.into_host.result in
    let same : g.H.Host.seen host ≡ c.args.tree.seen = c.into_host.ensures ∙ c.release.ensures in
    performs_fewer tells g.H.Host.tells told g.H.Host.seen 0 first before after _ _ command
    (performs_broken g.H.Host.tells g.H.Host.seen first before after command host (subst (λ (s : Seen). Advances g.H.Host.tells (λ _. []) first s) (sym same) quiet)
    (subst (λ (s : Seen). Rose first.faults s.faults) (sym same) (rose (subst (λ (f : Free). IsFreeOf c.args.error f) c.in-Err-Host.field-0-is c.in-Err-Host.ensures.free))))

pub returns-in-Err-Memory : goal.returns-in-Err-Memory
returns-in-Err-Memory g c first tells command before after told quiet rose ends =
    let ending = c.give_up.result.ending in
    let state = c.give_up.result.state in
    performs_fewer tells g.H.Host.tells told g.H.Host.seen 0 first before after ending state command
    (performs_quiet g.H.Host.tells g.H.Host.seen 0 first before after ending state command c.args.tree.seen quiet
    (performs_alone g.H.Host.tells g.H.Host.seen 0 c.args.tree.seen before after ending state command (performs_of _ _ _ _ _ _ _ c.of_tree-in-Err-Memory.ensures (c.give_up.ensures command))))
