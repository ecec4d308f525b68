use Rattle.std.proofs.Common.{◌≡◌, [], sym, ◌∙◌, subst}
use Rattle.tl_model.specs.Causes.{Rose}
use Rattle.tl_model.specs.Seen.{Seen}
use Rattle.tl_command.specs.Performs.{Advances, Performs}
use Rattle.tl_command.proofs.Joins.{performs_alone, performs_fewer, performs_of, performs_quiet}
use Rattle.tl_fill.specs.Ends.{EndsBy}
use Rattle.tl_fill.specs.declared.halt.Halt.{Halt}
use Rattle.tl_fill.proofs.EndLemmas.{performs_broken, performs_refusal, performs_renamed}
use Rattle.tl_fill.proofs.step.end_at.Goals as goal

pub returns-in-Refused : goal.returns-in-Refused
returns-in-Refused g c first tells command before after told quiet ends =
    performs_refusal tells g.H.Host.seen first before after command g.H.Host.tells told c.in-Refused.refusal c.args.tree.seen c.refuse.result.ending c.refuse.result.state quiet
    (subst (λ (h : Halt). EndsBy tells command before after first c.args.tree.seen.faults h) c.in-Refused.is ends)
    (performs_of _ _ _ _ _ _ _ c.of_tree.ensures c.refuse.ensures.performs)

pub returns-in-Shelf : goal.returns-in-Shelf
returns-in-Shelf g c first tells command before after told quiet ends =
    let ending = c.stop_at_shelf.result.ending in
    let state = c.stop_at_shelf.result.state in
    let rose = subst (λ (h : Halt). EndsBy tells command before after first c.args.tree.seen.faults h) c.in-Shelf.is ends in
    performs_fewer tells g.H.Host.tells told g.H.Host.seen 0 first before after ending state command
    (performs_quiet g.H.Host.tells g.H.Host.seen 0 first before after ending state command c.args.tree.seen quiet
    (subst (λ (s : Seen). Performs g.H.Host.tells g.H.Host.seen command 0 s before after ending state) c.of_tree-in-Shelf.ensures (c.stop_at_shelf.ensures command before after rose)))

pub returns-in-Sink : goal.returns-in-Sink
returns-in-Sink g c first tells command before after told quiet ends =
    let ending = c.broken.result.ending in
    let state = c.broken.result.state in
    let host = c.into_host.result in
    let rose = subst (λ (h : Halt). EndsBy tells command before after first c.args.tree.seen.faults h) c.in-Sink.is ends in
    let same : g.H.Host.seen host ≡ c.args.tree.seen = c.into_host.ensures ∙ c.release.ensures in
    performs_fewer tells g.H.Host.tells told g.H.Host.seen 0 first before after ending state command
    (performs_renamed g.H.Host.tells g.H.Host.seen first before after command ending _ state _ c.broken.ensures.0 c.broken.ensures.1
    (performs_broken g.H.Host.tells g.H.Host.seen first before after command host (subst (λ (s : Seen). Advances g.H.Host.tells (λ _. []) first s) (sym same) quiet)
    (subst (λ (s : Seen). Rose first.faults s.faults) (sym same) rose)))

pub returns-in-Memory : goal.returns-in-Memory
returns-in-Memory g c first tells command before after told quiet ends =
    let ending = c.give_up.result.ending in
    let state = c.give_up.result.state in
    performs_fewer tells g.H.Host.tells told g.H.Host.seen 0 first before after ending state command
    (performs_quiet g.H.Host.tells g.H.Host.seen 0 first before after ending state command c.args.tree.seen quiet
    (performs_alone g.H.Host.tells g.H.Host.seen 0 c.args.tree.seen before after ending state command (performs_of _ _ _ _ _ _ _ c.of_tree-in-Memory.ensures (c.give_up.ensures command))))
