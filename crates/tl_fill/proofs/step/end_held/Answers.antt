use Rattle.std.proofs.Common.{◌≡◌, ◌≤◌, ℕ, [], Option, Some, sym, ◌∙◌, ap, subst, arith, rules}
use Rattle.tl_model.specs.Causes.{Rose}
use Rattle.tl_model.specs.Seen.{Seen}
use Rattle.tl_journal.proofs.Stagings.{stages_join}
use Rattle.tl_tree.specs.Planted.{Planted}
use Rattle.tl_command.specs.Performs.{Advances}
use Rattle.tl_command.proofs.Joins.{performs_fewer}
use Rattle.tl_fill.specs.Ends.{EndsBy}
use Rattle.tl_fill.specs.StepSinks.{StepFailed, StepGoesOn, StepSince, sink_seen}
use Rattle.tl_fill.specs.declared.sink.Held.{Held}
use Rattle.tl_fill.specs.declared.sink.Held.TheVariants.{Open, Lost}
use Rattle.tl_fill.proofs.EndLemmas.{advances_staged, opened_on, performs_broken, performs_renamed}
use Rattle.tl_fill.proofs.step.end_held.Goals as goal

pub returns-in-Open : goal.returns-in-Open
returns-in-Open g c old first tells command before after told opened since ends =
    let seen = g.H.Host.seen in
    let step = c.in-Open.step in
    let later = c.args.sink.later in
    let tree = c.abandon.result in
    let was : c.args.sink.held ≡ Some (Open step) = search rules in
    let went : StepGoesOn g.H.Host.tells old step × (later ≡ 0) = subst (λ (h : Option (Held g.row.H.Denot)). StepSince g.H.Host.tells seen (Some (Open old)) 0 h later) was since in
    let on = opened_on g.H.Host.tells first old step opened went.0 in
    let none : later ≡ 0 = went.1 in
    let here : tree.seen ≡ step.seen = ap (λ (p : Planted). p.seen) c.abandon.ensures in
    let count : (sink_seen seen c.args.sink.held later).faults ≡ tree.seen.faults =
    ap (λ (h : Option (Held g.row.H.Denot)). (sink_seen seen h later).faults) was ∙ omega (arith, none) ∙ sym (ap (λ (s : Seen). s.faults) here) in
    c.end_at.ensures first tells command before after told
    (subst (λ (s : Seen). Advances g.H.Host.tells (λ _. []) first s) (sym here) (advances_staged g.H.Host.tells first step.seen on.stages on.later))
    (subst (λ (n : ℕ). EndsBy tells command before after first n c.args.halt) count ends)

pub returns-in-Lost : goal.returns-in-Lost
returns-in-Lost g c old first tells command before after told opened since ends =
    let seen = g.H.Host.seen in
    let host = c.in-Lost.host in
    let ending = c.broken.result.ending in
    let state = c.broken.result.state in
    let was : c.args.sink.held ≡ Some (Lost host) = search rules in
    let failed : StepFailed g.H.Host.tells old (seen host) = subst (λ (h : Option (Held g.row.H.Denot)). StepSince g.H.Host.tells seen (Some (Open old)) 0 h c.args.sink.later) was since in
    let late : first.faults ≤ (seen host).faults = omega (arith, opened.later, failed.later) in
    let rose : Rose first.faults (seen host).faults = omega (arith, opened.later, failed.rose) in
    performs_fewer tells g.H.Host.tells told seen 0 first before after ending state command
    (performs_renamed g.H.Host.tells seen first before after command ending _ state _ c.broken.ensures.0 c.broken.ensures.1
    (performs_broken g.H.Host.tells seen first before after command host
    (advances_staged g.H.Host.tells first (seen host) (λ t. stages_join first old.seen (seen host) (opened.stages t) (failed.stages t)) late) rose))
