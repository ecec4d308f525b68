use Rattle.std.proofs.Common.{true, false, refl, subst, List, ℕ, rules}
use Rattle.tl_model.specs.Seen.{Says}
use Rattle.tl_refusal.specs.Refusals.{refusal_line}
use Rattle.tl_command.specs.Endings.{no_devices}
use Rattle.tl_command.specs.Runs.{refused}
use Rattle.tl_command.proofs.Joins.{performs_given_up, advances_start}
use Rattle.tl_command.proofs.Says.{performs_refused, performs_cut_text}
use Rattle.tl_command.proofs.closing.refuse.Goals as goal

pub returns-in_default-clause-performs : goal.returns-in_default-clause-performs
returns-in_default-clause-performs g c =
    performs_given_up g.H.Host.tells g.H.Host.seen c.args.session c.args.session no_devices no_devices (λ _. refused c.args.refusal) (advances_start g.H.Host.tells c.args.session)

pub returns-in-Ok-say-clause-performs : goal.returns-in-Ok-say-clause-performs
returns-in-Ok-say-clause-performs g c =
    let e = c.in-Ok-say.ensures in
    let first = c.args.session in
    let new = c.in-Ok-say.session in
    performs_refused g.H.Host.tells g.H.Host.seen first no_devices no_devices c.args.refusal new c.requires c.line_of.ensures.plain
    (λ t. subst (λ (l : List ℕ). Says true l first new) (search rules) (e.says t)) e.cause.later

pub returns-in-Err-clause-performs : goal.returns-in-Err-clause-performs
returns-in-Err-clause-performs g c =
    let e = c.in-Err.ensures in
    let first = c.args.session in
    let host = c.in-Err.host in
    performs_cut_text g.H.Host.tells g.H.Host.seen first no_devices no_devices (λ _. refused c.args.refusal) (refusal_line c.args.refusal) host (g.H.Host.seen host) refl (λ _. refl) c.line_of.ensures.plain
    (λ t. subst (λ (l : List ℕ). Says false l first (g.H.Host.seen host)) (search rules) (e.says t)) e.cause.later e.cause.failed
