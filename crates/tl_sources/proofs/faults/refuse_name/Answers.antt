use Rattle.std.proofs.Common.{rules, ◌≡◌, ◌∙◌, List, ℕ, ap, sym}
use Rattle.tl_refusal.specs.declared.refusal.Refusal.TheVariants.{NoSource}
use Rattle.tl_command.specs.Runs.{refused}
use Rattle.tl_sources.proofs.faults.refuse_name.Goals as goal

pub returns-in-Ok : goal.returns-in-Ok
returns-in-Ok g c command old asked is =
    let same : c.in-Ok.name ≡ c.args.name.now = search rules in
    c.refuse_asked.ensures command old asked (λ told t stood. is told t stood ∙ ap (λ (name : List ℕ). refused (NoSource name)) (sym same))

pub returns-in-Err : goal.returns-in-Err
returns-in-Err g c command old asked is = c.give_up_asked.ensures command old asked
