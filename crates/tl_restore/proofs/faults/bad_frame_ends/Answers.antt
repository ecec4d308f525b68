use Rattle.std.proofs.Common.{◌∙◌, List, ℕ, ap, sym}
use Rattle.tl_refusal.specs.declared.refusal.Refusal.TheVariants.{BadFrame}
use Rattle.tl_command.specs.Runs.{refused}
use Rattle.tl_restore.proofs.faults.bad_frame_ends.Goals as goal

pub returns-in-Ok : goal.returns-in-Ok
returns-in-Ok g c command old asked is =
    c.refuse_asked.ensures command old asked (λ t v stood. is t v stood ∙ ap (λ (path : List ℕ). refused (BadFrame path c.args.at)) (sym c.in-Ok.ensures.path))

pub returns-in-Err : goal.returns-in-Err
returns-in-Err g c command old asked is = c.give_up_asked.ensures command old asked
