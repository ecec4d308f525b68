use Rattle.std.proofs.Common.{◌≡◌, ◌∙◌, List, ℕ, ap, sym, rules}
use Rattle.tl_refusal.specs.declared.refusal.Refusal.TheVariants.{FrameEntry}
use Rattle.tl_command.specs.Runs.{refused}
use Rattle.tl_restore.proofs.faults.frame_entry_ends.Goals as goal

pub returns-in-Ok : goal.returns-in-Ok
returns-in-Ok g c command old asked is =
    let same : c.in-Ok.name ≡ c.args.name.now = search rules in
    c.refuse_asked.ensures command old asked (λ t v stood. is t v stood ∙ ap (λ (name : List ℕ). refused (FrameEntry name)) (sym same))

pub returns-in-Err : goal.returns-in-Err
returns-in-Err g c command old asked is = c.give_up_asked.ensures command old asked
