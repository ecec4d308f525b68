use Rattle.std.proofs.Common.{List, ℕ, ap, sym, ◌∙◌}
use Rattle.tl_command.specs.Runs.{saying}
use Rattle.tl_restore.proofs.listing.say_lines.Goals as goal

pub returns-in-Ok : goal.returns-in-Ok
returns-in-Ok g c command old asked is =
    c.say_asked.ensures command old asked (λ told t stood. is told t stood ∙ ap (λ (bytes : List ℕ). saying bytes) (sym (c.deref.ensures.value ∙ c.in-Ok.ensures.lines)))

pub returns-in-Err : goal.returns-in-Err
returns-in-Err g c command old asked is = c.give_up_asked.ensures command old asked
