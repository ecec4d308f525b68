use Rattle.std.proofs.Common.{◌≡◌, ◌∙◌, Option, sym, subst}
use Rattle.std.specs.Prelude.{IfSome}
use Rattle.tl_refusal.specs.declared.refusal.Refusal.{Refusal}
use Rattle.tl_command.specs.Runs.{refused}
use Rattle.tl_restore.proofs.faults.coming_ends.Goals as goal

pub returns-then-is_of_host : goal.returns-then-is_of_host
returns-then-is_of_host g c command old asked cause is = c.host_ends.ensures command old asked (cause (c.is_of_host.ensures c.if-is_of_host.true))

pub returns-in-Some : goal.returns-in-Some
returns-in-Some g c command old asked cause is =
    c.refuse_asked.ensures command old asked
    (λ t v stood. subst (λ (o : Option Refusal). IfSome o (λ refusal. command v ≡ refused refusal)) (sym c.refusal_of.ensures.refusal ∙ c.in-Some.is) (is t v stood))

pub returns-in-None : goal.returns-in-None
returns-in-None g c command old asked cause is = c.give_up_asked.ensures command old asked
