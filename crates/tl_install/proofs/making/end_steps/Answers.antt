use Rattle.std.proofs.Common.{List, ℕ, sym, subst, ◌∙◌}
use Rattle.std.specs.Prelude.{IfSome}
use Rattle.tl_command.proofs.Joins.{performs_of}
use Rattle.tl_trigger.specs.Stale.{HasChanges}
use Rattle.tl_install.proofs.making.end_steps.Goals as goal

pub end-requires : goal.end-requires
end-requires g c = subst (λ (names : List (List ℕ)). IfSome c.args.before (λ old. HasChanges old c.args.tree.db names)) (sym (c.deref.ensures.value ∙ c.in-Ok.ensures)) c.requires

pub returns-in-Err : goal.returns-in-Err
returns-in-Err g c = performs_of _ _ _ _ _ _ _ c.of_tree.ensures (c.give_up.ensures _)
