use Rattle.std.proofs.Common.{◌≡◌, ◌∙◌, ℕ, List, sym, ap, subst}
use Rattle.tl_kind.specs.Quantities.{limit_of}
use Rattle.tl_entry.specs.declared.object.Object.{Object}
use Rattle.tl_tree.specs.Answers.{IsTooLarge, IsWithin}
use Rattle.tl_tree.specs.Changes.{entries_after}
use Rattle.tl_backups.specs.Faults.{refusal_of}
use Rattle.tl_coming.specs.Made.{made_parts}
use Rattle.tl_command.specs.Runs.{changing_entries, refused}
use Rattle.tl_command.proofs.Limits.{changing-too_large, changing-within}
use Rattle.tl_refusal.specs.declared.refusal.Refusal.TheVariants.{TooLarge}
use Rattle.tl_install.proofs.LeftLemmas.{some_map}
use Rattle.tl_install.proofs.limits.fault_ends_step.Goals as goal

pub returns-in-Ok-Some : goal.returns-in-Ok-Some
returns-in-Ok-Some g c inner old asked cause is =
    let parts = made_parts c.args.repos.now c.args.step.now in
    let what = c.in-Ok-Some.what in
    let limit : c.limit-limit.result ≡ limit_of what = c.limit-limit.ensures in
    let large : IsTooLarge (entries_after parts old.db) what (limit_of what) =
    subst (λ (db : List Object). IsTooLarge (entries_after parts db) what (limit_of what)) (c.db.ensures ∙ asked.db) (rw c.in-Ok-Some.field-0-is at c.in-Ok-Some.ensures) in
    c.refuse_asked.ensures (λ t. changing_entries old.db parts (inner t)) old asked
    (λ told t stood. changing-too_large old.db parts (inner t) what (limit_of what) c.requires large ∙ ap (λ (n : ℕ). refused (TooLarge what n)) (sym limit))

pub returns-in-Ok-None : goal.returns-in-Ok-None
returns-in-Ok-None g c inner old asked cause is =
    let parts = made_parts c.args.repos.now c.args.step.now in
    let within : IsWithin (entries_after parts old.db) =
    subst (λ (db : List Object). IsWithin (entries_after parts db)) (c.db.ensures ∙ asked.db) (rw c.in-Ok-None.field-0-is at c.in-Ok-None.ensures) in
    c.fault_ends.ensures (λ t. changing_entries old.db parts (inner t)) old asked cause
    (λ told t stood. some_map (refusal_of c.args.fault) (λ refusal. inner t ≡ refused refusal) (λ refusal. changing_entries old.db parts (inner t) ≡ refused refusal)
    (λ refusal same. changing-within old.db parts (inner t) (λ _. within) ∙ same) (is told t stood))

pub returns-in-Err : goal.returns-in-Err
returns-in-Err g c inner old asked cause is = c.give_up_asked.ensures (λ t. changing_entries old.db (made_parts c.args.repos.now c.args.step.now) (inner t)) old asked
