use Rattle.std.proofs.Common.{◌≡◌, List, ℕ, Ok, subst}
use Rattle.tl_db.specs.Options.{entry_with}
use Rattle.tl_command.proofs.Joins.{performs_of}
use Rattle.tl_settings.proofs.Labels.{label-setting}
use Rattle.tl_settings.proofs.setting.set.Goals as goal

pub put_entry-requires : goal.put_entry-requires
put_entry-requires g c = label-setting c.args.option c.args.value.now c.db.result.now c.in-Ok.entry
    (subst (λ (name : List ℕ). entry_with name c.args.value.now c.db.result.now ≡ Ok c.in-Ok.entry) c.bytes.ensures.bytes c.in-Ok.ensures.entry)

pub returns-then-value-gt-MOST_BYTES : goal.returns-then-value-gt-MOST_BYTES
returns-then-value-gt-MOST_BYTES g c = performs_of _ _ _ _ _ _ _ c.of_tree.ensures (c.give_up.ensures _)

pub returns-in-Err-NoMemory : goal.returns-in-Err-NoMemory
returns-in-Err-NoMemory g c = performs_of _ _ _ _ _ _ _ c.of_tree-in-Err-NoMemory.ensures (c.give_up-in-Err-NoMemory.ensures _)
