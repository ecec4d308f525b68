-- The steps of a run over a database that was read are labelled.
use Rattle.std.proofs.Common.{◌≡◌, ◌≤◌, ℕ, Bool, true, false, cond, nat_lt, List, length, Result, Ok, Err, refl}
use Rattle.std.proofs.lemmas.Bool.{ltb-false}
use Rattle.tl_kind.specs.Quantities.{limit_of}
use Rattle.tl_kind.specs.declared.quantity.What.TheVariants as what
use Rattle.tl_entry.specs.declared.object.Object.{Object}
use Rattle.tl_object.specs.declared.fault.LineKind.{LineKind}
use Rattle.tl_db.specs.Reading.{db_of}
use Rattle.tl_refusal.specs.declared.refusal.Refusal.TheVariants.{TooLarge}
use Rattle.tl_command.specs.Runs.{Run, AreLabelled, refused, over_entries, over_database}

not_past : (n : ℕ) → nat_lt (limit_of what.Packages) n ≡ false → n ≤ 65536
not_past n is = ltb-false 65536 n is

-- the steps of a run over a database are labelled where those over the entries that it reads as are
pub labelled-read : (go : List Object → Run) (text : List ℕ) → ((db : List Object) → db_of text ≡ Ok db → length db ≤ 65536 → AreLabelled (go db).events) → AreLabelled (over_database go text).events
labelled-read go text each = by (nat_lt (limit_of what.Database) (length text))
  where
    within : (db : List Object) → db_of text ≡ Ok db → (past : Bool) → nat_lt (limit_of what.Packages) (length db) ≡ past
        → let run = cond past (refused (TooLarge what.Packages (limit_of what.Packages))) (go db) in AreLabelled run.events
    within db is true past = tt
    within db is false past = each db is (not_past (length db) past)

    entries : (read : Result (List Object) (ℕ × LineKind)) → db_of text ≡ read → AreLabelled (over_entries go read).events
    entries (Ok db) is = within db is (nat_lt (limit_of what.Packages) (length db)) refl
    entries (Err fault) is = tt

    by : (past : Bool) → let run = cond past (refused (TooLarge what.Database (limit_of what.Database))) (over_entries go (db_of text)) in AreLabelled run.events
    by true = tt
    by false = entries (db_of text) refl
