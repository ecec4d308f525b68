-- Runs within their limits, and past them.
use Rattle.std.proofs.Common.{◌≡◌, ◌≤◌, ◌<◌, ℕ, Bool, true, false, cond, nat_lt, List, length, Result, Ok, Err, ◌∙◌, sym, ap, inl, inr, refl, arith}
use Rattle.std.proofs.lemmas.Bool.{cases_Bool, lt-ltb, ltb-true}
use Rattle.tl_kind.specs.Quantities.{limit_of}
use Rattle.tl_kind.specs.declared.quantity.What.{What}
use Rattle.tl_kind.specs.declared.quantity.What.TheVariants as what
use Rattle.tl_entry.specs.declared.object.Object.{Object}
use Rattle.tl_object.specs.declared.fault.LineKind.{LineKind}
use Rattle.tl_db.specs.Reading.{db_of, IsRead, HasTooMany}
use Rattle.tl_db.specs.Text.{db_text}
use Rattle.tl_tree.specs.Changes.{entries_after, has_entries}
use Rattle.tl_tree.specs.Answers.{IsTreeError, IsTooLarge, IsWithin}
use Rattle.tl_tree.specs.declared.change.Part.{Part}
use Rattle.tl_tree.specs.declared.error.TreeError.TheVariants as loading
use Rattle.tl_refusal.specs.declared.refusal.Refusal.TheVariants.{BadDatabase, TooLarge}
use Rattle.tl_command.specs.Runs.{Run, refused, limited, over_entries, over_database, leaving_entries, changing_entries, AreLabelled}

not_above : (a b : ℕ) → b ≤ a → nat_lt a b ≡ false
not_above a b le = elim (cases_Bool (nat_lt a b)) [
  | inl less ↦ absurd (omega (arith, ltb-true a b less))
  | inr not_less ↦ not_less
]

-- a quantity within its limit
pub limited-within : (quantity : What) (count : ℕ) (run : Run) → count ≤ limit_of quantity → limited quantity count run ≡ run
limited-within quantity count run le =
    ap (λ (b : Bool). cond b (refused (TooLarge quantity (limit_of quantity))) run) (not_above (limit_of quantity) count le)

-- and past it
pub limited-past : (quantity : What) (count : ℕ) (run : Run) → limit_of quantity < count → limited quantity count run ≡ refused (TooLarge quantity (limit_of quantity))
limited-past quantity count run less =
    ap (λ (b : Bool). cond b (refused (TooLarge quantity (limit_of quantity))) run) (lt-ltb (limit_of quantity) count less)

-- a run over a database that reads
pub over-read : (go : List Object → Run) (text : List ℕ) (entries : List Object) → IsRead text entries → over_database go text ≡ go entries
over-read go text entries read =
    limited-within what.Database (length text) (over_entries go (db_of text)) read.0
    ∙ ap (over_entries go) read.1
    ∙ limited-within what.Packages (length entries) (go entries) read.2

-- a run over a database with a bad line
pub over-bad : (go : List Object → Run) (text : List ℕ) (line : ℕ) (kind : LineKind) → IsTreeError text (loading.BadDatabase line kind) → over_database go text ≡ refused (BadDatabase line kind)
over-bad go text line kind fault = limited-within what.Database (length text) (over_entries go (db_of text)) fault.0 ∙ ap (over_entries go) fault.1

over-many : (go : List Object → Run) (text : List ℕ) (many : HasTooMany text) → over_entries go (db_of text) ≡ refused (TooLarge what.Packages 65536)
over-many go text many = ap (over_entries go) many.1.0 ∙ limited-past what.Packages (length many.0) (go many.0) many.1.1

-- a run over a database past a limit
pub over-too_large : (go : List Object → Run) (text : List ℕ) (quantity : What) (limit : ℕ) → IsTreeError text (loading.TooLarge quantity limit) → over_database go text ≡ refused (TooLarge quantity limit)
over-too_large go text what.Database limit fault =
    limited-past what.Database (length text) (over_entries go (db_of text)) fault.0 ∙ ap (λ (n : ℕ). refused (TooLarge what.Database n)) (sym fault.1)
over-too_large go text what.Packages limit fault =
    limited-within what.Database (length text) (over_entries go (db_of text)) fault.0
    ∙ over-many go text fault.1
    ∙ ap (λ (n : ℕ). refused (TooLarge what.Packages n)) (sym fault.2)
over-too_large go text what.Line limit fault = absurd fault
over-too_large go text what.Input limit fault = absurd fault
over-too_large go text what.Source limit fault = absurd fault
over-too_large go text what.Pins limit fault = absurd fault
over-too_large go text what.Marks limit fault = absurd fault
over-too_large go text what.File limit fault = absurd fault
over-too_large go text what.Frame limit fault = absurd fault
over-too_large go text what.Sources limit fault = absurd fault
over-too_large go text what.Files limit fault = absurd fault

-- a run that leaves entries within their limits
leaving-within : (entries : List Object) (run : Run) → IsWithin entries → leaving_entries entries run ≡ run
leaving-within entries run within =
    limited-within what.Packages (length entries) (limited what.Database (length (db_text entries)) run) within.0
    ∙ limited-within what.Database (length (db_text entries)) run within.1

-- a run that would leave entries past a limit
leaving-too_large : (entries : List Object) (run : Run) (quantity : What) (limit : ℕ) → IsTooLarge entries quantity limit → leaving_entries entries run ≡ refused (TooLarge quantity limit)
leaving-too_large entries run what.Packages limit large =
    limited-past what.Packages (length entries) (limited what.Database (length (db_text entries)) run) large.0
    ∙ ap (λ (n : ℕ). refused (TooLarge what.Packages n)) (sym large.1)
leaving-too_large entries run what.Database limit large =
    limited-within what.Packages (length entries) (limited what.Database (length (db_text entries)) run) large.0
    ∙ limited-past what.Database (length (db_text entries)) run large.1
    ∙ ap (λ (n : ℕ). refused (TooLarge what.Database n)) (sym large.2)
leaving-too_large entries run what.Line limit large = absurd large
leaving-too_large entries run what.Input limit large = absurd large
leaving-too_large entries run what.Source limit large = absurd large
leaving-too_large entries run what.Pins limit large = absurd large
leaving-too_large entries run what.Marks limit large = absurd large
leaving-too_large entries run what.File limit large = absurd large
leaving-too_large entries run what.Frame limit large = absurd large
leaving-too_large entries run what.Sources limit large = absurd large
leaving-too_large entries run what.Files limit large = absurd large

-- a change within the limits of the database
pub changing-within : (db : List Object) (parts : List Part) (run : Run) → (has_entries parts ≡ true → IsWithin (entries_after parts db)) → changing_entries db parts run ≡ run
changing-within db parts run allowed = by (has_entries parts) allowed
  where
    by : (speaks : Bool) → (speaks ≡ true → IsWithin (entries_after parts db)) → cond speaks (leaving_entries (entries_after parts db) run) run ≡ run
    by true within = leaving-within (entries_after parts db) run (within refl)
    by false within = refl

-- a change past one of them
pub changing-too_large : (db : List Object) (parts : List Part) (run : Run) (quantity : What) (limit : ℕ) → has_entries parts ≡ true → IsTooLarge (entries_after parts db) quantity limit
    → changing_entries db parts run ≡ refused (TooLarge quantity limit)
changing-too_large db parts run quantity limit speaks large =
    ap (λ (b : Bool). cond b (leaving_entries (entries_after parts db) run) run) speaks ∙ leaving-too_large (entries_after parts db) run quantity limit large

labelled-limited : (quantity : What) (count : ℕ) (run : Run) → AreLabelled run.events → AreLabelled (limited quantity count run).events
labelled-limited quantity count run labelled = by (nat_lt (limit_of quantity) count)
  where
    by : (past : Bool) → let run' = cond past (refused (TooLarge quantity (limit_of quantity))) run in AreLabelled run'.events
    by true = tt
    by false = labelled

-- the steps of a run that leaves entries are labelled where its steps are within their limits
pub labelled-leaving : (entries : List Object) (run : Run) → AreLabelled run.events → AreLabelled (leaving_entries entries run).events
labelled-leaving entries run labelled = labelled-limited what.Packages (length entries) (limited what.Database (length (db_text entries)) run)
    (labelled-limited what.Database (length (db_text entries)) run labelled)

-- the steps of a run over a database are labelled where those over any entries are
pub labelled-over : (go : List Object → Run) (text : List ℕ) → ((entries : List Object) → AreLabelled (go entries).events) → AreLabelled (over_database go text).events
labelled-over go text each = labelled-limited what.Database (length text) (over_entries go (db_of text)) (by (db_of text))
  where
    by : (read : Result (List Object) (ℕ × LineKind)) → AreLabelled (over_entries go read).events
    by (Ok entries) = labelled-limited what.Packages (length entries) (go entries) (each entries)
    by (Err fault) = tt
