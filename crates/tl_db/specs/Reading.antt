-- The reading of a database.
use Rattle.std.specs.Prelude.{◌≡◌, ℕ, ◌<◌, ◌≤◌, if◌then◌else◌, List, [], ◌∷◌, length, Result, Ok, Err}
use Rattle.tl_object.specs.Content.{content, stretches}
use Rattle.tl_entry.specs.Rising.{insert_by, has_key}
use Rattle.tl_object.specs.Reading.{as_object, entry_groups, first_name}
use Rattle.tl_entry.specs.declared.object.Object.{Object}
use Rattle.tl_object.specs.declared.fault.LineKind.{LineKind}
use Rattle.tl_object.specs.declared.fault.LineKind.TheVariants.{Repeated}
use Rattle.tl_kind.specs.declared.quantity.What.TheVariants as what
use Rattle.tl_db.specs.declared.fault.DbError.{DbError}
use Rattle.tl_db.specs.declared.fault.DbError.TheVariants.{BadDatabase, TooLarge, NoMemory}

-- the number of a bad line and what is wrong with it
abbrev pub Fault : Type 0
Fault = ℕ × LineKind

-- some entries and one more in its place, or the fault of that one
abbrev pub with_object : List Object → Result Object Fault → Result (List Object) Fault
with_object objects (Ok object) = Ok (insert_by (λ (o : Object). o.name) object objects)
with_object objects (Err fault) = Err fault

-- some entries and that of some lines, whose name and first line are these
abbrev pub with_named : List Object → List (ℕ × List ℕ) → Result (ℕ × List ℕ) Fault → Result (List Object) Fault
with_named objects lines (Ok (line, name)) =
    if has_key (λ (o : Object). o.name) name objects then Err (line, Repeated) else with_object objects (as_object (entry_groups lines))
with_named objects lines (Err fault) = Err fault

-- some entries and that of a stretch of lines; a name that one of them has is a fault of its line
abbrev pub with_stretch : List Object → List (ℕ × List ℕ) → Result (List Object) Fault
with_stretch objects lines = with_named objects lines (first_name lines)

-- the next step with the entries so far, or the fault that came before it
abbrev pub going_on : Result (List Object) Fault → (List Object → Result (List Object) Fault) → Result (List Object) Fault
going_on (Ok objects) next = next objects
going_on (Err fault) next = Err fault

-- some entries and those of stretches of lines, or the first bad line
abbrev pub with_stretches : List Object → List (List (ℕ × List ℕ)) → Result (List Object) Fault
with_stretches objects [] = Ok objects
with_stretches objects (lines ∷ others) = going_on (with_stretch objects lines) (λ more. with_stretches more others)

-- the entries of a text in the order of their names, or the number of its first bad line with that line's first fault
abbrev pub db_of : List ℕ → Result (List Object) Fault
db_of text = with_stretches [] (stretches (content 0 text))

-- the text is within its limit and has these entries, which are within theirs
abbrev pub IsRead : List ℕ → List Object → Type 0
IsRead text objects = (length text ≤ 268435456) × (db_of text ≡ Ok objects) × (length objects ≤ 65536)

-- the text has more entries than the limit
abbrev pub HasTooMany : List ℕ → Type 0
HasTooMany text = (objects : List Object) × ((db_of text ≡ Ok objects) × (65536 < length objects))

-- the cause of each refusal of a database; want of memory has none
abbrev pub IsDbError : List ℕ → DbError → Type 0
IsDbError text NoMemory = Unit {0}
IsDbError text (BadDatabase line kind) = (length text ≤ 268435456) × (db_of text ≡ Err (line, kind))
IsDbError text (TooLarge what.Database limit) = (268435456 < length text) × (limit ≡ 268435456)
IsDbError text (TooLarge what.Packages limit) = (length text ≤ 268435456) × HasTooMany text × (limit ≡ 65536)
IsDbError text (TooLarge other limit) = ⊥
