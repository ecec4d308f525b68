-- Steps of the reading of a database.
use Rattle.std.proofs.Common.{◌≡◌, ℕ, true, false, cond, List, [], Result, Ok, Err, sym, ap, subst, ◌∙◌}
use Rattle.tl_object.specs.Content.{front, behind, is_full, stretches}
use Rattle.tl_entry.specs.Rising.{insert_by, has_key}
use Rattle.tl_object.specs.Reading.{as_object, entry_groups, first_name, FailsAt}
use Rattle.tl_entry.specs.declared.object.Object.{Object}
use Rattle.tl_object.specs.declared.fault.ObjectError.{ObjectError}
use Rattle.tl_object.specs.declared.fault.ObjectError.TheVariants as errors
use Rattle.tl_object.specs.declared.fault.LineKind.TheVariants.{Repeated}
use Rattle.tl_object.proofs.StretchLemmas.{stretches-full, stretches-empty}
use Rattle.tl_db.specs.Reading.{Fault, with_object, with_named, with_stretch, going_on, with_stretches}

abbrev Lines : Type 0
Lines = List (ℕ × List ℕ)

abbrev pub name : Object → List ℕ
name o = o.name

some_named : (r : Result (ℕ × List ℕ) Fault) (a b : ℕ × List ℕ) → r ≡ Ok a → r ≡ Ok b → a ≡ b
some_named r a b p q = cc

-- the entry that was read has the name that was looked for
pub absent : (objects : List Object) (lines : Lines) (line other : ℕ) (wanted : List ℕ) (object : Object) → has_key name wanted objects ≡ false
    → first_name lines ≡ Ok (line, wanted) → first_name lines ≡ Ok (other, object.name) → has_key name object.name objects ≡ false
absent objects lines line other wanted object none p q =
    let same : (line, wanted) ≡ (other, object.name) = some_named (first_name lines) (line, wanted) (other, object.name) p q in
    subst (λ (n : ℕ × List ℕ). has_key name n.1 objects ≡ false) same none

-- the stretches from the start of an entry on
begun : (start : Lines) (objects : List Object) → is_full (front start) ≡ true
    → with_stretches objects (stretches start) ≡ going_on (with_stretch objects (front start)) (λ more. with_stretches more (stretches (behind start)))
begun start objects full = ap (with_stretches objects) (stretches-full start full)

pub db-more : (total : Result (List Object) Fault) (objects : List Object) (now start left : Lines) (line : ℕ) (wanted : List ℕ) (object : Object) (more : List Object)
    → with_stretches objects (stretches now) ≡ total → stretches now ≡ stretches start → is_full (front start) ≡ true
    → first_name (front start) ≡ Ok (line, wanted) → has_key name wanted objects ≡ false → as_object (entry_groups (front start)) ≡ Ok object
    → behind start ≡ behind left → front left ≡ [] → more ≡ insert_by name object objects
    → with_stretches more (stretches left) ≡ total
db-more total objects now start left line wanted object more so_far same full named none read gone ended after =
    let step : with_stretch objects (front start) ≡ Ok more =
    ap (with_named objects (front start)) named ∙ ap (λ t. cond t (Err (line, Repeated)) (with_object objects (as_object (entry_groups (front start))))) none
    ∙ ap (with_object objects) read ∙ ap (λ (os : List Object). Ok os) (sym after) in
    let rest : stretches left ≡ stretches (behind start) = stretches-empty left ended ∙ ap stretches (sym gone) in
    ap (with_stretches more) rest
    ∙ sym (ap (λ (r : Result (List Object) Fault). going_on r (λ os. with_stretches os (stretches (behind start)))) step)
    ∙ sym (begun start objects full) ∙ ap (with_stretches objects) (sym same) ∙ so_far

named_fails : (e : ObjectError) (lines : Lines) (objects : List Object) (next : List Object → Result (List Object) Fault) (total : Result (List Object) Fault)
    → FailsAt e (first_name lines) → total ≡ going_on (with_stretch objects lines) next → FailsAt e total
named_fails errors.NoMemory lines objects next total fails is = tt
named_fails (errors.BadObject line kind) lines objects next total fails is =
    is ∙ ap (λ (r : Result (ℕ × List ℕ) Fault). going_on (with_named objects lines r) next) fails

pub db-name_fails : (e : ObjectError) (total : Result (List Object) Fault) (objects : List Object) (now start : Lines)
    → with_stretches objects (stretches now) ≡ total → stretches now ≡ stretches start → is_full (front start) ≡ true
    → FailsAt e (first_name (front start)) → FailsAt e total
db-name_fails e total objects now start so_far same full fails =
    named_fails e (front start) objects (λ more. with_stretches more (stretches (behind start))) total fails (sym so_far ∙ ap (with_stretches objects) same ∙ begun start objects full)

pub db-repeated : (total : Result (List Object) Fault) (objects : List Object) (now start : Lines) (line : ℕ) (wanted : List ℕ)
    → with_stretches objects (stretches now) ≡ total → stretches now ≡ stretches start → is_full (front start) ≡ true
    → first_name (front start) ≡ Ok (line, wanted) → has_key name wanted objects ≡ true → total ≡ Err (line, Repeated)
db-repeated total objects now start line wanted so_far same full named there =
    sym so_far ∙ ap (with_stretches objects) same ∙ begun start objects full
    ∙ ap (λ (r : Result (ℕ × List ℕ) Fault). going_on (with_named objects (front start) r) (λ more. with_stretches more (stretches (behind start)))) named
    ∙ ap (λ t. going_on (cond t (Err (line, Repeated)) (with_object objects (as_object (entry_groups (front start))))) (λ more. with_stretches more (stretches (behind start)))) there

entry_fails : (e : ObjectError) (objects : List Object) (read : Result Object Fault) (next : List Object → Result (List Object) Fault) (total : Result (List Object) Fault)
    → FailsAt e read → total ≡ going_on (with_object objects read) next → FailsAt e total
entry_fails errors.NoMemory objects read next total fails is = tt
entry_fails (errors.BadObject line kind) objects read next total fails is = is ∙ ap (λ (r : Result Object Fault). going_on (with_object objects r) next) fails

pub db-entry_fails : (e : ObjectError) (total : Result (List Object) Fault) (objects : List Object) (now start : Lines) (line : ℕ) (wanted : List ℕ)
    → with_stretches objects (stretches now) ≡ total → stretches now ≡ stretches start → is_full (front start) ≡ true
    → first_name (front start) ≡ Ok (line, wanted) → has_key name wanted objects ≡ false
    → FailsAt e (as_object (entry_groups (front start))) → FailsAt e total
db-entry_fails e total objects now start line wanted so_far same full named none fails =
    entry_fails e objects (as_object (entry_groups (front start))) (λ more. with_stretches more (stretches (behind start))) total fails
    (sym so_far ∙ ap (with_stretches objects) same ∙ begun start objects full
    ∙ ap (λ (r : Result (ℕ × List ℕ) Fault). going_on (with_named objects (front start) r) (λ more. with_stretches more (stretches (behind start)))) named
    ∙ ap (λ t. going_on (cond t (Err (line, Repeated)) (with_object objects (as_object (entry_groups (front start))))) (λ more. with_stretches more (stretches (behind start)))) none)

pub db-done : (total : Result (List Object) Fault) (objects : List Object) (now : Lines) → with_stretches objects (stretches now) ≡ total → stretches now ≡ [] → total ≡ Ok objects
db-done total objects now so_far none = sym so_far ∙ ap (with_stretches objects) none
