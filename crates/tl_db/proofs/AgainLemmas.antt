-- The text of a database reads as the database.
use Rattle.std.proofs.Common.{◌≡◌, ℕ, ◌+◌, ◌<◌, true, cond, List, [], ◌∷◌, ◌++◌, length, Result, Ok, Err, refl, sym, ◌∙◌, ap, arith, append_assoc}
use Rattle.std.specs.Prelude.{All}
use Rattle.std.specs.List.{AllByRecursion}
use Rattle.std.proofs.lemmas.List.{append-nil}
use Rattle.std.proofs.lemmas.List.Elements.{All-head, All-tail}
use Rattle.tl_model.specs.Lines.{text_of}
use Rattle.tl_object.specs.Content.{content, front, behind, is_full, stretches}
use Rattle.tl_entry.specs.Rising.{is_rising}
use Rattle.tl_object.specs.Reading.{as_object, entry_groups}
use Rattle.tl_object.specs.Again.{counted, IsFull, ReadsAgain}
use Rattle.tl_entry.specs.declared.object.Object.{Object}
use Rattle.tl_object.specs.declared.fault.LineKind.TheVariants.{Repeated}
use Rattle.tl_object.proofs.AgainLemmas.{content-lines}
use Rattle.tl_object.proofs.LastLemmas.{insert-last, absent-last, rising-tail, Follows, follows-none, follows-next}
use Rattle.tl_object.proofs.StretchLemmas.{stretches-full}
use Rattle.tl_db.specs.Reading.{Fault, with_object, with_named, with_stretch, going_on, with_stretches, db_of}
use Rattle.tl_db.specs.Text.{entry_text, db_text}
use Rattle.tl_db.proofs.DbLemmas.{name}

abbrev Lines : Type 0
Lines = List (ℕ × List ℕ)

-- the lines of an entry stand before the empty line behind it
front_counted : (n m : ℕ) (lines : List (List ℕ)) (rest : Lines) → AllByRecursion IsFull lines → front (counted n lines ++ (m, []) ∷ rest) ≡ counted n lines
front_counted n m [] rest each = refl
front_counted n m (line ∷ lines) rest each =
    ap (λ t. cond t [] ((n + 1, line) ∷ front (counted (n + 1) lines ++ (m, []) ∷ rest))) each.0.full
    ∙ ap (λ (ls : Lines). (n + 1, line) ∷ ls) (front_counted (n + 1) m lines rest each.1)

behind_counted : (n m : ℕ) (lines : List (List ℕ)) (rest : Lines) → AllByRecursion IsFull lines → behind (counted n lines ++ (m, []) ∷ rest) ≡ rest
behind_counted n m [] rest each = refl
behind_counted n m (line ∷ lines) rest each =
    ap (λ t. cond t (counted (n + 1) lines ++ (m, []) ∷ rest) (behind (counted (n + 1) lines ++ (m, []) ∷ rest))) each.0.full
    ∙ behind_counted (n + 1) m lines rest each.1

full_counted : (n : ℕ) (lines : List (List ℕ)) → 0 < length lines → is_full (counted n lines) ≡ true
full_counted n [] some = absurd (omega arith)
full_counted n (line ∷ lines) some = refl

-- the lines that count of an entry's text with the empty line behind it
entry_content : (n : ℕ) (o : Object) (rest : List ℕ) (again : ReadsAgain o)
    → content n (entry_text o ++ rest) ≡ counted n again.lines ++ (n + length again.lines + 1, []) ∷ content (n + length again.lines + 1) rest
entry_content n o rest again =
    ap (λ (text : List ℕ). content n ((text ++ 10 ∷ []) ++ rest)) again.text
    ∙ ap (content n) (append_assoc (text_of again.lines) (10 ∷ []) rest)
    ∙ content-lines n again.lines (10 ∷ rest) again.each

-- the first stretch of a database's text is the lines of its first entry
entry_stretch : (n : ℕ) (o : Object) (rest : List ℕ) (again : ReadsAgain o)
    → stretches (content n (entry_text o ++ rest)) ≡ counted n again.lines ∷ stretches (content (n + length again.lines + 1) rest)
entry_stretch n o rest again =
    let m : ℕ = n + length again.lines + 1 in
    let start : Lines = counted n again.lines ++ (m, []) ∷ content m rest in
    let first : front start ≡ counted n again.lines = front_counted n m again.lines (content m rest) again.each in
    let next : behind start ≡ content m rest = behind_counted n m again.lines (content m rest) again.each in
    ap stretches (entry_content n o rest again)
    ∙ stretches-full start (ap is_full first ∙ full_counted n again.lines again.some)
    ∙ ap (λ (ls : Lines). ls ∷ stretches (behind start)) first ∙ ap (λ (ls : Lines). counted n again.lines ∷ stretches ls) next

-- an entry behind others whose names are less
entry_added : (n : ℕ) (before : List Object) (o : Object) (again : ReadsAgain o) → Follows name before (o ∷ []) → with_stretch before (counted n again.lines) ≡ Ok (before ++ o ∷ [])
entry_added n before o again follows =
    let lines : Lines = counted n again.lines in
    ap (with_named before lines) (again.named n)
    ∙ ap (λ t. cond t (Err (n + 1, Repeated)) (with_object before (as_object (entry_groups lines)))) (absent-last name o before follows)
    ∙ ap (with_object before) (again.same n) ∙ ap (λ (os : List Object). Ok os) (insert-last name o before follows)

-- the text of entries whose names rise reads as them, behind others whose names are less
entries_again : (n : ℕ) (before objects : List Object) → All ReadsAgain objects → is_rising name objects ≡ true → Follows name before objects
    → with_stretches before (stretches (content n (db_text objects))) ≡ Ok (before ++ objects)
entries_again n before [] each up follows = ap (λ (os : List Object). Ok os) (sym (append-nil before))
entries_again n before (o ∷ objects) each up follows =
    let again = All-head ReadsAgain o objects each in
    let m : ℕ = n + length again.lines + 1 in
    ap (with_stretches before) (entry_stretch n o (db_text objects) again)
    ∙ ap (λ (r : Result (List Object) Fault). going_on r (λ os. with_stretches os (stretches (content m (db_text objects))))) (entry_added n before o again follows)
    ∙ entries_again m (before ++ o ∷ []) objects (All-tail ReadsAgain o objects each) (rising-tail name o objects up) (follows-next name before o objects follows up)
    ∙ ap (λ (os : List Object). Ok os) (append_assoc before (o ∷ []) objects)

-- the text of a database reads as the database
pub db-again : (objects : List Object) → All ReadsAgain objects → is_rising name objects ≡ true → db_of (db_text objects) ≡ Ok objects
db-again objects each up = entries_again 0 [] objects each up (follows-none name objects)

abbrev objects_in : Result (List Object) Fault → List Object
objects_in (Ok objects) = objects
objects_in (Err fault) = []

-- no two databases have one text
pub db_text-same : (some more : List Object) → All ReadsAgain some → All ReadsAgain more → is_rising name some ≡ true → is_rising name more ≡ true → db_text some ≡ db_text more → some ≡ more
db_text-same some more each also up rising same =
    ap objects_in (sym (db-again some each up) ∙ ap db_of same ∙ db-again more also rising)
