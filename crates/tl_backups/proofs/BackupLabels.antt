-- The steps of `backup` are labelled.
use Rattle.std.proofs.Common.{◌≡◌, ◌<◌, ◌≤◌, ◌+◌, ◌/◌, ◌%◌, ◌^◌, ◌==◌, ◌&&◌, ◌||◌, ℕ, zero, suc, Bool, true, false, cond, nat_lt, List, [], ◌∷◌, ◌++◌, length, map, Option, Some, None, Result, Ok, Err, refl, sym, ap, subst, ◌∙◌, arith}
use Rattle.std.specs.Prelude.{codes, find, is_none}
use Rattle.std.specs.Fmt.{digit_glyph, digits, digits_onto}
use Rattle.std.specs.List.{AllByRecursion, IsDistinct, enumerate_from, list_any}
use Rattle.std.specs.Ordering.{nat_cmp, is_eq, is_lt}
use Rattle.std.proofs.lemmas.Cmp.{eq_by_cmp_equiv}
use Rattle.std.specs.Cmp.Lexicographic.{slice_cmp, nat_list_cmp_total}
use Rattle.std.specs.declared.cmp.Ordering.{Ordering}
use Rattle.std.specs.declared.cmp.Ordering.TheVariants.{Less, Equal, Greater}
use Rattle.std.proofs.lemmas.Bool.{and_parts, ne_eqb, or_right}
use Rattle.std.proofs.lemmas.List.{length-map}
use Rattle.std.proofs.lemmas.List.Elements.{All-cons, All-nil}
use Rattle.std.proofs.lemmas.Map.Made.{length-le_from_is_member}
use Rattle.tl_model.specs.Decimal.{decimal_text}
use Rattle.tl_model.specs.Lines.{IsLine}
use Rattle.tl_model.specs.Volume.{Name, Volume, same_name, same_name-is, same_name-refl}
use Rattle.tl_entry.specs.Rising.{comes_before, is_rising, is_rising_after}
use Rattle.tl_entry.specs.declared.object.Object.{Object}
use Rattle.tl_entry.proofs.RisingLemmas.{before_trans}
use Rattle.tl_entry.proofs.SetLemmas.{rising-rising_of}
use Rattle.tl_object.proofs.PlainLemmas.{line_append, line_tested}
use Rattle.tl_object.specs.Writing.{object_text}
use Rattle.tl_db.specs.Entries.{entry_of}
use Rattle.tl_tree.specs.Owners.{name_of}
use Rattle.tl_tree.specs.Planted.{database_text}
use Rattle.tl_backup.specs.Autobackup.{revision_at}
use Rattle.tl_backup.specs.Frames.{backup_bytes, backup_in, own_paths, part_with}
use Rattle.tl_backup.specs.declared.error.BackupError.{BackupError}
use Rattle.tl_backup.specs.declared.error.BackupError.TheVariants as faults
use Rattle.tl_command.specs.Labels.{step_label}
use Rattle.tl_command.specs.Runs.{Run, AreLabelled, over_database}
use Rattle.tl_command.specs.Steps.{running}
use Rattle.tl_command.proofs.LabelLaws.{label-step}
use Rattle.tl_backups.specs.Backing.{backup_run, backup_step, backup_text, checked_run, fault_among, fault_or, installed_fault, is_own_name, nothing_left, open_names, packages_fault, packages_of, packages_run, step_with, unless_fault, unless_protected}
use Rattle.tl_backups.specs.Faults.{faulted}
use Rattle.tl_backups.proofs.Named.{AreNamed, read_named}
use Rattle.tl_backups.proofs.ReadLabels.{labelled-read}

-- ---- what is said of a package is one line

glyph_apart : (d : ℕ) → (digit_glyph false d == 10) ≡ false
glyph_apart d = by (nat_lt d 10)
  where
    by : (b : Bool) → (cond b (48 + d) (87 + d) == 10) ≡ false
    by true = ne_eqb (48 + d) 10 (λ e. absurd (omega (arith, e)))
    by false = ne_eqb (87 + d) 10 (λ e. absurd (omega (arith, e)))

line_onto : (k n : ℕ) (digits : List ℕ) → IsLine digits → IsLine (digits_onto k 10 false n digits)
line_onto zero n digits is = is
line_onto (suc k) n digits is =
    let more : IsLine (digit_glyph false (n % 10) ∷ digits) = All-cons (λ b. (b == 10) ≡ false) (digit_glyph false (n % 10)) digits (glyph_apart (n % 10)) is in
    by (n / 10 == 0) more (line_onto k (n / 10) (digit_glyph false (n % 10) ∷ digits) more)
  where
    by : (b : Bool) → IsLine (digit_glyph false (n % 10) ∷ digits) → IsLine (digits_onto k 10 false (n / 10) (digit_glyph false (n % 10) ∷ digits))
        → IsLine (cond b (digit_glyph false (n % 10) ∷ digits) (digits_onto k 10 false (n / 10) (digit_glyph false (n % 10) ∷ digits)))
    by true more rest = more
    by false more rest = rest

line_of_decimal : (n : ℕ) → IsLine (decimal_text n)
unfolding digits
line_of_decimal n = line_onto 64 n [] (All-nil (λ b. (b == 10) ≡ false))

line_of_text : (name : Name) (revision : ℕ) → IsLine name → IsLine (backup_text name revision)
line_of_text name revision is =
    line_append (codes "backup ") (name ++ (codes " r" ++ decimal_text revision)) (line_tested (codes "backup ") refl)
    (line_append name (codes " r" ++ decimal_text revision) is (line_append (codes " r") (decimal_text revision) (line_tested (codes " r") refl) (line_of_decimal revision)))

line_of_entry : (name : Name) (db : List Object) → AreNamed db → (entry : Object) → entry_of name db ≡ Some entry → IsLine name
line_of_entry name [] are entry is = absurd (cc)
line_of_entry name (first ∷ db) are entry is = by (same_name first.name name) refl (λ found. line_of_entry name db are.1 entry found) is
  where
    by : (b : Bool) → same_name first.name name ≡ b → (entry_of name db ≡ Some entry → IsLine name) → cond b (Some first) (entry_of name db) ≡ Some entry → IsLine name
    by true same rest found = subst IsLine (same_name-is first.name name same) are.0
    by false same rest found = rest found

-- ---- no more packages are backed up than are installed

less_apart : (r : Ordering) → is_lt r ≡ true → is_eq r ≡ false
less_apart Less is = refl
less_apart Equal is = absurd (cc)
less_apart Greater is = refl

after_all : (first : Name) (names : List Name) → is_rising_after (λ (n : Name). n) first names ≡ true → AllByRecursion (λ n. same_name first n ≡ false) names
after_all first [] up = tt
after_all first (n ∷ names) up =
    let both = and_parts (comes_before first n) (is_rising_after (λ (n : Name). n) n names) up in
    (less_apart (slice_cmp nat_cmp first n) both.0, after_all first names (skip names both.0 both.1))
  where
    skip : (names : List Name) → comes_before first n ≡ true → is_rising_after (λ (n : Name). n) n names ≡ true → is_rising_after (λ (n : Name). n) first names ≡ true
    skip [] a b = refl
    skip (m ∷ names) a b =
        let both = and_parts (comes_before n m) (is_rising_after (λ (n : Name). n) m names) b in
        ap (λ t. t && is_rising_after (λ (n : Name). n) m names) (before_trans first n m a both.0) ∙ both.1

tail_rises : (first : Name) (names : List Name) → is_rising_after (λ (n : Name). n) first names ≡ true → is_rising (λ (n : Name). n) names ≡ true
tail_rises first [] up = refl
tail_rises first (n ∷ names) up = (and_parts (comes_before first n) (is_rising_after (λ (n : Name). n) n names) up).1

rising_once : (names : List Name) → is_rising (λ (n : Name). n) names ≡ true → IsDistinct same_name names
unfolding IsDistinct
rising_once [] up = tt
rising_once (n ∷ names) up = (after_all n names up, rising_once names (tail_rises n names up))

none_or : (one other : Option BackupError) → fault_or one other ≡ None → (one ≡ None) × (other ≡ None)
none_or None other is = (refl, is)
none_or (Some fault) other is = absurd (cc)

has_entry : (name : Name) (db : List Object) → installed_fault db name ≡ None → list_any (same_name name) (map name_of db) ≡ true
has_entry name [] is = absurd (cc)
has_entry name (first ∷ db) is = by (same_name first.name name) refl (has_entry name db) is
  where
    flipped : same_name first.name name ≡ true → same_name name first.name ≡ true
    flipped same = subst (λ (n : Name). same_name n first.name ≡ true) (same_name-is first.name name same) (same_name-refl first.name)

    by : (b : Bool) → same_name first.name name ≡ b → (installed_fault db name ≡ None → list_any (same_name name) (map name_of db) ≡ true)
        → cond (is_none (cond b (Some first) (entry_of name db))) (Some (faults.NotInstalled name)) None ≡ None
        → list_any (same_name name) (map name_of (first ∷ db)) ≡ true
    by true same rest none = ap (λ t. t || list_any (same_name name) (map name_of db)) (flipped same)
    by false same rest none = or_right (same_name name first.name) (list_any (same_name name) (map name_of db)) (rest none)

are_installed : (names : List Name) (db : List Object) → fault_among (installed_fault db) names ≡ None → (q : Name) → list_any (same_name q) names ≡ true → list_any (same_name q) (map name_of db) ≡ true
are_installed [] db none q here = absurd (cc)
are_installed (n ∷ names) db none q here =
    let both = none_or (installed_fault db n) (fault_among (installed_fault db) names) none in
    by (same_name q n) refl (are_installed names db both.1 q) (has_entry n db both.0) here
  where
    by : (b : Bool) → same_name q n ≡ b → (list_any (same_name q) names ≡ true → list_any (same_name q) (map name_of db) ≡ true)
        → list_any (same_name n) (map name_of db) ≡ true → (b || list_any (same_name q) names) ≡ true
        → list_any (same_name q) (map name_of db) ≡ true
    by true same rest there found = subst (λ (m : Name). list_any (same_name m) (map name_of db) ≡ true) (sym (same_name-is q n same)) there
    by false same rest there found = rest found

no_more : (names : List Name) (db : List Object) → is_rising (λ (n : Name). n) names ≡ true → fault_among (installed_fault db) names ≡ None → length names ≤ length db
no_more names db up none =
    let le = length-le_from_is_member (eq_by_cmp_equiv nat_list_cmp_total) names (map name_of db) (rising_once names up) (are_installed names db none) in
    omega (arith, le, length-map db name_of)

-- ---- the steps

labelled-faulted : (fault : BackupError) → AreLabelled (faulted fault).events
labelled-faulted (faults.NotInstalled name) = tt
labelled-faulted (faults.FileMissing path) = tt
labelled-faulted (faults.TooLarge what limit) = tt
labelled-faulted faults.HostFault = tt
labelled-faulted faults.NoMemory = tt

labelled-one : (count number : ℕ) (name : Name) (db : List Object) (tree : Volume) (rest : List Object → Volume → Run) → AreNamed db → number < 2 ^ 64 → count < 2 ^ 64
    → ((next : Volume) → AreLabelled (rest db next).events) → AreLabelled (backup_step count (number, name) rest db tree).events
labelled-one count number name db tree rest are small below others = by (entry_of name db) refl
  where
    label : List ℕ
    label = step_label number count (backup_text name (revision_at db name))

    made : (entry : Object) → entry_of name db ≡ Some entry → (bytes : Result (List ℕ) BackupError)
        → AreLabelled (step_with (step_label number count (backup_text name (revision_at db name))) (part_with entry bytes) rest db tree).events
    made entry is (Ok bytes) = (label-step number count (backup_text name (revision_at db name)) small below (line_of_text name (revision_at db name) (line_of_entry name db are entry is)), others _)
    made entry is (Err fault) = labelled-faulted fault

    by : (found : Option Object) → entry_of name db ≡ found → AreLabelled (step_with (step_label number count (backup_text name (revision_at db name))) (backup_in name found tree) rest db tree).events
    by None is = tt
    by (Some entry) is = made entry is (backup_bytes (object_text entry) (own_paths entry) tree)

labelled-packages : (count : ℕ) (names : List Name) (from : ℕ) → count < 2 ^ 64 → from + length names < 2 ^ 64 → (db : List Object) → AreNamed db → (tree : Volume)
    → AreLabelled (running (backup_step count) (enumerate_from from names) nothing_left db tree).events
labelled-packages count [] from small below db are tree = tt
labelled-packages count (name ∷ names) from small below db are tree =
    labelled-one count from name db tree (running (backup_step count) (enumerate_from (from + 1) names) nothing_left) are (omega (arith, below)) small
    (λ next. labelled-packages count names (from + 1) small (omega (arith, below)) db are next)

labelled-checked : (names : List Name) (tree : Volume) (db : List Object) → AreNamed db → length db ≤ 65536 → is_rising (λ (n : Name). n) names ≡ true → AreLabelled (checked_run names tree db).events
labelled-checked names tree db are few up = by (packages_fault names db tree) refl
  where
    by : (fault : Option BackupError) → packages_fault names db tree ≡ fault
        → AreLabelled (unless_fault fault (running (backup_step (length names)) (enumerate_from 1 names) nothing_left db tree)).events
    by (Some fault) is = labelled-faulted fault
    by None is =
        let short = no_more names db up (none_or (fault_among (installed_fault db) names) _ is).0 in
        labelled-packages (length names) names 1 (omega (arith, short, few)) (omega (arith, short, few)) db are tree

labelled-over_packages : (names : List Name) (tree : Volume) (db : List Object) → AreNamed db → length db ≤ 65536 → is_rising (λ (n : Name). n) names ≡ true → AreLabelled (packages_run names tree db).events
labelled-over_packages names tree db are few up = by (find is_own_name names)
  where
    by : (protected : Option Name) → AreLabelled (unless_protected protected (checked_run names tree db)).events
    by (Some name) = tt
    by None = labelled-checked names tree db are few up

-- the steps of `backup` are labelled
pub labelled-backup : (names : List Name) (every : Bool) (tree : Volume) → AreLabelled (over_database (backup_run names every tree) (database_text tree)).events
labelled-backup names every tree = labelled-read (backup_run names every tree) (database_text tree)
    (λ db is few. labelled-over_packages (packages_of names every db) tree db (read_named (database_text tree) db is) few (rising-rising_of (names ++ cond every (open_names db) [])))
