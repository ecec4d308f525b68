-- The steps of a removal are labelled.
use Rattle.std.proofs.Common.{◌≡◌, ◌<◌, ◌≤◌, ◌+◌, ◌*◌, ◌^◌, ◌==◌, ℕ, Bool, true, false, cond, List, [], ◌∷◌, ◌++◌, length, map, filter, Result, Ok, Err, refl, sym, subst, ◌∙◌, arith}
use Rattle.std.specs.Prelude.{codes}
use mathlib.Core.List.{reverse_aux}
use Rattle.std.proofs.lemmas.List.{length-append, length-map, length-reverse}
use Rattle.std.proofs.lemmas.List.Elements.{All-nil, All-append}
use Rattle.tl_model.specs.Lines.{IsLine}
use Rattle.tl_model.specs.Volume.{Volume}
use Rattle.tl_entry.specs.FilePaths.{rising_of}
use Rattle.tl_entry.specs.Rising.{comes_before, insert_by, has_key}
use Rattle.tl_entry.specs.declared.object.Object.{Object}
use Rattle.tl_object.proofs.PlainLemmas.{line_tested}
use Rattle.tl_tree.specs.Planted.{database_text}
use Rattle.tl_tree.specs.Changes.{entries_after}
use Rattle.tl_plan.specs.Plans.{install_order, plan_steps}
use Rattle.tl_plan.specs.Removal.{removal_of, removal_order, removal_fault, leaving_names}
use Rattle.tl_plan.specs.declared.planned.Planned.{Planned}
use Rattle.tl_plan.specs.declared.planned.Planned.TheVariants.{Remove}
use Rattle.tl_plan.specs.declared.error.PlanError.{PlanError}
use Rattle.tl_plan.specs.declared.error.PlanError.TheVariants as plans
use Rattle.tl_plan.proofs.PlanLaws.{removes_alone}
use Rattle.tl_backup.specs.Autobackup.{autobackup}
use Rattle.tl_command.specs.Labels.{step_label}
use Rattle.tl_command.specs.Runs.{Run, AreLabelled, over_database}
use Rattle.tl_command.specs.Steps.{running}
use Rattle.tl_command.proofs.LabelLaws.{label-step}
use Rattle.tl_command.proofs.Limits.{labelled-leaving}
use Rattle.tl_packages.specs.Remove.{parts_of, plan_step, numbered, plan_made, plan_run, remove_run, changes_text, step_adding}
use Rattle.tl_formats.specs.Ending.{before_of, formats_end}
use Rattle.tl_formats.proofs.ChangeLaws.{labelled-formats}
use Rattle.tl_packages.proofs.Adding.{labelled-adding}
use Rattle.tl_backups.proofs.Named.{AreNamed, read_named}
use Rattle.tl_backups.proofs.ReadLabels.{labelled-read}
use Rattle.tl_packages.proofs.PlanLaws.{steps_of}

-- some texts, each one line
abbrev AreLines : List (List ℕ) → Type 0
AreLines [] = Unit {0}
AreLines (text ∷ texts) = IsLine text × AreLines texts

named_lines : (p : Object → Bool) (db : List Object) → AreNamed db → AreLines (map (λ (entry : Object). entry.name) (filter p db))
named_lines p [] are = tt
named_lines p (entry ∷ db) are = by (p entry) (named_lines p db are.1)
  where
    by : (b : Bool) → AreLines (map (λ (entry : Object). entry.name) (filter p db)) → AreLines (map (λ (entry : Object). entry.name) (cond b (entry ∷ filter p db) (filter p db)))
    by true rest = (are.0, rest)
    by false rest = rest

filtered_lines : (p : List ℕ → Bool) (texts : List (List ℕ)) → AreLines texts → AreLines (filter p texts)
filtered_lines p [] are = tt
filtered_lines p (text ∷ texts) are = by (p text) (filtered_lines p texts are.1)
  where
    by : (b : Bool) → AreLines (filter p texts) → AreLines (cond b (text ∷ filter p texts) (filter p texts))
    by true rest = (are.0, rest)
    by false rest = rest

appended_lines : (some others : List (List ℕ)) → AreLines some → AreLines others → AreLines (some ++ others)
appended_lines [] others are more = more
appended_lines (text ∷ some) others are more = (are.0, appended_lines some others are.1 more)

inserted_lines : (text : List ℕ) (texts : List (List ℕ)) → IsLine text → AreLines texts → AreLines (insert_by (λ t. t) text texts)
inserted_lines text [] is are = (is, tt)
inserted_lines text (first ∷ texts) is are = by (comes_before text first) (inserted_lines text texts is are.1)
  where
    by : (b : Bool) → AreLines (insert_by (λ t. t) text texts) → AreLines (cond b (text ∷ first ∷ texts) (first ∷ insert_by (λ t. t) text texts))
    by true rest = (is, are)
    by false rest = (are.0, rest)

rising_lines : (texts : List (List ℕ)) → AreLines texts → AreLines (rising_of texts)
rising_lines [] are = tt
rising_lines (text ∷ texts) are = by (has_key (λ t. t) text (rising_of texts)) (rising_lines texts are.1)
  where
    by : (b : Bool) → AreLines (rising_of texts) → AreLines (cond b (rising_of texts) (insert_by (λ t. t) text (rising_of texts)))
    by true rest = rest
    by false rest = inserted_lines text (rising_of texts) are.0 rest

reversed_onto : (some onto : List (List ℕ)) → AreLines some → AreLines onto → AreLines (reverse_aux some onto)
reversed_onto [] onto are more = more
reversed_onto (text ∷ some) onto are more = reversed_onto some (text ∷ onto) are.1 (are.0, more)

order_lines : (db : List Object) (asked : List (List ℕ)) → AreNamed db → AreLines (removal_order db asked)
order_lines db asked are =
    let names = rising_of (leaving_names db asked) in
    let rising : AreLines names = rising_lines (leaving_names db asked) (named_lines _ db are) in
    reversed_onto (install_order db names) []
    (appended_lines _ _ (filtered_lines _ names rising) (appended_lines _ _ (filtered_lines _ names rising) (filtered_lines _ names rising))) tt

-- how many they are

filter_shorter : {A : Type 0} (p : A → Bool) (xs : List A) → length (filter p xs) ≤ length xs
filter_shorter p [] = omega arith
filter_shorter p (x ∷ xs) = by (p x) (filter_shorter p xs)
  where
    by : (b : Bool) → length (filter p xs) ≤ length xs → length (cond b (x ∷ filter p xs) (filter p xs)) ≤ length (x ∷ xs)
    by true rest = omega (arith, rest)
    by false rest = omega (arith, rest)

insert_longer : (text : List ℕ) (texts : List (List ℕ)) → length (insert_by (λ t. t) text texts) ≤ length texts + 1
insert_longer text [] = omega arith
insert_longer text (first ∷ texts) = by (comes_before text first) (insert_longer text texts)
  where
    by : (b : Bool) → length (insert_by (λ t. t) text texts) ≤ length texts + 1 → length (cond b (text ∷ first ∷ texts) (first ∷ insert_by (λ t. t) text texts)) ≤ length (first ∷ texts) + 1
    by true rest = omega arith
    by false rest = omega (arith, rest)

rising_shorter : (texts : List (List ℕ)) → length (rising_of texts) ≤ length texts
rising_shorter [] = omega arith
rising_shorter (text ∷ texts) = by (has_key (λ t. t) text (rising_of texts)) (rising_shorter texts)
  where
    by : (b : Bool) → length (rising_of texts) ≤ length texts → length (cond b (rising_of texts) (insert_by (λ t. t) text (rising_of texts))) ≤ length (text ∷ texts)
    by true rest = omega (arith, rest)
    by false rest = omega (arith, rest, insert_longer text (rising_of texts))

joined_short : {A : Type 0} (p q r : A → Bool) (xs : List A) → length (filter p xs ++ (filter q xs ++ filter r xs)) ≤ 3 * length xs
joined_short p q r xs = omega (arith, length-append (filter p xs) (filter q xs ++ filter r xs), length-append (filter q xs) (filter r xs), filter_shorter p xs, filter_shorter q xs, filter_shorter r xs)

named_short : (p : Object → Bool) (db : List Object) → length (map (λ (entry : Object). entry.name) (filter p db)) ≤ length db
named_short p db = omega (arith, length-map (filter p db) (λ (entry : Object). entry.name), filter_shorter p db)

order_short : (db : List Object) (asked : List (List ℕ)) → length (removal_order db asked) ≤ 3 * length db
order_short db asked =
    let leaving = leaving_names db asked in
    let names = rising_of leaving in
    let joined : length (install_order db names) ≤ 3 * length names = joined_short _ _ _ names in
    let few : length leaving ≤ length db = named_short _ db in
    omega (arith, length-reverse (install_order db names), joined, rising_shorter leaving, few)

-- a step in which one package leaves
called : (name : List ℕ) → IsLine name → IsLine (changes_text (Remove name ∷ []))
called name is =
    All-append (λ b. (b == 10) ≡ false) (codes "remove " ++ name) []
    (All-append (λ b. (b == 10) ≡ false) (codes "remove ") name (line_tested (codes "remove ") refl) is) (All-nil (λ b. (b == 10) ≡ false))

labelled-steps : (rest : List Object → Volume → Run) (count : ℕ) (names : List (List ℕ)) (from : ℕ) → AreLines names → count < 2 ^ 64 → from + length names < 2 ^ 64 → (db : List Object) (tree : Volume)
    → (ended : (db : List Object) (tree : Volume) → AreLabelled (rest db tree).events)
    → AreLabelled (running (plan_step count) (numbered from (map (λ (name : List ℕ). Remove name ∷ []) names)) rest db tree).events
labelled-steps rest count [] from are small below db tree ended = ended db tree
labelled-steps rest count (name ∷ names) from are small below db tree ended =
    let parts = parts_of (Remove name ∷ []) in
    let label = step_label from count (changes_text (Remove name ∷ [])) in
    let more = running (plan_step count) (numbered (from + 1) (map (λ (name : List ℕ). Remove name ∷ []) names)) rest in
    labelled-leaving (entries_after parts db) (step_adding (autobackup (name ∷ []) db tree) parts label more db tree)
    (labelled-adding (autobackup (name ∷ []) db tree) parts label more db tree
    (label-step from count (changes_text (Remove name ∷ [])) (omega (arith, below)) small (called name are.0))
    (λ next. labelled-steps rest count names (from + 1) are.1 small (omega (arith, below)) (entries_after parts db) next ended))

labelled-plan : (db : List Object) (names : List (List ℕ)) (force formats : Bool) (tree : Volume) → AreNamed db → length db ≤ 65536 → AreLabelled (remove_run names force formats tree db).events
labelled-plan db names force formats tree are few = by (removal_of db names force) refl
  where
    order : List (List ℕ)
    order = removal_order db names

    made : (steps : List (List Planned)) → map (λ (name : List ℕ). Remove name ∷ []) order ≡ steps → AreLabelled (plan_made formats steps db tree).events
    made steps is = subst (λ (some : List (List Planned)). AreLabelled (plan_made formats some db tree).events) is
        (let short = order_short db names in
        let long = length-map order (λ (name : List ℕ). Remove name ∷ []) in
        labelled-steps (formats_end (before_of formats db)) (length (map (λ (name : List ℕ). Remove name ∷ []) order)) order 1 (order_lines db names are) (omega (arith, short, few, long)) (omega (arith, short, few)) db tree (labelled-formats (before_of formats db)))

    by : (found : Result (List (List Planned)) PlanError) → removal_of db names force ≡ found → AreLabelled (plan_run formats found db tree).events
    by (Ok steps) is = made steps (sym (removes_alone db order) ∙ steps_of (removal_fault db names force) (plan_steps db (map Remove order)) steps is)
    by (Err (plans.Protected name)) is = tt
    by (Err (plans.NotInstalled name)) is = tt
    by (Err (plans.Needed name other)) is = tt
    by (Err plans.NoMemory) is = tt

-- the steps of a removal are labelled
pub labelled-remove : (names : List (List ℕ)) (force formats : Bool) (tree : Volume) → AreLabelled (over_database (remove_run names force formats tree) (database_text tree)).events
labelled-remove names force formats tree = labelled-read (remove_run names force formats tree) (database_text tree) (λ db is few. labelled-plan db names force formats tree (read_named (database_text tree) db is) few)
