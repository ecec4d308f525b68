-- The steps of a plan: what each is called, and how they make the run of the plan.
use Rattle.std.proofs.Common.{◌≡◌, ◌<◌, ◌+◌, ◌==◌, ℕ, zero, suc, Bool, true, false, List, [], ◌∷◌, ◌++◌, Option, Some, None, Result, Ok, Err, length, get_or, take, drop, map, refl, sym, ap, subst, ◌∙◌, arith}
use Rattle.std.specs.Prelude.{codes, All, IfSome}
use Rattle.std.specs.List.{flat_map, AllByRecursion, IsDistinct}
use Rattle.std.proofs.lemmas.List.{drop_more, append_assoc, flat_map_more, map-append, take_more}
use Rattle.std.proofs.lemmas.List.Elements.{All-nil, All-cons, All-append}
use Rattle.tl_model.specs.Acks.{IsLabel}
use Rattle.tl_model.specs.Lines.{IsLine}
use Rattle.tl_model.specs.Seen.{Seen}
use Rattle.tl_model.specs.Volume.{Volume, same_name}
use Rattle.tl_entry.specs.declared.object.Object.{Object}
use Rattle.tl_tree.specs.Planted.{Planted}
use Rattle.tl_tree.specs.Changes.{entries_after, entries_by, has_entries}
use Rattle.tl_tree.specs.Conditions.{IsChange, has_later, spoken_paths}
use Rattle.tl_tree.specs.declared.change.Part.{Part}
use Rattle.tl_tree.proofs.Distinct.{once-cons, once-nil}
use Rattle.tl_object.proofs.PlainLemmas.{line_tested}
use Rattle.tl_refusal.proofs.Plain.{line_of_name}
use Rattle.tl_path.specs.Names.{is_name}
use Rattle.tl_path.specs.Reserved.{is_reserved}
use Rattle.tl_backup.specs.Form.{AreOfBackups}
use Rattle.tl_backup.proofs.Changing.{added_later, change-added, entries-append}
use Rattle.tl_plan.specs.Plans.{plan_steps}
use Rattle.tl_plan.specs.Removal.{removal_of, removal_order, removal_fault, steps_unless}
use Rattle.tl_plan.specs.declared.planned.Planned.{Planned}
use Rattle.tl_plan.specs.declared.planned.Planned.TheVariants.{Remove}
use Rattle.tl_plan.specs.declared.error.PlanError.{PlanError}
use Rattle.tl_plan.proofs.PlanLaws.{removes_alone}
use Rattle.tl_command.specs.declared.ending.Ending.{Ending}
use Rattle.tl_command.specs.Endings.{no_devices}
use Rattle.tl_command.specs.Performs.{Performs}
use Rattle.tl_command.specs.Runs.{Run}
use Rattle.tl_command.specs.Steps.{running}
use Rattle.tl_trigger.specs.Stale.{HasChanges}
use Rattle.tl_formats.specs.Ending.{before_of}
use Rattle.tl_formats.proofs.ChangeLaws.{changes_after, changes_join}
use Rattle.tl_tree.specs.Conditions.{spoken_names}
use Rattle.tl_backups.specs.Continuing.{Continues}
use Rattle.tl_packages.specs.Remove.{change_text, RemovesOne, left_in, part_of, parts_of, plan_step, numbered, left_in_all}

-- what a package that leaves is called
pub line_of_removal : (name : List ℕ) → is_name name ≡ true → IsLine (codes "remove " ++ name)
line_of_removal name is = All-append (λ b. (b == 10) ≡ false) (codes "remove ") name (line_tested (codes "remove ") refl) (line_of_name name is)

-- a step in which one package leaves is a change
pub change-remove : (db : List Object) (step : List Planned) (made : List Part) (label : List ℕ) → RemovesOne step → made ≡ parts_of step → IsLabel label → IsChange db made label
change-remove db step made label one is is_label = subst (λ (ps : List Part). IsChange db ps label) (sym (is ∙ ap parts_of one.1)) (record {
  names = once-cons one.0 [] refl once-nil;
  paths = once-nil;
  puts = (tt, tt);
  keeps = tt;
  beside = tt;
  label = is_label;
})

pub remove-whole : (step : List Planned) (made : List Part) → RemovesOne step → made ≡ parts_of step → has_later made ≡ false
remove-whole step made one is = ap has_later (is ∙ ap parts_of one.1)

-- and so is one with which backups are made and erased
pub change-adding : (db : List Object) (step : List Planned) (added made : List Part) (label : List ℕ) → RemovesOne step → AreOfBackups added → made ≡ parts_of step ++ added → IsLabel label → IsChange db made label
change-adding db step added made label one backups is is_label =
    subst (λ (ps : List Part). IsChange db ps label) (sym is)
    (change-added db (parts_of step) added label (change-remove db step (parts_of step) label one refl is_label)
    (subst (λ (ps : List Planned). AllByRecursion (λ path. is_reserved path ≡ false) (spoken_paths (parts_of ps))) (sym one.1) tt) backups)

pub adding-whole : (step : List Planned) (added made : List Part) → RemovesOne step → AreOfBackups added → made ≡ parts_of step ++ added → has_later made ≡ false
adding-whole step added made one backups is = ap has_later is ∙ added_later (parts_of step) added backups.each (remove-whole step (parts_of step) one refl)

-- the entries after one more part of a step
pub after_planned : (step : List Planned) (i : ℕ) (part : Planned) (db mid new : List Object) → i < length step → part ≡ get_or step i part → mid ≡ entries_after (parts_of (take i step)) db
    → new ≡ entries_by (part_of part) mid → new ≡ entries_after (parts_of (take (i + 1) step)) db
after_planned step i part db mid new lt is far near =
    let joined : parts_of (take i step) ++ part_of part ∷ [] ≡ parts_of (take (i + 1) step) =
    sym (map-append part_of (take i step) (part ∷ [])) ∙ ap (λ (p : Planned). parts_of (take i step ++ p ∷ [])) is ∙ ap parts_of (sym (take_more step i part lt)) in
    near ∙ ap (entries_by (part_of part)) far ∙ sym (entries-append (parts_of (take i step)) (part_of part ∷ []) db) ∙ ap (λ (ps : List Part). entries_after ps db) joined

-- a step in which a package leaves speaks of an entry
pub speaks-one : (step : List Planned) → RemovesOne step → has_entries (parts_of step) ≡ true
speaks-one step one = ap (λ (ps : List Planned). has_entries (parts_of ps)) one.1

-- no package leaves twice
pub left-once : (step : List Planned) (names : List (List ℕ)) → RemovesOne step → names ≡ left_in step → IsDistinct same_name names
left-once step names one is = subst (IsDistinct same_name) (sym (is ∙ ap left_in one.1)) (once-cons one.0 [] refl once-nil)

each_one : (names : List (List ℕ)) → All RemovesOne (map (λ (name : List ℕ). Remove name ∷ []) names)
each_one [] = All-nil RemovesOne
each_one (name ∷ names) = All-cons RemovesOne (Remove name ∷ []) (map (λ (name : List ℕ). Remove name ∷ []) names) (name, refl) (each_one names)

pub steps_of : (fault : Option PlanError) (some steps : List (List Planned)) → steps_unless fault some ≡ Ok steps → some ≡ steps
steps_of None some steps is = cc
steps_of (Some fault) some steps is = absurd (cc)

-- the steps of a removal
pub all_one : (db : List Object) (names : List (List ℕ)) (force : Bool) (steps : List (List Planned)) → removal_of db names force ≡ Ok steps → All RemovesOne steps
all_one db names force steps is =
    let order = removal_order db names in
    subst (λ (some : List (List Planned)). All RemovesOne some)
    (sym (removes_alone db order) ∙ steps_of (removal_fault db names force) (plan_steps db (map Remove order)) steps is) (each_one order)

-- a list has as many numbers as elements
pub length-numbered : {A : Type 0} (from : ℕ) (xs : List A) → length (numbered from xs) ≡ length xs
length-numbered from [] = refl
length-numbered from (x ∷ xs) = ap (λ n. suc n) (length-numbered (from + 1) xs)

at_numbered : {A : Type 0} (from : ℕ) (xs : List A) (i : ℕ) (d : A) (e : ℕ × A) → i < length xs → get_or (numbered from xs) i e ≡ (from + i, get_or xs i d)
at_numbered from [] i d e lt = absurd (omega arith)
at_numbered from (x ∷ xs) zero d e lt = ap (λ n. (n, x)) (omega arith)
at_numbered from (x ∷ xs) (suc i) d e lt = at_numbered (from + 1) xs i d e (omega arith) ∙ ap (λ n. (n, get_or xs i d)) (omega arith)

-- the steps of a plan from one on
left_at : (steps : List (List Planned)) (at : ℕ) (planned : List Planned) → at < length steps → planned ≡ get_or steps at planned
    → drop at (numbered 1 steps) ≡ (at + 1, planned) ∷ drop (at + 1) (numbered 1 steps)
left_at steps at planned lt is =
    drop_more (numbered 1 steps) at (0, planned) (omega (arith, lt, length-numbered 1 steps))
    ∙ ap (λ (item : ℕ × List Planned). item ∷ drop (at + 1) (numbered 1 steps))
    (at_numbered 1 steps at planned (0, planned) lt ∙ ap (λ n. (n, get_or steps at planned)) (omega arith) ∙ ap (λ (p : List Planned). (at + 1, p)) (sym is))

module _ {T : Type 0} (tells : Bool) (seen : T → Seen) (count : ℕ) (steps : List (List Planned)) (at : ℕ) (planned : List Planned) (lt : at < length steps) (is : planned ≡ get_or steps at planned)
    (old : Planted) (rest : List Object → Volume → Run) (ending : Ending) (state : Result Seen T) where
  -- a step that was made, and then the steps behind it
  pub step_made : (new : Planted) → Continues tells seen (plan_step count (at + 1, planned)) old new
      → Performs tells seen (λ t. running (plan_step count) (drop (at + 1) (numbered 1 steps)) rest new.db t) 0 new.seen no_devices no_devices ending state
      → Performs tells seen (λ t. running (plan_step count) (drop at (numbered 1 steps)) rest old.db t) 0 old.seen no_devices no_devices ending state
  step_made new made performs =
      let items = drop (at + 1) (numbered 1 steps) in
      subst (λ (all : List (ℕ × List Planned)). Performs tells seen (λ t. running (plan_step count) all rest old.db t) 0 old.seen no_devices no_devices ending state) (sym (left_at steps at planned lt is))
      (made.on (running (plan_step count) items rest) ending state performs)

  -- a step that wasn't made
  pub step_ended : ((more : List Object → Volume → Run) → Performs tells seen (λ t. plan_step count (at + 1, planned) more old.db t) 0 old.seen no_devices no_devices ending state)
      → Performs tells seen (λ t. running (plan_step count) (drop at (numbered 1 steps)) rest old.db t) 0 old.seen no_devices no_devices ending state
  step_ended acted =
      let items = drop (at + 1) (numbered 1 steps) in
      subst (λ (all : List (ℕ × List Planned)). Performs tells seen (λ t. running (plan_step count) all rest old.db t) 0 old.seen no_devices no_devices ending state) (sym (left_at steps at planned lt is))
      (acted (running (plan_step count) items rest))

-- what further parts of a plan are called, with one more
pub more_said : (start before mid after : List ℕ) (more : List Planned) (i : ℕ) (part : Planned) → i < length more → part ≡ get_or more i part
    → before ≡ start ++ flat_map (λ next. codes ", " ++ change_text next) (take i more) → mid ≡ before ++ codes ", " → after ≡ mid ++ change_text part
    → after ≡ start ++ flat_map (λ next. codes ", " ++ change_text next) (take (i + 1) more)
more_said start before mid after more i part lt at so_far comma is =
    let said : Planned → List ℕ = λ next. codes ", " ++ change_text next in
    is ∙ ap (λ (l : List ℕ). l ++ change_text part) comma ∙ append_assoc before (codes ", ") (change_text part)
    ∙ ap (λ (l : List ℕ). l ++ said part) so_far ∙ flat_map_more said start (take i more) part
    ∙ ap (λ (p : Planned). start ++ flat_map said (take i more ++ p ∷ [])) at ∙ ap (λ (ps : List Planned). start ++ flat_map said ps) (sym (take_more more i part lt))

pub more_line : (before mid after : List ℕ) (part : Planned) → IsLine before → IsLine (change_text part) → mid ≡ before ++ codes ", " → after ≡ mid ++ change_text part → IsLine after
more_line before mid after part far near comma is =
    subst IsLine (sym (is ∙ ap (λ (l : List ℕ). l ++ change_text part) comma))
    (All-append (λ b. (b == 10) ≡ false) (before ++ codes ", ") (change_text part) (All-append (λ b. (b == 10) ≡ false) before (codes ", ") far (line_tested (codes ", ") refl)) near)

-- a removal that has a fault
pub refused_by : (db : List Object) (names : List (List ℕ)) (force : Bool) (fault : PlanError) → removal_fault db names force ≡ Some fault → removal_of db names force ≡ Err fault
refused_by db names force fault is = ap (λ (o : Option PlanError). steps_unless o (plan_steps db (map Remove (removal_order db names)))) is

-- ---- the names at which the entries change

-- a step speaks of what leaves or is replaced in it
spoken-left : (step : List Planned) → spoken_names (parts_of step) ≡ left_in step
spoken-left [] = refl
spoken-left (Remove name ∷ step) = ap (λ (l : List (List ℕ)). name ∷ l) (spoken-left step)

-- one step more
pub changes_more : (steps : List (List Planned)) (at : ℕ) (planned : List Planned) (old mid new : List Object) → at < length steps → planned ≡ get_or steps at planned
    → HasChanges old mid (left_in_all (take at steps)) → new ≡ entries_after (parts_of planned) mid → HasChanges old new (left_in_all (take (at + 1) steps))
changes_more steps at planned old mid new lt is far near =
    let names : left_in_all (take at steps) ++ left_in planned ≡ left_in_all (take (at + 1) steps) =
    flat_map_more left_in [] (take at steps) planned ∙ ap (λ (p : List Planned). left_in_all (take at steps ++ p ∷ [])) is ∙ ap left_in_all (sym (take_more steps at planned lt)) in
    subst (HasChanges old new) names
    (changes_join old mid new (left_in_all (take at steps)) (left_in planned) far
    (subst (λ (db : List Object). HasChanges mid db (left_in planned)) (sym near) (subst (HasChanges mid (entries_after (parts_of planned) mid)) (spoken-left planned) (changes_after (parts_of planned) mid))))

-- what is asked of the names behind all steps
pub before_changes : (formats : Bool) (old new : List Object) (names : List (List ℕ)) (before : Option (List Object)) → before ≡ before_of formats old → HasChanges old new names
    → IfSome before (λ db. HasChanges db new names)
before_changes formats old new names before is changes = subst (λ (o : Option (List Object)). IfSome o (λ db. HasChanges db new names)) (sym is) (by formats)
  where
    by : (formats : Bool) → IfSome (before_of formats old) (λ db. HasChanges db new names)
    by false = tt
    by true = changes
