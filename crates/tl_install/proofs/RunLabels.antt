-- The steps of a plan by which packages come are labelled.
use Rattle.std.proofs.Common.{◌≡◌, ◌+◌, ℕ, zero, suc, Bool, true, false, cond, nat_lt, List, [], ◌∷◌, ◌++◌, length, Option, Some, None, Result, Ok, Err, refl, ap, subst}
use Rattle.std.specs.Prelude.{is_some, option_map}
use Rattle.std.specs.List.{cons_option, onto_first, AllByRecursion, flat_map}
use Rattle.tl_model.specs.Lines.{IsLine}
use Rattle.tl_model.specs.Volume.{Name, Volume, at, same_name, same_name-is}
use Rattle.tl_kind.specs.Quantities.{limit_of}
use Rattle.tl_kind.specs.declared.quantity.What.TheVariants.{Database, Packages}
use Rattle.tl_entry.specs.declared.object.Object.{Object}
use Rattle.tl_db.specs.Entries.{entry_of}
use Rattle.tl_db.specs.Reading.{Fault, db_of}
use Rattle.tl_db.specs.declared.repo.Repo.{Repo}
use Rattle.tl_pin.specs.Candidates.{candidate_of}
use Rattle.tl_pin.specs.declared.line.PinLine.{PinLine}
use Rattle.tl_repo.specs.Faults.{RepoFault, TooLarge, behind}
use Rattle.tl_repo.specs.Files.{bytes_within, database_name, digest_name, digest_stated, volume_of}
use Rattle.tl_repo.specs.Loading.{entries_under, entries_within, repo_of}
use Rattle.tl_action.specs.declared.command.Repository.{Repository}
use Rattle.tl_tree.specs.Changes.{changed, entries_after, has_entries}
use Rattle.tl_tree.specs.Filled.{filled}
use Rattle.tl_tree.specs.Planted.{database_text}
use Rattle.tl_tree.specs.declared.change.Part.{Part}
use Rattle.tl_plan.specs.Plans.{is_any_touching}
use Rattle.tl_backup.specs.declared.error.BackupError.{BackupError}
use Rattle.tl_backups.proofs.Named.{AreNamed, read_named}
use Rattle.tl_backups.proofs.ReadLabels.{labelled-read}
use Rattle.tl_backups.specs.Faults.{refusal_of, refused_by}
use Rattle.tl_bring.specs.Coming.{install_names}
use Rattle.tl_bring.specs.Installation.{arrival_from, arrivals, install_of, install_plan}
use Rattle.tl_bring.specs.declared.coming.InstallAsk.{InstallAsk}
use Rattle.tl_bring.proofs.ArrivalLaws.{candidate_at}
use Rattle.tl_coming.specs.Asked.{unless_fault}
use Rattle.tl_coming.specs.Cuts.{cuts_behind, plan_cuts}
use Rattle.tl_coming.specs.Made.{made_parts}
use Rattle.tl_coming.specs.Parts.{entry_at, files_with, part_name, paths_with}
use Rattle.tl_coming.specs.declared.error.ComingError.{ComingError}
use Rattle.tl_coming.specs.declared.error.ComingError.TheVariants as plans
use Rattle.tl_coming.specs.declared.part.PlanPart.{PlanPart}
use Rattle.tl_coming.specs.declared.part.PlanPart.TheVariants.{Install, Update}
use Rattle.tl_refusal.specs.declared.refusal.Refusal.{Refusal}
use Rattle.tl_command.specs.Labels.{step_label}
use Rattle.tl_command.specs.Runs.{Run, AreLabelled, changing_entries, leaving_entries, over_database}
use Rattle.tl_command.proofs.Limits.{labelled-leaving}
use Rattle.tl_fetch.specs.declared.fetch_error.FetchError.{FetchError}
use Rattle.tl_fetch.specs.declared.fetch_error.FetchError.TheVariants as errors
use Rattle.tl_fill.specs.Filling.{over_container, over_containers, refused_container}
use Rattle.tl_fill.specs.Wanted.{Wanted, files_wanted}
use Rattle.tl_formats.specs.Ending.{before_of, formats_end}
use Rattle.tl_formats.proofs.ChangeLaws.{labelled-formats}
use Rattle.tl_offer.specs.Offered.{joined_repos, offering, repos_from, repos_of}
use Rattle.tl_offer.specs.Pinned.{over_read}
use Rattle.tl_offer.proofs.PinLemmas.{labelled-pinned}
use Rattle.tl_install.specs.Fetched.{wanted_in}
use Rattle.tl_install.specs.Install.{install_run, planned_run}
use Rattle.tl_install.specs.Labels.{coming_texts}
use Rattle.tl_install.specs.Left.{backups_in, left_in}
use Rattle.tl_install.specs.Steps.{step_with, steps_run}
use Rattle.tl_install.proofs.LabelLemmas.{label-any, line_of_step}

-- ---- the names in repositories

-- the name of each entry of some repositories is one line
abbrev pub HaveNames : List Repo → Type 0
HaveNames repos = AllByRecursion (λ (repo : Repo). AreNamed repo.db) repos

-- the packages of which the parts of a plan speak have names that are one line
abbrev pub AreSpoken : List PlanPart → Type 0
AreSpoken plan = AllByRecursion (λ part. IsLine (part_name part)) plan

found_line : (name : List ℕ) (db : List Object) (entry : Object) → AreNamed db → entry_of name db ≡ Some entry → IsLine name
found_line name [] entry are is = absurd (cc)
found_line name (o ∷ db) entry are is = by (same_name o.name name) refl is (found_line name db entry are.1)
  where
    by : (b : Bool) → same_name o.name name ≡ b → cond b (Some o) (entry_of name db) ≡ Some entry → (entry_of name db ≡ Some entry → IsLine name) → IsLine name
    by true same is rest = subst IsLine (same_name-is o.name name same) are.0
    by false same is rest = rest is

place_line : (name : List ℕ) (repos : List Repo) (place : ℕ) (entry : Object) → HaveNames repos → entry_at repos place name ≡ Some entry → IsLine name
place_line name [] place entry have is = absurd (cc)
place_line name (repo ∷ repos) zero entry have is = found_line name repo.db entry have.0 is
place_line name (repo ∷ repos) (suc place) entry have is = place_line name repos place entry have.1 is

arrival_line : (replaced : List Object) (name : List ℕ) (place : ℕ) → IsLine name → IsLine (part_name (arrival_from replaced name place))
arrival_line replaced name place is = by (is_some (entry_of name replaced))
  where
    by : (b : Bool) → IsLine (part_name (cond b (Update name place) (Install name place)))
    by true = is
    by false = is

-- the packages that come have names of the repositories
pub spoken_arrivals : (pins : List PinLine) (repos : List Repo) (replaced : List Object) (names : List Name) → HaveNames repos → AreSpoken (arrivals pins repos replaced names)
spoken_arrivals pins repos replaced [] have = tt
spoken_arrivals pins repos replaced (name ∷ names) have = by (candidate_of pins repos name) refl (spoken_arrivals pins repos replaced names have)
  where
    by : (o : Option (ℕ × Object)) → candidate_of pins repos name ≡ o → AreSpoken (arrivals pins repos replaced names)
        → AreSpoken (cons_option (option_map (λ (c : ℕ × Object). arrival_from replaced name c.0) o) (arrivals pins repos replaced names))
    by None found rest = rest
    by (Some c) found rest = (arrival_line replaced name c.0 (place_line name repos c.0 c.1 have (candidate_at repos name pins c found)), rest)

first_spoken : (part : PlanPart) (steps : List (List PlanPart)) → IsLine (part_name part) → AllByRecursion AreSpoken steps → AllByRecursion AreSpoken (onto_first part steps)
first_spoken part [] is are = ((is, tt), tt)
first_spoken part (step ∷ steps) is are = ((is, are.0), are.1)

-- the steps of a plan speak of its packages
pub spoken_cuts : (repos : List Repo) (db : List Object) (coming : List (List ℕ)) (plan : List PlanPart) → AreSpoken plan → AllByRecursion AreSpoken (cuts_behind repos db coming plan)
spoken_cuts repos db coming [] are = tt
spoken_cuts repos db coming (part ∷ plan) are =
    by (is_any_touching (coming ++ paths_with repos part) (flat_map (files_with db) plan)) (spoken_cuts repos db (coming ++ paths_with repos part) plan are.1)
  where
    by : (b : Bool) → AllByRecursion AreSpoken (cuts_behind repos db (coming ++ paths_with repos part) plan)
        → AllByRecursion AreSpoken (cond b (onto_first part (cuts_behind repos db (coming ++ paths_with repos part) plan)) ((part ∷ []) ∷ cuts_behind repos db (coming ++ paths_with repos part) plan))
    by true rest = first_spoken part (cuts_behind repos db (coming ++ paths_with repos part) plan) are.0 rest
    by false rest = ((are.0, tt), rest)

-- a plan that isn't refused has its steps
steps_of : (fault : Option ComingError) (made steps : List (List PlanPart)) → unless_fault fault made ≡ Ok steps → made ≡ steps
steps_of None made steps is = cc
steps_of (Some fault) made steps is = absurd (cc)

-- ---- the names that repositories are read with

entries_named : (read : Result (List Object) Fault) (text : List ℕ) (db : List Object) → db_of text ≡ read → entries_within read ≡ Ok db → AreNamed db
entries_named (Err fault) text db from is = absurd (cc)
entries_named (Ok entries) text db from is = by (nat_lt (limit_of Packages) (length entries)) is
  where
    by : (b : Bool) → cond b (Err (TooLarge Packages (limit_of Packages))) (Ok entries) ≡ Ok db → AreNamed db
    by true is = absurd (cc)
    by false is = let same : entries ≡ db = cc in subst AreNamed same (read_named text entries from)

chosen : {X : Type 0} (is : Bool) (fault : RepoFault) (read : Result X RepoFault) (x : X) → cond is read (Err fault) ≡ Ok x → read ≡ Ok x
chosen true fault read x is = is
chosen false fault read x is = absurd (cc)

under_named : (want text : List ℕ) (db : List Object) → entries_under want text ≡ Ok db → AreNamed db
under_named want text db is = entries_named (db_of text) text db refl (chosen _ _ (entries_within (db_of text)) db is)

abbrev made_repo : ℕ → List ℕ → List Object → Result Repo RepoFault
made_repo number tag entries = Ok (record { number = number; tag = tag; db = entries })

repo_named : (number : ℕ) (tag : List ℕ) (volume : Volume) (repo : Repo) → repo_of number tag volume ≡ Ok repo → AreNamed repo.db
repo_named number tag volume repo is = texts (bytes_within Database database_name (at volume database_name)) is
  where
    entries : (want text : List ℕ) (read : Result (List Object) RepoFault) → entries_under want text ≡ read → behind read (made_repo number tag) ≡ Ok repo → AreNamed repo.db
    entries want text (Ok db) from is = let same : record { number = number; tag = tag; db = db } ≡ repo = cc in subst AreNamed (ap (λ (r : Repo). r.db) same) (under_named want text db from)
    entries want text (Err fault) from is = absurd (cc)

    digests : (text : List ℕ) (stated : Result (List ℕ) RepoFault) → behind stated (λ want. behind (entries_under want text) (made_repo number tag)) ≡ Ok repo → AreNamed repo.db
    digests text (Ok want) is = entries want text (entries_under want text) refl is
    digests text (Err fault) is = absurd (cc)

    texts : (read : Result (List ℕ) RepoFault) → behind read (λ text. behind (digest_stated (at volume digest_name)) (λ want. behind (entries_under want text) (made_repo number tag))) ≡ Ok repo → AreNamed repo.db
    texts (Ok text) is = digests text (digest_stated (at volume digest_name)) is
    texts (Err fault) is = absurd (cc)

-- repositories that were read have entries whose names are one line
pub read_names : (number : ℕ) (repositories : List Repository) (volumes : List Volume) (repos : List Repo) → repos_from number repositories volumes ≡ Ok repos → HaveNames repos
read_names number [] volumes repos is = let none : [] ≡ repos = cc in subst HaveNames none tt
read_names number (repository ∷ others) volumes repos is =
    by (repo_of number repository.tag (volume_of volumes number)) (repos_from (number + 1) others volumes) (repo_named number repository.tag (volume_of volumes number)) (read_names (number + 1) others volumes) is
  where
    by : (first : Result Repo RepoFault) (rest : Result (List Repo) Refusal) → ((repo : Repo) → first ≡ Ok repo → AreNamed repo.db) → ((more : List Repo) → rest ≡ Ok more → HaveNames more)
        → joined_repos repository.tag first rest ≡ Ok repos → HaveNames repos
    by (Err fault) rest one many is = absurd (cc)
    by (Ok repo) (Err refusal) one many is = absurd (cc)
    by (Ok repo) (Ok more) one many is = let joined : repo ∷ more ≡ repos = cc in subst HaveNames joined (one repo refl, many more refl)

-- ---- what is said beside the steps

labelled-refused : (refusal : Option Refusal) → AreLabelled (refused_by refusal).events
labelled-refused None = tt
labelled-refused (Some refusal) = tt

labelled-container : (wanted : Wanted) (error : FetchError) → AreLabelled (refused_container wanted error).events
labelled-container wanted (errors.ContainerFormat format) = tt
labelled-container wanted (errors.Relocated name) = tt
labelled-container wanted (errors.NoContainer name) = tt
labelled-container wanted (errors.TooLarge what limit) = tt
labelled-container wanted (errors.Absent name) = tt
labelled-container wanted (errors.SizeDiffers name want got) = tt
labelled-container wanted (errors.DigestDiffers name want got) = tt
labelled-container wanted (errors.BadFrame at) = tt
labelled-container wanted (errors.FrameEntry name) = tt
labelled-container wanted errors.ShelfFault = tt
labelled-container wanted errors.SinkFault = tt
labelled-container wanted errors.NoMemory = tt

labelled-containers : (volumes : List Volume) (all : List Wanted) (go : List (Name × List ℕ) → Run) (before : List (Name × List ℕ)) → ((files : List (Name × List ℕ)) → AreLabelled (go files).events)
    → AreLabelled (over_containers volumes all go before).events
labelled-containers volumes [] go before each = each before
labelled-containers volumes (wanted ∷ more) go before each = by (files_wanted volumes wanted) (λ own. labelled-containers volumes more go (before ++ own) each)
  where
    by : (found : Result (List (Name × List ℕ)) FetchError) → ((own : List (Name × List ℕ)) → AreLabelled (over_containers volumes more go (before ++ own)).events)
        → AreLabelled (over_container wanted (λ own. over_containers volumes more go (before ++ own)) found).events
    by (Ok own) rest = rest own
    by (Err error) rest = labelled-container wanted error

labelled-changing : (db : List Object) (parts : List Part) (run : Run) → AreLabelled run.events → AreLabelled (changing_entries db parts run).events
labelled-changing db parts run are = by (has_entries parts)
  where
    by : (b : Bool) → let made = cond b (leaving_entries (entries_after parts db) run) run in AreLabelled made.events
    by true = labelled-leaving (entries_after parts db) run are
    by false = are

-- ---- the steps

module _ (volumes : List Volume) (repos : List Repo) where
  labelled-with : (wanted : List Wanted) (made : Result (List Part) BackupError) (parts : List Part) (number count : ℕ) (step : List PlanPart) (rest : List Object → Volume → Run) (db : List Object) (tree : Volume)
      → AreSpoken step → ((next : Volume) → AreLabelled (rest (entries_after parts db) next).events)
      → AreLabelled (step_with volumes wanted made parts (step_label number count (coming_texts repos step)) rest db tree).events
  labelled-with wanted (Err fault) parts number count step rest db tree are behind = labelled-refused (refusal_of fault)
  labelled-with wanted (Ok added) parts number count step rest db tree are behind =
      labelled-containers volumes wanted _ []
      (λ files. (label-any number count (coming_texts repos step) (line_of_step repos step are), behind (changed db (filled files (parts ++ added)) tree)))

  labelled-steps : (number count : ℕ) (steps : List (List PlanPart)) (rest : List Object → Volume → Run) → AllByRecursion AreSpoken steps → ((db : List Object) (tree : Volume) → AreLabelled (rest db tree).events)
      → (db : List Object) (tree : Volume) → AreLabelled (steps_run volumes repos number count steps rest db tree).events
  labelled-steps number count [] rest are ended db tree = ended db tree
  labelled-steps number count (step ∷ steps) rest are ended db tree =
      let parts = made_parts repos step in
      let more = steps_run volumes repos (number + 1) count steps rest in
      labelled-changing db parts (step_with volumes (wanted_in repos step) (backups_in (left_in repos step) db tree) parts (step_label number count (coming_texts repos step)) more db tree)
      (labelled-with (wanted_in repos step) (backups_in (left_in repos step) db tree) parts number count step more db tree are.0
      (λ next. labelled-steps (number + 1) count steps rest are.1 ended (entries_after parts db) next))

  -- the steps of a plan are labelled where its packages have names that are one line
  pub labelled-planned : (formats : Bool) (found : Result (List (List PlanPart)) ComingError) (db : List Object) (tree : Volume) → ((steps : List (List PlanPart)) → found ≡ Ok steps → AllByRecursion AreSpoken steps)
      → AreLabelled (planned_run volumes repos formats found db tree).events
  labelled-planned formats (Ok steps) db tree each = labelled-steps 1 (length steps) steps (formats_end (before_of formats db)) (each steps refl) (labelled-formats (before_of formats db)) db tree
  labelled-planned formats (Err (plans.Protected name)) db tree each = tt
  labelled-planned formats (Err (plans.NotInstalled name)) db tree each = tt
  labelled-planned formats (Err (plans.UnknownPackage name)) db tree each = tt
  labelled-planned formats (Err (plans.BadExecute name at kind)) db tree each = tt
  labelled-planned formats (Err (plans.Reserved path)) db tree each = tt
  labelled-planned formats (Err (plans.Clash path first second)) db tree each = tt
  labelled-planned formats (Err (plans.Owned path owner)) db tree each = tt
  labelled-planned formats (Err (plans.TooLarge what limit)) db tree each = tt
  labelled-planned formats (Err (plans.Occupied path)) db tree each = tt
  labelled-planned formats (Err plans.HostFault) db tree each = tt
  labelled-planned formats (Err plans.NoMemory) db tree each = tt

-- the steps of a run over the pins and over repositories are labelled where those over repositories that were read are
pub labelled-offered : (repositories : List Repository) (volumes : List Volume) (go : List PinLine → List Repo → Run) → ((pins : List PinLine) (repos : List Repo) → HaveNames repos → AreLabelled (go pins repos).events)
    → (tree : Volume) → AreLabelled (offering repositories volumes go tree).events
labelled-offered repositories volumes go each tree = labelled-pinned (λ pins. over_read (go pins) (repos_of repositories volumes)) (λ pins. by pins (repos_of repositories volumes) refl) tree
  where
    by : (pins : List PinLine) (found : Result (List Repo) Refusal) → repos_of repositories volumes ≡ found → AreLabelled (over_read (go pins) found).events
    by pins (Ok repos) is = each pins repos (read_names 0 repositories volumes repos is)
    by pins (Err refusal) is = tt

-- the steps of an installation are labelled
pub labelled-install : (names : List (List ℕ)) (ask : InstallAsk) (formats : Bool) (repositories : List Repository) (volumes : List Volume) (tree : Volume)
    → AreLabelled (over_database (install_run names ask formats repositories volumes tree) (database_text tree)).events
labelled-install names ask formats repositories volumes tree = labelled-read (install_run names ask formats repositories volumes tree) (database_text tree) (λ db read few. labelled-offered repositories volumes
    (λ pins repos. planned_run volumes repos formats (install_of pins repos db tree names ask) db tree) (λ pins repos have. over pins repos db have) tree)
  where
    over : (pins : List PinLine) (repos : List Repo) (db : List Object) → HaveNames repos → AreLabelled (planned_run volumes repos formats (install_of pins repos db tree names ask) db tree).events
    over pins repos db have = labelled-planned volumes repos formats (install_of pins repos db tree names ask) db tree
        (λ steps is. subst (AllByRecursion AreSpoken) (steps_of _ (plan_cuts repos db (install_plan pins repos db names ask)) steps is)
        (spoken_cuts repos db [] (install_plan pins repos db names ask) (spoken_arrivals pins repos [] (install_names pins repos db names ask) have)))
