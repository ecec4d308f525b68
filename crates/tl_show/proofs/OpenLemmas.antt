-- Commands over repositories, from their beginning on.
use Rattle.std.proofs.Common.{◌&&◌, ℕ, Bool, List, [], Option, Some, None, Result, IsTrue, subst}
use Rattle.tl_model.specs.Seen.{Seen}
use Rattle.tl_model.specs.Volume.{Volume}
use Rattle.tl_entry.specs.declared.object.Object.{Object}
use Rattle.tl_db.specs.declared.repo.Repo.{Repo}
use Rattle.tl_pin.specs.declared.line.PinLine.{PinLine}
use Rattle.tl_action.specs.declared.command.Repository.{Repository}
use Rattle.tl_tree.specs.Planted.{Planted, database_text}
use Rattle.tl_command.specs.declared.ending.Ending.{Ending}
use Rattle.tl_command.specs.Endings.{no_devices}
use Rattle.tl_command.specs.Loaded.{Loads}
use Rattle.tl_command.specs.Performs.{Performs}
use Rattle.tl_command.specs.Runs.{Run, AreLabelled, over_database}
use Rattle.tl_command.proofs.Joins.{performs_loaded, advances_fewer}
use Rattle.tl_command.proofs.Limits.{labelled-over}
use Rattle.tl_offer.specs.Offered.{counted_faults, offering}
use Rattle.tl_offer.proofs.OfferLemmas.{performs_offered, performs_beside, labelled-offered, host_told}
use Rattle.tl_report.specs.Info.{package_text}
use Rattle.tl_report.specs.Offers.{candidates_text}
use Rattle.tl_show.specs.Opening.{Opens, over_offer, told_run}
use Rattle.tl_show.specs.Info.{info_run}
use Rattle.tl_show.specs.Search.{search_run}
use Rattle.tl_show.specs.Candidates.{candidates_run}

-- a tree that was loaded, by what fewer devices tell
loads_fewer : (fewer more : Bool) → (IsTrue fewer → IsTrue more) → (first : Seen) (loaded : Planted) → Loads more first loaded → Loads fewer first loaded
loads_fewer fewer more told first loaded loads = record {
  quiet = advances_fewer fewer more told (λ _. []) first loaded.seen loads.quiet;
  reads = λ t. loads.reads (told t);
}

module _ {T : Type 0} (shelf host : Bool) (seen : T → Seen) (repositories : List Repository) (volumes : List Volume) (before after : ℕ) (ending : Ending) (state : Result Seen T) (first : Seen) where
  -- what is left of a command that was opened
  pub performs_opened : (opened : Planted) (pins : List PinLine) (repos : List Repo) (go : List Object → List PinLine → List Repo → Run) → Opens shelf host repositories volumes first opened pins repos
      → Performs host seen (λ _. go opened.db pins repos) 0 opened.seen no_devices no_devices ending state
      → Performs (shelf && host) seen (over_offer repositories volumes go) 0 first (counted_faults before) (counted_faults after) ending state
  performs_opened opened pins repos go opens near =
      let tells = shelf && host in
      let beside = performs_beside host seen opened.seen ending state tells (host_told shelf host) (counted_faults before) (counted_faults after) (λ _. go opened.db pins repos) near in
      performs_loaded tells seen 0 first (counted_faults before) (counted_faults after) ending state opens.loaded (λ tree entries. offering repositories volumes (go entries) tree)
      (loads_fewer tells host (host_told shelf host) first opens.loaded opens.loads)
      (subst (λ (db : List Object). Performs tells seen (λ tree. offering repositories volumes (go db) tree) 0 opens.loaded.seen (counted_faults before) (counted_faults after) ending state) opens.offer.db
      (performs_offered shelf host seen repositories volumes before after ending state opens.loaded opened tells 0 pins repos (λ _. go opened.db) opens.offer beside))

  -- a command that ended while its tree was loaded
  pub performs_unopened : (go : Volume → List Object → List PinLine → List Repo → Run)
      → ((go : Volume → List Object → Run) → Performs host seen (λ tree. over_database (go tree) (database_text tree)) 0 first no_devices no_devices ending state)
      → Performs (shelf && host) seen (λ tree. over_offer repositories volumes (go tree) tree) 0 first (counted_faults before) (counted_faults after) ending state
  performs_unopened go near =
      performs_beside host seen first ending state (shelf && host) (host_told shelf host) (counted_faults before) (counted_faults after) (λ tree. over_offer repositories volumes (go tree) tree)
      (near (λ tree entries. offering repositories volumes (go tree entries) tree))

  -- one that ended at its pins or its repositories
  pub performs_unoffered : (loaded : Planted) (go : Volume → List Object → List PinLine → List Repo → Run) → Loads host first loaded
      → ((go : Volume → List PinLine → List Repo → Run) → Performs (shelf && host) seen (λ t. offering repositories volumes (go t) t) 0 loaded.seen (counted_faults before) (counted_faults after) ending state)
      → Performs (shelf && host) seen (λ tree. over_offer repositories volumes (go tree) tree) 0 first (counted_faults before) (counted_faults after) ending state
  performs_unoffered loaded go loads near =
      performs_loaded (shelf && host) seen 0 first (counted_faults before) (counted_faults after) ending state loaded (λ tree entries. offering repositories volumes (go tree entries) tree)
      (loads_fewer (shelf && host) host (host_told shelf host) first loaded loads) (near (λ t. go t loaded.db))

labelled-told : (name : List ℕ) (said : Option (List ℕ)) → AreLabelled (told_run name said).events
labelled-told name None = tt
labelled-told name (Some text) = tt

labelled-found : (name : Option (List ℕ)) (entries : List Object) (pins : List PinLine) (repos : List Repo) → AreLabelled (info_run name entries pins repos).events
labelled-found None entries pins repos = tt
labelled-found (Some name) entries pins repos = labelled-told name (package_text pins repos entries name)

module _ (repositories : List Repository) (volumes : List Volume) (tree : Volume) where
  labelled-opened : (go : List Object → List PinLine → List Repo → Run) → ((entries : List Object) (pins : List PinLine) (repos : List Repo) → AreLabelled (go entries pins repos).events)
      → AreLabelled (over_offer repositories volumes go tree).events
  labelled-opened go each =
      labelled-over (λ entries. offering repositories volumes (go entries) tree) (database_text tree) (λ entries. labelled-offered repositories volumes (go entries) (each entries) tree)

  -- `info` makes no step
  pub labelled-info : (name : Option (List ℕ)) → AreLabelled (over_offer repositories volumes (info_run name) tree).events
  labelled-info name = labelled-opened (info_run name) (labelled-found name)

  -- `search` makes none
  pub labelled-search : (word : List ℕ) → AreLabelled (over_offer repositories volumes (search_run word) tree).events
  labelled-search word = labelled-opened (search_run word) (λ entries pins repos. tt)

  -- `candidates` makes none
  pub labelled-candidates : (name : List ℕ) → AreLabelled (over_offer repositories volumes (candidates_run name) tree).events
  labelled-candidates name = labelled-opened (candidates_run name) (λ entries pins repos. labelled-told name (candidates_text pins repos name))
