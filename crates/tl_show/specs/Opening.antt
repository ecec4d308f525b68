-- How a command over repositories begins.
use Rattle.std.specs.Prelude.{ℕ, Bool, ◌&&◌, List, Option, Some, None}
use Rattle.tl_model.specs.Seen.{Seen}
use Rattle.tl_model.specs.Volume.{Volume}
use Rattle.tl_entry.specs.declared.object.Object.{Object}
use Rattle.tl_db.specs.declared.repo.Repo.{Repo}
use Rattle.tl_pin.specs.declared.line.PinLine.{PinLine}
use Rattle.tl_action.specs.declared.command.Repository.{Repository}
use Rattle.tl_tree.specs.Planted.{Planted, database_text}
use Rattle.tl_refusal.specs.declared.refusal.Refusal.TheVariants.{UnknownPackage}
use Rattle.tl_command.specs.Loaded.{Loads}
use Rattle.tl_command.specs.Runs.{Run, saying, refused, over_database}
use Rattle.tl_offer.specs.Offered.{LoadsOffer, offering}

-- a run over the entries of a tree, its pins and repositories that hold this
abbrev pub over_offer : List Repository → List Volume → (List Object → List PinLine → List Repo → Run) → Volume → Run
over_offer repositories volumes go tree = over_database (λ entries. offering repositories volumes (go entries) tree) (database_text tree)

-- a tree was loaded, and then its pins and some repositories: nothing else was done
pub record Opens (shelf host : Bool) (repositories : List Repository) (volumes : List Volume) (first : Seen) (opened : Planted)
    (pins : List PinLine) (repos : List Repo) : Type 0 where
  pub loaded : Planted
  pub loads : Loads host first loaded
  pub offer : LoadsOffer (shelf && host) repositories volumes loaded opened pins repos

-- the run that says what there is to say of a package, or that it is unknown
abbrev pub told_run : List ℕ → Option (List ℕ) → Run
told_run name None = refused (UnknownPackage name)
told_run name (Some text) = saying text
