-- What `candidates` says and refuses.
use Rattle.std.specs.Prelude.{ℕ, List}
use Rattle.tl_entry.specs.declared.object.Object.{Object}
use Rattle.tl_db.specs.declared.repo.Repo.{Repo}
use Rattle.tl_pin.specs.declared.line.PinLine.{PinLine}
use Rattle.tl_report.specs.Offers.{candidates_text}
use Rattle.tl_command.specs.Runs.{Run}
use Rattle.tl_show.specs.Opening.{told_run}

-- the run of `candidates` over pins and repositories: those that have a package
abbrev pub candidates_run : List ℕ → List Object → List PinLine → List Repo → Run
candidates_run name entries pins repos = told_run name (candidates_text pins repos name)
