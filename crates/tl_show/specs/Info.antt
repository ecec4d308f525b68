-- What `info` says and refuses.
use Rattle.std.specs.Prelude.{ℕ, List, Option, Some, None}
use Rattle.tl_entry.specs.declared.object.Object.{Object}
use Rattle.tl_db.specs.declared.repo.Repo.{Repo}
use Rattle.tl_pin.specs.declared.line.PinLine.{PinLine}
use Rattle.tl_report.specs.Info.{listing_text, package_text}
use Rattle.tl_command.specs.Runs.{Run, saying}
use Rattle.tl_show.specs.Opening.{told_run}

-- the run of `info` over the entries of a tree, its pins and repositories: what is known of all packages, or of one
abbrev pub info_run : Option (List ℕ) → List Object → List PinLine → List Repo → Run
info_run None entries pins repos = saying (listing_text pins repos entries)
info_run (Some name) entries pins repos = told_run name (package_text pins repos entries name)
