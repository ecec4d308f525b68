-- What `search` says.
use Rattle.std.specs.Prelude.{ℕ, List}
use Rattle.tl_entry.specs.declared.object.Object.{Object}
use Rattle.tl_db.specs.declared.repo.Repo.{Repo}
use Rattle.tl_pin.specs.declared.line.PinLine.{PinLine}
use Rattle.tl_report.specs.Search.{search_text}
use Rattle.tl_command.specs.Runs.{Run, saying}

-- the run of `search` over the entries of a tree, its pins and repositories: the packages that a word stands in
abbrev pub search_run : List ℕ → List Object → List PinLine → List Repo → Run
search_run word entries pins repos = saying (search_text pins repos entries word)
