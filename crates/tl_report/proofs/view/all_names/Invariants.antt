use Rattle.std.proofs.Common.{◌≡◌, map, take}
use Rattle.std.specs.List.{flat_map}
use Rattle.tl_db.specs.declared.repo.Repo.{Repo}
use Rattle.tl_report.specs.View.{entry_names}
use Rattle.tl_report.proofs.view.all_names.Given as goal

abbrev pub invariant-loop-repo : goal.invariant-loop-repo
invariant-loop-repo l = map (λ n. n.now) l.names.items ≡ flat_map (λ (repo : Repo). entry_names repo.db) (take l.repo-index l.repos)
