use Rattle.std.proofs.Common.{◌≡◌, ℕ, List, map, take}
use Rattle.std.specs.List.{list_any}
use Rattle.tl_entry.specs.Rising.{has_key}
use Rattle.tl_db.specs.declared.repo.Repo.{Repo}
use Rattle.tl_entry.specs.declared.object.Object.{Object}
use Rattle.tl_pin.proofs.views.known_names.Given as goal

abbrev pub invariant-loop-repo : goal.invariant-loop-repo
invariant-loop-repo l =
    (name : List ℕ) → has_key (λ n. n) name (map (λ n. n.now) l.names.items) ≡ list_any (λ (repo : Repo). has_key (λ (o : Object). o.name) name repo.db) (take l.repo-index l.repos)
