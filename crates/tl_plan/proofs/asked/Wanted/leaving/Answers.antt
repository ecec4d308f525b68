use Rattle.std.proofs.Common.{◌≡◌, ℕ, List, [], map, ◌∙◌, ap}
use Rattle.std.specs.Str.{bytes_eq}
use Rattle.indexmap.specs.IndexSet.{insert_all}
use Rattle.tl_plan.specs.Removal.{parts_by, names_by, leaving_names}
use Rattle.tl_plan.specs.Wanted.{leaves_by, AreWanted}
use Rattle.tl_plan.proofs.SetLaws.{ok_weaker}
use Rattle.tl_plan.proofs.WantedLaws.{names_alike}
use Rattle.tl_plan.proofs.asked.Wanted.leaving.Goals as goal

pub returns : goal.returns
returns c =
    let db = c.args.db.now in
    let wanted = c.args.self.now in
    ok_weaker c.names_with.result (λ found. found.keys ≡ insert_all bytes_eq [] (names_by (leaves_by wanted) c.in_ok-parts.parts.keys db))
    (λ found. (names : List (List ℕ)) → AreWanted db names wanted → found.keys ≡ insert_all bytes_eq [] (leaving_names db names))
    (λ found is names are. is ∙ ap (insert_all bytes_eq []) (names_alike db names wanted are c.in_ok-parts.parts.keys
    (c.in_ok-parts.ensures ∙ ap (λ (platforms : List (List ℕ)). insert_all bytes_eq [] (parts_by (leaves_by wanted) platforms db)) c.requires)))
    c.names_with.ensures
