use Rattle.std.proofs.Common.{◌≡◌, ℕ, List, [], refl, ◌∙◌, ap}
use Rattle.std.specs.List.{list_any}
use Rattle.tl_depend.specs.Needed.{needs_name}
use Rattle.tl_plan.specs.Removal.{is_among, gathers}
use Rattle.tl_plan.proofs.SetLaws.{among_all}
use Rattle.tl_plan.proofs.WantedLaws.{are_wanted}
use Rattle.tl_plan.proofs.asked.Wanted.of.Goals as goal

pub returns : goal.returns
returns c =
    let db = c.args.db.now in
    let names = c.args.names.now in
    let asked = c.in_ok-asked.asked.keys in
    are_wanted db names asked (λ name. ap (is_among name) c.in_ok-asked.ensures ∙ among_all name [] names) (record {
      asked = c.in_ok-asked.asked;
      gathered = c.in_ok-gathered.gathered;
      needed = c.in_ok-needed.needed;
    }) refl (λ name. c.in_ok-gathered.ensures name ∙ ap (λ (platforms : List (List ℕ)). list_any (gathers platforms asked name) db) c.requires)
    (λ name. c.in_ok-needed.ensures name ∙ ap (λ (platforms : List (List ℕ)). list_any (needs_name platforms name asked) db) c.requires)
