use Rattle.std.proofs.Common.{◌↔◌, List, ℕ, map}
use Rattle.std.specs.Prelude.{IsTrue}
use Rattle.tl_depend.specs.Reach.{IsReached}
use Rattle.tl_plan.specs.Removal.{is_among}
use Rattle.tl_plan.proofs.SetLaws.{ok_weaker}
use Rattle.tl_renew.specs.Sets.{HaveSame}
use Rattle.tl_renew.specs.Unasked.{reached_in_view}
use Rattle.tl_renew.proofs.RenewLaws.{reached_same}
use Rattle.tl_renew.proofs.unasked.reached.Goals as goal

pub returns : goal.returns
returns c =
    let platforms : List (List ℕ) = map (λ platform. platform.items) c.args.platforms.now in
    ok_weaker c.needs.result (λ set. (name : List ℕ) → IsTrue (is_among name set.keys) ↔ IsReached c.args.view.now platforms c.args.roots.now name)
    (λ set. HaveSame set.keys (reached_in_view c.args.pins.now c.args.repos.now c.args.db.now c.args.roots.now))
    (λ set is. reached_same c.args.pins.now c.args.repos.now c.args.db.now c.args.view.now platforms c.args.roots.now set.keys c.requires.view c.requires.platforms is)
    c.needs.ensures
