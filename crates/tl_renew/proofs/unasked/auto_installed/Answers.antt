use Rattle.std.proofs.Common.{◌≡◌, List, ℕ, [], map, subst}
use Rattle.std.specs.Prelude.{filter}
use Rattle.std.specs.Str.{bytes_eq}
use Rattle.indexmap.specs.IndexSet.{insert_all}
use Rattle.tl_plan.proofs.SetLaws.{ok_weaker}
use Rattle.tl_renew.specs.Sets.{HaveSame}
use Rattle.tl_renew.specs.Unasked.{may_come_unasked, reached_in_view, auto_installed}
use Rattle.tl_renew.proofs.RenewLaws.{collected_same, newly_same, unasked_is}
use Rattle.tl_renew.proofs.unasked.auto_installed.Goals as goal

pub returns : goal.returns
returns c =
    let pins = c.args.pins.now in
    let repos = c.args.repos.now in
    let db = c.args.db.now in
    let again = c.args.again in
    let platforms : List (List ℕ) = map (λ platform. platform.items) c.args.platforms.now in
    let named = c.in_ok-named.named.keys in
    let newly = c.in_ok-newly.newly.keys in
    let roots = c.in_ok-roots.roots.keys in
    let all = c.in_ok-all.all.keys in
    ok_weaker c.unasked_among-2.result (λ set. set.keys ≡ insert_all bytes_eq [] (filter (may_come_unasked pins repos db named again) all)) (λ set. HaveSame set.keys (auto_installed pins repos db again))
    (λ set is. unasked_is pins repos db again named newly roots all set.keys
    (collected_same pins repos db platforms named c.requires.platforms c.in_ok-named.ensures)
    (newly_same pins repos db platforms newly c.requires.platforms c.in_ok-newly.ensures)
    c.in_ok-roots.ensures
    (subst (λ (names : List (List ℕ)). HaveSame all (reached_in_view pins repos db names)) c.as_slice.ensures.keys c.in_ok-all.ensures)
    is)
    c.unasked_among-2.ensures
