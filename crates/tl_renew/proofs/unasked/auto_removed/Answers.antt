use Rattle.std.proofs.Common.{◌≡◌, List, ℕ, [], map, subst}
use Rattle.std.specs.Prelude.{filter}
use Rattle.std.specs.Str.{bytes_eq}
use Rattle.indexmap.specs.IndexSet.{insert_all}
use Rattle.tl_db.specs.Entries.{entry_of}
use Rattle.tl_bring.specs.Coming.{parts_in}
use Rattle.tl_plan.proofs.SetLaws.{ok_weaker}
use Rattle.tl_renew.specs.Sets.{HaveSame}
use Rattle.tl_renew.specs.Unasked.{may_leave, auto_removed}
use Rattle.tl_renew.proofs.RenewLaws.{collected_same, leaving_is, parts_gathered}
use Rattle.tl_renew.proofs.unasked.auto_removed.Goals as goal

pub returns : goal.returns
returns c =
    let pins = c.args.pins.now in
    let repos = c.args.repos.now in
    let db = c.args.db.now in
    let view = c.args.view.now in
    let platforms : List (List ℕ) = map (λ platform. platform.items) c.args.platforms.now in
    let named = c.in_ok-named.named.keys in
    let leaving = c.in_ok-leaving.leaving.keys in
    let looked = c.in_ok-looked.looked.keys in
    ok_weaker c.leaving_among-2.result (λ set. set.keys ≡ insert_all bytes_eq [] (filter (may_leave pins repos db) looked)) (λ set. HaveSame set.keys (auto_removed pins repos db))
    (λ set is. leaving_is pins repos db named leaving looked set.keys
    (collected_same pins repos db platforms named c.requires.platforms c.in_ok-named.ensures)
    c.in_ok-leaving.ensures
    (parts_gathered pins repos db view platforms leaving looked c.requires.view c.requires.platforms
    (subst (λ (names : List (List ℕ)). looked ≡ insert_all bytes_eq (insert_all bytes_eq [] names) (parts_in (λ n. entry_of n view) platforms names)) c.as_slice.ensures.keys c.in_ok-looked.ensures))
    is)
    c.leaving_among-2.ensures
