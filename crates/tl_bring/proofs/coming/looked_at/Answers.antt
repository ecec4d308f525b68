use Rattle.std.proofs.Common.{◌≡◌, ◌↔◌, ◌∙◌, ap, subst, List, ℕ, [], map}
use Rattle.std.specs.Prelude.{IsTrue}
use Rattle.std.specs.Str.{bytes_eq}
use Rattle.indexmap.specs.IndexSet.{insert_all}
use Rattle.tl_db.specs.Entries.{entry_of}
use Rattle.tl_depend.specs.Reach.{IsReached}
use Rattle.tl_plan.specs.Removal.{is_among}
use Rattle.tl_bring.specs.Coming.{parts_in}
use Rattle.tl_plan.proofs.SetLaws.{ok_weaker}
use Rattle.tl_bring.proofs.InstallLaws.{Looks, alone_looked, parts_looked, reach_looked}
use Rattle.tl_bring.proofs.coming.looked_at.Goals as goal

pub returns-then-not-ask : goal.returns-then-not-ask
returns-then-not-ask c =
    let platforms : List (List ℕ) = map (λ platform. platform.items) c.args.platforms.now in
    ok_weaker c.name_set.result (λ set. set.keys ≡ insert_all bytes_eq [] c.args.names.now) (λ set. Looks c.args.names.now c.args.ask.now c.args.view.now platforms set.keys)
    (λ set is. alone_looked c.args.names.now c.args.ask.now c.args.view.now platforms set.keys c.if-not-ask.true is)
    c.name_set.ensures

pub returns-then-not-ask-2 : goal.returns-then-not-ask-2
returns-then-not-ask-2 c =
    let platforms : List (List ℕ) = map (λ platform. platform.items) c.args.platforms.now in
    let gathered : List (List ℕ) → List (List ℕ) =
    λ names. insert_all bytes_eq (insert_all bytes_eq [] names) (parts_in (λ n. entry_of n c.args.view.now) platforms names) in
    ok_weaker c.with_parts.result (λ set. set.keys ≡ gathered c.args.names.now) (λ set. Looks c.args.names.now c.args.ask.now c.args.view.now platforms set.keys)
    (λ set is. parts_looked c.args.names.now c.args.ask.now c.args.view.now platforms set.keys c.if-not-ask.false c.if-not-ask-2.true is)
    c.with_parts.ensures

pub returns : goal.returns
returns c =
    let platforms : List (List ℕ) = map (λ platform. platform.items) c.args.platforms.now in
    ok_weaker c.needs.result (λ set. (name : List ℕ) → IsTrue (is_among name set.keys) ↔ IsReached c.args.view.now platforms c.args.names.now name)
    (λ set. Looks c.args.names.now c.args.ask.now c.args.view.now platforms set.keys)
    (λ set is. reach_looked c.args.names.now c.args.ask.now c.args.view.now platforms set.keys c.if-not-ask.false c.if-not-ask-2.false is)
    c.needs.ensures
