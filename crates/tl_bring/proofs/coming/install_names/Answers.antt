use Rattle.std.proofs.Common.{◌≡◌, ◌∙◌, ap, subst, List, ℕ, map}
use Rattle.tl_db.specs.Entries.{entry_of}
use Rattle.tl_depend.specs.Order.{IsInstallOrder}
use Rattle.tl_plan.specs.Removal.{is_among}
use Rattle.tl_bring.specs.Coming.{looked_at, IsEnough, install_names}
use Rattle.tl_plan.proofs.SetLaws.{ok_weaker}
use Rattle.tl_bring.proofs.InstallLaws.{names_are}
use Rattle.tl_bring.proofs.coming.install_names.Goals as goal

pub returns : goal.returns
returns c =
    let view = c.in_ok-view.view in
    let names = c.in_ok-coming.coming.keys in
    let looked = c.in_ok-looked.looked.keys in
    ok_weaker c.order.result (λ ordered. IsInstallOrder view names ordered.items) (λ ordered. ordered.items ≡ install_names c.args.pins.now c.args.repos.now c.args.db.now c.args.names.now c.args.ask.now)
    (λ ordered is. names_are c.args.pins.now c.args.repos.now c.args.db.now view c.args.names.now c.args.ask.now looked c.in_ok-again.again.keys ordered.items c.in_ok-view.ensures
    (subst (λ (platforms : List (List ℕ)). (count : ℕ) → IsEnough view platforms count → (name : List ℕ) → is_among name looked ≡ is_among name (looked_at c.args.names.now c.args.ask.now (λ n. entry_of n view) platforms count))
    (ap (map (λ platform. platform.items)) c.deref.ensures.value ∙ c.in_ok-platforms.ensures) c.in_ok-looked.ensures) c.in_ok-again.ensures
    (subst (λ (keys : List (List ℕ)). IsInstallOrder view keys ordered.items) c.in_ok-coming.ensures is)) c.order.ensures
