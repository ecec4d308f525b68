use Rattle.std.proofs.Common.{ℕ, List, ◌∙◌, ap, subst}
use Rattle.std.specs.Prelude.{reverse}
use Rattle.tl_depend.specs.Order.{IsInstallOrder}
use Rattle.tl_plan.specs.Removal.{leaving_names}
use Rattle.tl_plan.proofs.OrderLaws.{order_is}
use Rattle.tl_plan.proofs.removal.removal_order.Goals as goal

pub returns : goal.returns
returns c = λ names are.
    let db = c.args.db.now in
    let ordered = c.in_ok-names.names.items in
    c.reverse.ensures.items ∙ ap reverse (order_is db (leaving_names db names) ordered
    (subst (λ (keys : List (List ℕ)). IsInstallOrder db keys ordered) (c.in_ok-leaving.ensures names are) c.in_ok-names.ensures))
