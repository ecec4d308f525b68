use Rattle.std.proofs.Common.{◌≡◌, ◌∙◌, ap}
use Rattle.std.proofs.lemmas.Result.{IfOk-weaker}
use Rattle.tl_backup.specs.Ordered.{in_order}
use Rattle.tl_backup.proofs.Orders.{sorted_in_order}
use Rattle.tl_claims.specs.Claims.{claim_cmp, claims_from, first_clash}
use Rattle.tl_claims.proofs.Neighbours.{claim_total, claim_antisymmetric}
use Rattle.tl_claims.proofs.claims.clash_in.Goals as goal

pub returns : goal.returns
returns c =
    let sorted : c.sort_unstable.new.self.items ≡ in_order claim_cmp c.in_ok-claims.claims.items =
    sorted_in_order claim_cmp claim_total claim_antisymmetric _ _ c.sort_unstable.ensures.permutation c.sort_unstable.ensures.sorted in
    let all : c.deref.result.now ≡ in_order claim_cmp (claims_from 0 c.args.objects.now) =
    c.deref.ensures.value ∙ sorted ∙ ap (in_order claim_cmp) c.in_ok-claims.ensures in
    IfOk-weaker c.first_clash.result _ _ (λ found is. is ∙ ap first_clash all) c.first_clash.ensures
