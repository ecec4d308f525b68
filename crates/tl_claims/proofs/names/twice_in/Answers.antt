use Rattle.std.proofs.Common.{◌≡◌, ◌∙◌, ap, map}
use Rattle.std.specs.Ordering.{nat_cmp}
use Rattle.std.specs.Cmp.Lexicographic.{slice_cmp, nat_list_cmp_total}
use Rattle.std.proofs.lemmas.Result.{IfOk-weaker}
use Rattle.tl_entry.specs.declared.object.Object.{Object}
use Rattle.tl_backup.specs.Ordered.{in_order}
use Rattle.tl_backup.proofs.Orders.{sorted_in_order}
use Rattle.tl_claims.specs.Claims.{first_twice}
use Rattle.tl_claims.proofs.Neighbours.{name_antisymmetric}
use Rattle.tl_claims.proofs.names.twice_in.Goals as goal

pub returns : goal.returns
returns c =
    let sorted : c.sort_unstable.new.self.items ≡ in_order (slice_cmp nat_cmp) c.in_ok-names.names.items =
    sorted_in_order (slice_cmp nat_cmp) nat_list_cmp_total name_antisymmetric _ _ c.sort_unstable.ensures.permutation c.sort_unstable.ensures.sorted in
    let all : c.deref.result.now ≡ in_order (slice_cmp nat_cmp) (map (λ (o : Object). o.name) c.args.objects.now) =
    c.deref.ensures.value ∙ sorted ∙ ap (in_order (slice_cmp nat_cmp)) c.in_ok-names.ensures in
    IfOk-weaker c.first_twice.result _ _ (λ found is. is ∙ ap first_twice all) c.first_twice.ensures
