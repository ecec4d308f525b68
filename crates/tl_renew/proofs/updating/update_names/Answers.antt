use Rattle.std.proofs.Common.{◌≡◌, ◌++◌, List, [], ℕ, ◌∙◌, ap, sym, subst}
use Rattle.std.specs.Str.{bytes_eq}
use Rattle.indexmap.specs.IndexSet.{insert_all}
use Rattle.tl_depend.specs.Order.{IsInstallOrder}
use Rattle.tl_pin.specs.Candidates.{view_entry}
use Rattle.tl_plan.proofs.SetLaws.{ok_weaker}
use Rattle.tl_renew.specs.Sets.{HaveSame}
use Rattle.tl_renew.specs.Updated.{renewed_names}
use Rattle.tl_renew.specs.Updating.{unasked_names, update_names}
use Rattle.tl_renew.proofs.SameLaws.{gathered_onto, same_append, same_order}
use Rattle.tl_renew.proofs.updating.update_names.Goals as goal

pub returns : goal.returns
returns c =
    let pins = c.args.pins.now in
    let repos = c.args.repos.now in
    let db = c.args.db.now in
    let view = c.args.view.now in
    let asked = c.args.asked.now in
    let ask = c.args.ask.now in
    let some = c.as_slice.result.now in
    let more = c.as_slice-2.result.now in
    let keys = c.add_all-2.new.names.keys in
    let renewed : List (List ℕ) = renewed_names pins repos db asked ask in
    let unasked : List (List ℕ) = unasked_names pins repos db ask in
    ok_weaker c.order.result (λ ordered. IsInstallOrder view keys ordered.items) (λ ordered. ordered.items ≡ update_names pins repos db asked ask)
    (λ ordered is. same_order view (view_entry pins repos db) keys (some ++ more) (renewed ++ unasked) ordered.items c.requires.view
    (c.in_ok-add_all-2.ensures
    ∙ ap (λ (ks : List (List ℕ)). insert_all bytes_eq ks more) (c.in_ok-add_all.ensures ∙ ap (λ (ks : List (List ℕ)). insert_all bytes_eq ks some) c.new-names.ensures.empty)
    ∙ sym (gathered_onto [] some more))
    (same_append some renewed more unasked
    (subst (λ (ns : List (List ℕ)). HaveSame ns renewed) (sym c.as_slice.ensures.keys) c.in_ok-renewed.ensures)
    (subst (λ (ns : List (List ℕ)). HaveSame ns unasked) (sym c.as_slice-2.ensures.keys) c.in_ok-unasked.ensures))
    is)
    c.order.ensures
