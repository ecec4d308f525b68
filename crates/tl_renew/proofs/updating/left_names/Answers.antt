use Rattle.std.proofs.Common.{List, ℕ, ◌∙◌, ap, sym, subst}
use Rattle.std.specs.Prelude.{reverse}
use Rattle.std.specs.Str.{bytes_eq}
use Rattle.indexmap.specs.IndexSet.{insert_all}
use Rattle.tl_pin.specs.Candidates.{view_entry}
use Rattle.tl_renew.specs.Sets.{HaveSame}
use Rattle.tl_renew.specs.Updating.{dropped_names}
use Rattle.tl_renew.proofs.SameLaws.{same_order}
use Rattle.tl_renew.proofs.updating.left_names.Goals as goal

pub returns : goal.returns
returns c =
    let pins = c.args.pins.now in
    let repos = c.args.repos.now in
    let db = c.args.db.now in
    let names = c.as_slice.result.now in
    let dropped : List (List ℕ) = dropped_names pins repos db c.args.ask.now in
    c.reverse.ensures.items
    ∙ ap reverse (same_order c.args.view.now (view_entry pins repos db) c.add_all.new.names.keys names dropped c.in_ok-ordered.ordered.items c.requires.view
    (c.in_ok-add_all.ensures ∙ ap (λ (keys : List (List ℕ)). insert_all bytes_eq keys names) c.new-names.ensures.empty)
    (subst (λ (ns : List (List ℕ)). HaveSame ns dropped) (sym c.as_slice.ensures.keys) c.in_ok-dropped.ensures) c.in_ok-ordered.ensures)
