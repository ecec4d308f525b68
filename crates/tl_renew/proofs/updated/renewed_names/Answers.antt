use Rattle.std.proofs.Common.{◌≡◌, ◌∙◌, List, ℕ, [], map, ap, subst}
use Rattle.std.specs.Prelude.{filter}
use Rattle.std.specs.Str.{bytes_eq}
use Rattle.indexmap.specs.IndexSet.{insert_all}
use Rattle.tl_db.specs.Entries.{entry_of}
use Rattle.tl_depend.specs.Needed.{tree_platforms}
use Rattle.tl_pin.specs.Candidates.{view_entry}
use Rattle.tl_plan.specs.Removal.{is_among}
use Rattle.tl_bring.specs.Coming.{parts_in}
use Rattle.tl_plan.proofs.SetLaws.{ok_weaker}
use Rattle.tl_renew.specs.Sets.{HaveSame}
use Rattle.tl_renew.specs.Updated.{comes_beside, names_with_parts, renewed_names, updated_names}
use Rattle.tl_renew.proofs.RenewLaws.{beside_is, parts_gathered, updated_alike}
use Rattle.tl_renew.proofs.SameLaws.{same_set}
use Rattle.tl_renew.proofs.updated.renewed_names.Goals as goal

pub returns : goal.returns
returns c =
    let pins = c.args.pins.now in
    let repos = c.args.repos.now in
    let db = c.args.db.now in
    let view = c.args.view.now in
    let asked = c.args.asked.now in
    let ask = c.args.ask.now in
    let platforms : List (List ℕ) = map (λ platform. platform.items) c.args.platforms.now in
    let meant = c.in_ok-meant.meant.keys in
    let updated = c.in_ok-updated.updated.keys in
    let looked = c.in_ok-looked.looked.keys in
    let wanted : List (List ℕ) = names_with_parts (view_entry pins repos db) (tree_platforms db) asked in
    let names : List (List ℕ) = updated_names pins repos db asked ask in
    ok_weaker c.coming_beside.result (λ set. set.keys ≡ insert_all bytes_eq [] (filter (comes_beside pins repos db updated) looked)) (λ set. HaveSame set.keys (renewed_names pins repos db asked ask))
    (λ set is. beside_is pins repos db updated names looked set.keys
    (λ name. ap (is_among name) (c.in_ok-updated.ensures ∙ ap (insert_all bytes_eq []) (updated_alike pins repos db ask.all meant wanted
    (parts_gathered pins repos db view platforms asked meant c.requires.view c.requires.platforms c.in_ok-meant.ensures)))
    ∙ same_set names name)
    (parts_gathered pins repos db view platforms updated looked c.requires.view c.requires.platforms
    (subst (λ (ns : List (List ℕ)). looked ≡ insert_all bytes_eq (insert_all bytes_eq [] ns) (parts_in (λ n. entry_of n view) platforms ns)) c.as_slice.ensures.keys c.in_ok-looked.ensures))
    is)
    c.coming_beside.ensures
