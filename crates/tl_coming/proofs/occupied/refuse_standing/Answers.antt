use Rattle.std.proofs.Common.{◌∙◌, ap, List, ℕ, map}
use Rattle.std.specs.List.{flat_map}
use Rattle.tl_entry.specs.Rising.{has_key}
use Rattle.tl_entry.specs.declared.object.Object.{Object}
use Rattle.tl_tree.specs.Changes.{own}
use Rattle.tl_coming.specs.Asked.{tree_in}
use Rattle.tl_coming.specs.Refused.{first_of, occupied_path}
use Rattle.tl_coming.proofs.TreeLaws.{standing_is, as_fault_result, as_none_result, never_host_result}
use Rattle.tl_coming.proofs.occupied.refuse_standing.Goals as goal

pub returns-clause-ok : goal.returns-clause-ok
returns-clause-ok g c t =
    as_none_result c.refuse_occupied-2.result (first_of (occupied_path c.of.result) (map (λ e. e.now) c.args.coming.now)) _
    (standing_is c.in_ok-owned.owned c.of-paths.result c.of.result c.in-Ok.names.items c.args.tree.now.db (tree_in c.args.tree.now) (map (λ e. e.now) c.args.coming.now)
    (λ w. c.in_ok-owned.ensures w ∙ ap (λ (d : List Object). has_key (λ (p : List ℕ). p) w (flat_map own d)) c.db.ensures)
    (λ w. c.of-paths.ensures w ∙ ap (has_key (λ (p : List ℕ). p) w) c.in_ok-paths_of.ensures) c.of.ensures (c.in-Ok.ensures.names t)) c.refuse_occupied-2.ensures.ok

pub returns-clause-fault : goal.returns-clause-fault
returns-clause-fault g c t =
    as_fault_result c.refuse_occupied-2.result (first_of (occupied_path c.of.result) (map (λ e. e.now) c.args.coming.now)) _
    (standing_is c.in_ok-owned.owned c.of-paths.result c.of.result c.in-Ok.names.items c.args.tree.now.db (tree_in c.args.tree.now) (map (λ e. e.now) c.args.coming.now)
    (λ w. c.in_ok-owned.ensures w ∙ ap (λ (d : List Object). has_key (λ (p : List ℕ). p) w (flat_map own d)) c.db.ensures)
    (λ w. c.of-paths.ensures w ∙ ap (has_key (λ (p : List ℕ). p) w) c.in_ok-paths_of.ensures) c.of.ensures (c.in-Ok.ensures.names t)) c.refuse_occupied-2.ensures.fault

pub returns-clause-cause : goal.returns-clause-cause
returns-clause-cause g c = never_host_result c.refuse_occupied-2.result (first_of (occupied_path c.of.result) (map (λ e. e.now) c.args.coming.now)) c.args.tree.now c.names_in_way.new.tree c.refuse_occupied-2.ensures.fault
