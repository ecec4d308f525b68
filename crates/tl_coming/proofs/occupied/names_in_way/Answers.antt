use Rattle.std.proofs.Common.{sym, subst, List, ℕ, Option, None, arith}
use Rattle.tl_model.specs.Volume.{Volume, IsNext}
use Rattle.tl_coming.specs.Asked.{tree_in}
use Rattle.tl_coming.specs.Listings.{is_in_way}
use Rattle.tl_coming.proofs.TreeLaws.{HasFound, found_start, found_step, found_end, asked_start, asked_join, asked_tree}
use Rattle.tl_coming.proofs.occupied.names_in_way.Goals as goal

pub loop-number-init : goal.loop-number-init
loop-number-init g c = (
  asked_start _ _,
  λ t.
      subst (λ (l : List (List ℕ)). HasFound (is_in_way c.args.owned.now c.args.coming.now) (tree_in c.args.tree.now) 0 None l) (sym c.new-names.ensures.items)
      (found_start (is_in_way c.args.owned.now c.args.coming.now) (tree_in c.args.tree.now)),
)

pub loop-number-preserved : goal.loop-number-preserved
loop-number-preserved g c =
    let tree = tree_in c.args.tree.now in (
      asked_join _ _ _ _ c.loop-number.invariant.0 c.next_path.ensures.asked,
      λ t. found_step (is_in_way c.args.owned.now c.args.coming.now) tree c.loop-number._number c.loop-number.last c.loop-number.names.items c.push_in_way.new.names.items c.in-Ok-Some.name (c.loop-number.invariant.1 t)
          (subst (λ (o : Option (List ℕ)). IsNext tree c.loop-number.last o) c.in-Ok-Some.field-0-is
          (subst (λ (v : Volume). IsNext v c.loop-number.last c.in-Ok-Some.field-0) (asked_tree _ _ _ c.loop-number.invariant.0 t) (c.in-Ok-Some.ensures.next t)))
          c.in_ok-push_in_way.ensures,
    )

pub returns-in-Ok-None-clause-asked : goal.returns-in-Ok-None-clause-asked
returns-in-Ok-None-clause-asked g c = asked_join _ _ _ _ c.loop-number.invariant.0 c.next_path.ensures.asked

pub returns-in-Err-clause-asked : goal.returns-in-Err-clause-asked
returns-in-Err-clause-asked g c = asked_join _ _ _ _ c.loop-number.invariant.0 c.next_path.ensures.asked

pub returns-in_err-push_in_way-clause-asked : goal.returns-in_err-push_in_way-clause-asked
returns-in_err-push_in_way-clause-asked g c = asked_join _ _ _ _ c.loop-number.invariant.0 c.next_path.ensures.asked

pub returns-in-Ok-None-clause-names : goal.returns-in-Ok-None-clause-names
returns-in-Ok-None-clause-names g c t =
    let tree = tree_in c.args.tree.now in
    let next : IsNext tree c.loop-number.last None =
    subst (λ (o : Option (List ℕ)). IsNext tree c.loop-number.last o) c.in-Ok-None.field-0-is
    (subst (λ (v : Volume). IsNext v c.loop-number.last c.in-Ok-None.field-0) (asked_tree _ _ _ c.loop-number.invariant.0 t) (c.in-Ok-None.ensures.next t)) in
    found_end (is_in_way c.args.owned.now c.args.coming.now) tree c.loop-number._number c.loop-number.last c.loop-number.names.items (c.loop-number.invariant.1 t) (omega (arith, c.loop-number-test.true)) next
