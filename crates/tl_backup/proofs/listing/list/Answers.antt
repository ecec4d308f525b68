use Rattle.std.proofs.Common.{◌∙◌, ap, sym, subst, List, ℕ, Option, None, Ok, arith}
use Rattle.std.specs.Prelude.{IfSome}
use Rattle.std.specs.Option.{option_copied}
use Rattle.tl_model.specs.Volume.{Volume, IsAfter, IsNext}
use Rattle.tl_backup.specs.Asked.{tree_in}
use Rattle.tl_backup.specs.Files.{backup_cmp}
use Rattle.tl_backup.specs.Ordered.{AreDifferent}
use Rattle.tl_backup.specs.declared.names.Backup.{Backup}
use Rattle.tl_backup.proofs.Apart.{apart-in_order}
use Rattle.tl_backup.proofs.Making.{asked_join, asked_start, asked_tree}
use Rattle.tl_backup.proofs.Orders.{sorted_in_order, backup_total, backup_antisymmetric}
use Rattle.tl_backup.proofs.Walks.{HasListed, HasRisen, list_start, list_step, list_end, risen_start, risen_step}
use Rattle.tl_backup.proofs.listing.list.Goals as goal

pub loop-number-init : goal.loop-number-init
loop-number-init g c = (
  asked_start _ _,
  (λ t. subst (λ (l : List Backup). HasListed (option_copied c.args.name) (tree_in c.args.tree.now) 0 None l) (sym c.new-found.ensures.items) (list_start (option_copied c.args.name) (tree_in c.args.tree.now))),
  subst (HasRisen None) (sym c.new-found.ensures.items) risen_start,
)

pub loop-number-preserved : goal.loop-number-preserved
loop-number-preserved g c =
    let tree = tree_in c.args.tree.now in (
      asked_join _ _ _ _ c.loop-number.invariant.0 c.next_path.ensures.asked,
      (λ t. list_step (option_copied c.args.name) tree c.loop-number._number c.loop-number.last c.loop-number.found.items c.push_backup.new.found.items c.in-Ok-Some.path (c.loop-number.invariant.1 t)
          (subst (λ (o : Option (List ℕ)). IsNext tree c.loop-number.last o) c.in-Ok-Some.field-0-is
          (subst (λ (v : Volume). IsNext v c.loop-number.last c.in-Ok-Some.field-0) (asked_tree _ _ _ c.loop-number.invariant.0 t) (c.in-Ok-Some.ensures.next t)))
          c.in_ok-push_backup.ensures),
      risen_step (option_copied c.args.name) c.loop-number.last c.loop-number.found.items c.in-Ok-Some.path c.loop-number.invariant.2
          (subst (λ (o : Option (List ℕ)). IfSome o (λ p. IsAfter c.loop-number.last p)) c.in-Ok-Some.field-0-is c.in-Ok-Some.ensures.behind)
          c.push_backup.new.found.items c.in_ok-push_backup.ensures,
    )

pub returns-in-Ok-None-clause-asked : goal.returns-in-Ok-None-clause-asked
returns-in-Ok-None-clause-asked g c = asked_join _ _ _ _ c.loop-number.invariant.0 c.next_path.ensures.asked

pub returns-in-Err-clause-asked : goal.returns-in-Err-clause-asked
returns-in-Err-clause-asked g c = asked_join _ _ _ _ c.loop-number.invariant.0 c.next_path.ensures.asked

pub returns-in_err-push_backup-clause-asked : goal.returns-in_err-push_backup-clause-asked
returns-in_err-push_backup-clause-asked g c = asked_join _ _ _ _ c.loop-number.invariant.0 c.next_path.ensures.asked

pub returns-in-Ok-None-clause-list : goal.returns-in-Ok-None-clause-list
returns-in-Ok-None-clause-list g c t =
    let tree = tree_in c.args.tree.now in
    let next : IsNext tree c.loop-number.last None =
    subst (λ (o : Option (List ℕ)). IsNext tree c.loop-number.last o) c.in-Ok-None.field-0-is
    (subst (λ (v : Volume). IsNext v c.loop-number.last c.in-Ok-None.field-0) (asked_tree _ _ _ c.loop-number.invariant.0 t) (c.in-Ok-None.ensures.next t)) in
    list_end (option_copied c.args.name) tree c.loop-number._number c.loop-number.last c.loop-number.found.items (c.loop-number.invariant.1 t) (omega (arith, c.loop-number-test.true)) next
    ∙ ap (λ (l : List Backup). Ok l) (sym (sorted_in_order backup_cmp backup_total backup_antisymmetric _ _ c.sort_unstable.ensures.permutation c.sort_unstable.ensures.sorted))

pub returns-in-Ok-None-clause-apart : goal.returns-in-Ok-None-clause-apart
returns-in-Ok-None-clause-apart g c =
    subst AreDifferent (sym (sorted_in_order backup_cmp backup_total backup_antisymmetric _ _ c.sort_unstable.ensures.permutation c.sort_unstable.ensures.sorted))
    (apart-in_order backup_cmp c.loop-number.found.items c.loop-number.invariant.2.apart)
