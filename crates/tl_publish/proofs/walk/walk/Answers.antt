use Rattle.std.proofs.Common.{ℕ, List, Option, None, ap, subst, arith}
use Rattle.std.specs.Prelude.{IfSome}
use Rattle.tl_model.specs.Volume.{Volume, IsAfter, IsNext}
use Rattle.tl_path.specs.Path.{IsPath}
use Rattle.tl_backup.specs.Asked.{tree_in}
use Rattle.tl_backup.proofs.Making.{asked_join, asked_start, asked_tree}
use Rattle.tl_publish.specs.Walk.{Gathering}
use Rattle.tl_publish.proofs.GatherLemmas.{gather_start, gather_step, gather_end, gather_many, upto_start, upto_step}
use Rattle.tl_publish.proofs.walk.walk.Goals as goal

pub loop-number-init : goal.loop-number-init
loop-number-init g c = (
  asked_start _ _,
  λ t. gather_start (tree_in c.args.tree.now) c.in_ok-names.names c.in_ok-names.ensures,
  upto_start c.in_ok-names.names.inside (ap (λ (w : Gathering). w.inside) c.in_ok-names.ensures),
)

pub loop-number-preserved : goal.loop-number-preserved
loop-number-preserved g c =
    let tree = tree_in c.args.tree.now in
    let path = c.in-Ok-Some.path in
    let last = c.loop-number.last in
    let form = subst (λ (o : Option (List ℕ)). IfSome o (λ p. IsPath p × IsAfter last p)) c.in-Ok-Some.field-0-is c.in-Ok-Some.ensures.path in (
      asked_join _ _ _ _ c.loop-number.invariant.0 c.next_path.ensures.asked,
      λ t. gather_step tree c.loop-number._number last c.loop-number.names c.note.new.self path (c.loop-number.invariant.1 t)
          (subst (λ (o : Option (List ℕ)). IsNext tree last o) c.in-Ok-Some.field-0-is
          (subst (λ (v : Volume). IsNext v last c.in-Ok-Some.field-0) (asked_tree _ _ _ c.loop-number.invariant.0 t) (c.in-Ok-Some.ensures.next t)))
          c.in_ok-note.ensures.inside c.in_ok-note.ensures.occupant,
      upto_step last c.loop-number.names.inside c.note.new.self.inside path form.0 form.1 c.in_ok-note.ensures.inside c.loop-number.invariant.2,
    )

pub returns-in-Ok-None-clause-asked : goal.returns-in-Ok-None-clause-asked
returns-in-Ok-None-clause-asked g c = asked_join _ _ _ _ c.loop-number.invariant.0 c.next_path.ensures.asked

pub returns-in-Err-clause-asked : goal.returns-in-Err-clause-asked
returns-in-Err-clause-asked g c = asked_join _ _ _ _ c.loop-number.invariant.0 c.next_path.ensures.asked

pub returns-in_err-note-clause-asked : goal.returns-in_err-note-clause-asked
returns-in_err-note-clause-asked g c = asked_join _ _ _ _ c.loop-number.invariant.0 c.next_path.ensures.asked

pub returns-in-Ok-None-clause-names : goal.returns-in-Ok-None-clause-names
returns-in-Ok-None-clause-names g c t =
    let tree = tree_in c.args.tree.now in
    let last = c.loop-number.last in
    let next : IsNext tree last None =
    subst (λ (o : Option (List ℕ)). IsNext tree last o) c.in-Ok-None.field-0-is
    (subst (λ (v : Volume). IsNext v last c.in-Ok-None.field-0) (asked_tree _ _ _ c.loop-number.invariant.0 t) (c.in-Ok-None.ensures.next t)) in
    gather_end tree c.loop-number._number last c.loop-number.names (c.loop-number.invariant.1 t) (omega (arith, c.loop-number-test.true)) next

pub returns-in-Ok-None-clause-inside : goal.returns-in-Ok-None-clause-inside
returns-in-Ok-None-clause-inside g c = c.loop-number.invariant.2.are

pub returns-clause-names : goal.returns-clause-names
returns-clause-names g c t = gather_many (tree_in c.args.tree.now) c.loop-number._number c.loop-number.last c.loop-number.names (c.loop-number.invariant.1 t) (omega arith)

pub returns-clause-asked : goal.returns-clause-asked
returns-clause-asked g c = c.loop-number.invariant.0
