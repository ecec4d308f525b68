use Rattle.std.proofs.Common.{◌≡◌, ℕ, List, Option, Err, ap, sym, subst, ◌∙◌, rules, arith}
use Rattle.tl_model.specs.Volume.{Volume, IsNext}
use Rattle.tl_kind.specs.declared.quantity.What.TheVariants.{Files}
use Rattle.tl_backup.specs.Asked.{tree_in}
use Rattle.tl_backup.proofs.Making.{asked_join, asked_start, asked_tree}
use Rattle.tl_master.specs.Listing.{names_in}
use Rattle.tl_master.specs.declared.error.MasterError.TheVariants.{NoMemory, TooLarge}
use Rattle.tl_master.proofs.Finding.{asks_no_memory}
use Rattle.tl_master.proofs.Free.{asks_free, host_before}
use Rattle.tl_master.proofs.NameWalk.{named_start, named_step, named_end, named_many}
use Rattle.tl_master.proofs.names.names.Goals as goal

pub loop-number-init : goal.loop-number-init
loop-number-init g c = (asked_start _ _, λ t. named_start (tree_in c.args.tree.now) c.new-names.result.items c.new-names.ensures.items)

pub loop-number-preserved : goal.loop-number-preserved
loop-number-preserved g c =
    let tree = tree_in c.args.tree.now in
    let last = c.loop-number.last in (
      asked_join _ _ _ _ c.loop-number.invariant.0 c.next_path.ensures.asked,
      λ t. named_step tree c.loop-number._number last c.loop-number.names.items c.push_name.new.names.items c.in-Ok-Some.path (c.loop-number.invariant.1 t)
          (subst (λ (o : Option (List ℕ)). IsNext tree last o) c.in-Ok-Some.field-0-is
          (subst (λ (v : Volume). IsNext v last c.in-Ok-Some.field-0) (asked_tree _ _ _ c.loop-number.invariant.0 t) (c.in-Ok-Some.ensures.next t)))
          c.in_ok-push_name.ensures,
    )

pub returns-in-Ok-None : goal.returns-in-Ok-None
returns-in-Ok-None g c =
    let tree = tree_in c.args.tree.now in
    let last = c.loop-number.last in
    record {
      answered = λ t. named_end tree c.loop-number._number last c.loop-number.names.items (c.loop-number.invariant.1 t) (omega (arith, c.loop-number-test.true))
          (subst (λ (o : Option (List ℕ)). IsNext tree last o) c.in-Ok-None.field-0-is
          (subst (λ (v : Volume). IsNext v last c.in-Ok-None.field-0) (asked_tree _ _ _ c.loop-number.invariant.0 t) (c.in-Ok-None.ensures.next t)));
      asked = asked_join _ _ _ _ c.loop-number.invariant.0 c.next_path.ensures.asked;
      cause = tt;
      others = tt;
    }

pub returns-in-Err : goal.returns-in-Err
returns-in-Err g c =
    asks_free g.H.Host.tells (λ names. names.items) names_in c.args.tree.now c.next_path.new.tree c.in-Err.fault (asked_join _ _ _ _ c.loop-number.invariant.0 c.next_path.ensures.asked)
    c.in-Err.ensures.fault (host_before g.H.Host.tells c.args.tree.now c.loop-number.tree c.next_path.new.tree c.in-Err.fault c.loop-number.invariant.0 c.in-Err.ensures.cause)

pub returns-in_err-push_name : goal.returns-in_err-push_name
returns-in_err-push_name g c =
    let is : c.from_residual.result ≡ Err NoMemory = search rules in
    rw is (asks_no_memory g.H.Host.tells (λ names. names.items) names_in c.args.tree.now c.next_path.new.tree (asked_join _ _ _ _ c.loop-number.invariant.0 c.next_path.ensures.asked))

pub returns : goal.returns
returns g c = record {
  answered = λ t. named_many (tree_in c.args.tree.now) c.loop-number._number c.loop-number.last c.loop-number.names.items (c.loop-number.invariant.1 t) (omega arith)
      ∙ ap (λ (n : ℕ). Err (TooLarge Files n)) (sym c.limit-limit.ensures);
  asked = c.loop-number.invariant.0;
  cause = λ is. absurd (cc);
  others = λ is. is;
}
