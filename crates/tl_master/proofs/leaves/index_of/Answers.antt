use Rattle.std.proofs.Common.{◌≡◌, List, [], Ok, Err, ap, sym, subst, rules, arith}
use Rattle.std.proofs.lemmas.Grind.{common_steps}
use Rattle.tl_index.specs.declared.hit.Hit.{Hit}
use Rattle.tl_marks.specs.declared.marks.MarkedPath.{MarkedPath}
use Rattle.tl_master.specs.Answers.{Asks}
use Rattle.tl_master.specs.Listing.{index_of}
use Rattle.tl_master.proofs.Finding.{asks_known}
use Rattle.tl_master.proofs.LeafLaws.{leaves_more, leaves_cut}
use Rattle.tl_master.proofs.leaves.index_of.Goals as goal

pub loop-marked-init : goal.loop-marked-init
loop-marked-init g c = record {
  asks = asks_known g.H.Host.tells (λ (i : List Hit). i) (λ t. Ok (index_of t [])) c.args.tree.now c.new-index.result (λ told. ap (λ (l : List Hit). Ok l) (sym c.new-index.ensures));
  split = grind (arith, common_steps);
}

pub loop-marked-preserved : goal.loop-marked-preserved
loop-marked-preserved g c = record {
  asks = leaves_more g.H.Host.tells c.args.tree.now c.loop-marked.tree c.put_leaf.new.tree c.loop-marked.yielded c.in-Some.marked c.loop-marked.index c.put_leaf.new.index c.loop-marked.invariant.asks
      _ c.in_ok-put_leaf.ensures;
  split = grind (arith, common_steps);
}

pub returns-in_err-put_leaf : goal.returns-in_err-put_leaf
returns-in_err-put_leaf g c =
    let is : c.from_residual.result ≡ Err c.in_err-put_leaf.field-0.0 = search rules in
    rw is (leaves_cut g.H.Host.tells c.args.tree.now c.loop-marked.tree c.put_leaf.new.tree c.loop-marked.yielded c.in-Some.marked c.loop-marked.index c.put_leaf.new.index c.loop-marked.invariant.asks
    c.args.listing.items c.in_err-put_leaf.field-0.0 c.in_err-put_leaf.ensures)

pub returns : goal.returns
returns g c =
    let whole : c.args.listing.items ≡ c.loop-marked.yielded = grind (arith, common_steps) in
    subst (λ (l : List MarkedPath). Asks g.H.Host.tells (λ (i : List Hit). i) (λ t. Ok (index_of t l)) c.args.tree.now c.loop-marked.tree (Ok c.loop-marked.index)) (sym whole)
    c.loop-marked.invariant.asks
