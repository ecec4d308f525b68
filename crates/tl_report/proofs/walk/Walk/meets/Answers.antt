use Rattle.std.proofs.Common.{◌≡◌, sym, subst, ap, ◌∙◌, arith}
use Rattle.tl_model.specs.Volume.{Volume}
use Rattle.tl_model.specs.Seen.{Moment}
use Rattle.tl_model.specs.Pictures.{quiet_join}
use Rattle.tl_journal_text.specs.Stand.{tree_of}
use Rattle.tl_report.specs.Walk.{IsInTree}
use Rattle.tl_report.proofs.walk.Walk.meets.Goals as goal

pub returns-in_err-go_on-clause-same : goal.returns-in_err-go_on-clause-same
returns-in_err-go_on-clause-same g c t = quiet_join _ _ _ (c.loop-number.invariant.same t) (c.go_on.ensures.same t)

pub loop-number-preserved : goal.loop-number-preserved
loop-number-preserved g c =
    let tree = tree_of c.args.tree.now.seen.present.held in
    let now = tree_of c.loop-number.tree.seen.present.held in
    record {
      inside = λ t.
          let same : now ≡ tree = ap (λ (m : Moment). tree_of m.held) (c.loop-number.invariant.same t).present in
          subst (λ (v : Volume). IsInTree v c.go_on.new.self.last) same
          (c.in_ok-go_on.ensures.inside t (subst (λ (v : Volume). IsInTree v c.loop-number.self.last) (sym same) (c.loop-number.invariant.inside t)));
      same = λ t. quiet_join _ _ _ (c.loop-number.invariant.same t) (c.go_on.ensures.same t);
      db = c.go_on.ensures.db ∙ c.loop-number.invariant.db;
      later = omega (arith, c.loop-number.invariant.later, c.go_on.ensures.cause.later);
    }
