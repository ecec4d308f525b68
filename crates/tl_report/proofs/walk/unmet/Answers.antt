use Rattle.std.proofs.Common.{◌≡◌, ◌&&◌, List, ℕ, Bor, true, IsSome, map, sym, subst, ap, ◌∙◌, arith, rules}
use Rattle.std.specs.List.{list_any}
use Rattle.std.proofs.lemmas.List.{map-id}
use Rattle.std.proofs.lemmas.Iterator.Adapters.{YieldsList-from_vec}
use Rattle.std.proofs.lemmas.Iterator.Consumers.{YieldsList-end}
use Rattle.tl_model.specs.Volume.{Volume, at}
use Rattle.tl_model.specs.Seen.{Moment}
use Rattle.tl_model.specs.Pictures.{quiet_join}
use Rattle.tl_journal_text.specs.Stand.{tree_of}
use Rattle.tl_report.specs.Claims.{claim_by}
use Rattle.tl_report.specs.Missing.{is_gone}
use Rattle.tl_report.specs.Walk.{IsInTree}
use Rattle.tl_report.proofs.WalkLemmas.{any-kept, any-left, any-moved, met-not-gone}
use Rattle.tl_report.proofs.walk.unmet.Goals as goal

pub returns-in_err-meets-clause-same : goal.returns-in_err-meets-clause-same
returns-in_err-meets-clause-same g c t = quiet_join _ _ _ (c.loop-file.invariant.same t) (c.meets.ensures.same t)

pub returns-in_err-push-clause-same : goal.returns-in_err-push-clause-same
returns-in_err-push-clause-same g c t = quiet_join _ _ _ (c.loop-file.invariant.same t) (c.meets.ensures.same t)

pub loop-file-preserved-in_ok-push : goal.loop-file-preserved-in_ok-push
loop-file-preserved-in_ok-push g c =
    let tree = tree_of c.args.tree.now.seen.present.held in
    let now = tree_of c.loop-file.tree.seen.present.held in
    record {
      gone = λ t test. any-kept (λ file. claim_by file.1.now file.0) (λ d. is_gone tree d && test d) c.loop-file.unmet.items c.push.new.self.items c.loop-file.yielded c.in-Some.file
          c.in_ok-push.ensures.items (c.loop-file.invariant.gone t test);
      inside = λ t.
          let same : now ≡ tree = ap (λ (m : Moment). tree_of m.held) (c.loop-file.invariant.same t).present in
          subst (λ (v : Volume). IsInTree v c.meets.new.self.last) same (c.in_ok-meets.ensures.inside t);
      same = λ t. quiet_join _ _ _ (c.loop-file.invariant.same t) (c.meets.ensures.same t);
      db = c.meets.ensures.db ∙ c.loop-file.invariant.db;
      later = omega (arith, c.loop-file.invariant.later, c.meets.ensures.cause.later);
    }

pub loop-file-preserved : goal.loop-file-preserved
loop-file-preserved g c =
    let tree = tree_of c.args.tree.now.seen.present.held in
    let now = tree_of c.loop-file.tree.seen.present.held in
    record {
      gone = λ t test.
          let same : now ≡ tree = ap (λ (m : Moment). tree_of m.held) (c.loop-file.invariant.same t).present in
          let met : c.in_ok-meets.field-0 ≡ true = search rules in
          let there : IsSome (at tree c.in-Some.file.0) = subst (λ (v : Volume). IsSome (at v c.in-Some.file.0)) same (c.in_ok-meets.ensures.met t met) in
          any-left (λ file. claim_by file.1.now file.0) (λ d. is_gone tree d && test d) c.loop-file.unmet.items c.loop-file.yielded c.in-Some.file
          (met-not-gone tree (claim_by c.in-Some.file.1.now c.in-Some.file.0) (test (claim_by c.in-Some.file.1.now c.in-Some.file.0)) there) (c.loop-file.invariant.gone t test);
      inside = λ t.
          let same : now ≡ tree = ap (λ (m : Moment). tree_of m.held) (c.loop-file.invariant.same t).present in
          subst (λ (v : Volume). IsInTree v c.meets.new.self.last) same (c.in_ok-meets.ensures.inside t);
      same = λ t. quiet_join _ _ _ (c.loop-file.invariant.same t) (c.meets.ensures.same t);
      db = c.meets.ensures.db ∙ c.loop-file.invariant.db;
      later = omega (arith, c.loop-file.invariant.later, c.meets.ensures.cause.later);
    }

pub returns-clause-gone : goal.returns-clause-gone
returns-clause-gone g c t test =
    let tree = tree_of c.args.tree.now.seen.present.held in
    let given = c.into_iter-file-iterator.ensures.into_iter_gives in
    let end = YieldsList-end (YieldsList-from_vec {s = c.into_iter-file-iterator.result} c.sort_unstable.new.self.items given.0 (given.1 ∙ c.sort_unstable.new.self.ok.0))
    c.loop-file.yielded c.loop-file.file-iterator c.loop-file.yielded_by c.next.result c.next.new.self c.in-None.is c.next.ensures.steps in
    let all : c.loop-file.yielded ≡ c.sort_unstable.new.self.items = sym (map-id c.loop-file.yielded) ∙ end.0 in
    c.loop-file.invariant.gone t test
    ∙ ap (λ (files : List (List ℕ × Bor (List ℕ))). list_any (λ d. is_gone tree d && test d) (map (λ file. claim_by file.1.now file.0) files)) all
    ∙ any-moved (λ file. claim_by file.1.now file.0) (λ d. is_gone tree d && test d) c.args.files.items c.sort_unstable.new.self.items c.sort_unstable.ensures.permutation
