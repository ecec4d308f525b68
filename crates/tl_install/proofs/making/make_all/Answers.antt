use Rattle.std.proofs.Common.{◌+◌, ◌&&◌, [], List, length, drop, refl, sym, subst, arith}
use Rattle.std.proofs.lemmas.List.{drop_all, take_all}
use Rattle.tl_model.specs.Volume.{Volume}
use Rattle.tl_repo.proofs.ShelfLemmas.{same_join}
use Rattle.tl_entry.specs.declared.object.Object.{Object}
use Rattle.tl_coming.specs.Made.{AreChanges}
use Rattle.tl_coming.specs.declared.part.PlanPart.{PlanPart}
use Rattle.tl_command.specs.Performs.{Performs}
use Rattle.tl_fill.specs.Filling.{beside_shelf}
use Rattle.tl_formats.proofs.ChangeLaws.{changes_none}
use Rattle.tl_trigger.specs.Stale.{HasChanges}
use Rattle.tl_install.specs.Left.{spoken_in}
use Rattle.tl_install.specs.Steps.{CarriesOn, coming_step, steps_run}
use Rattle.tl_install.proofs.LeftLemmas.{changes_more}
use Rattle.tl_install.proofs.StepsLemmas.{performs_sooner, steps_from}
use Rattle.tl_install.proofs.making.make_all.Goals as goal

pub loop-at-init : goal.loop-at-init
loop-at-init g c = record {
  changes = c.requires;
  same = record { repositories = refl; absences = omega arith };
  later = omega arith;
  names = changes_none c.args.tree.db [];
  run = λ rest before after ending state performs. performs;
}

pub make-requires-clause-change : goal.make-requires-clause-change
make-requires-clause-change g c =
    let changes = subst (λ (l : List (List PlanPart)). AreChanges c.args.repos.now c.loop-at.tree.db l) (steps_from c.args.steps.now c.loop-at.at c.index-steps-at.result c.loop-at-test.true c.index-steps-at.is) c.loop-at.invariant.changes in
    changes.0

pub make-requires-clause-listed : goal.make-requires-clause-listed
make-requires-clause-listed g c =
    let changes = subst (λ (l : List (List PlanPart)). AreChanges c.args.repos.now c.loop-at.tree.db l) (steps_from c.args.steps.now c.loop-at.at c.index-steps-at.result c.loop-at-test.true c.index-steps-at.is) c.loop-at.invariant.changes in
    changes.1

pub loop-at-preserved : goal.loop-at-preserved
loop-at-preserved g c =
    let inv = c.loop-at.invariant in
    let tells = g.S.Shelf.tells && g.H.Host.tells in
    let seen = g.H.Host.seen in
    let shelf = g.S.Shelf.seen c.args.shelf.now in
    let volumes = shelf.repositories in
    let repos = c.args.repos.now in
    let steps = c.args.steps.now in
    let count = length steps in
    let at = c.loop-at.at in
    let step = c.index-steps-at.result in
    let old = c.loop-at.tree in
    let next = c.in-Ok.next in
    let more = drop (at + 1) steps in
    let left = steps_from steps at step c.loop-at-test.true c.index-steps-at.is in
    let changes = subst (λ (l : List (List PlanPart)). AreChanges repos old.db l) left inv.changes in
    let on = subst (λ (vs : List Volume). CarriesOn tells seen (coming_step vs repos (at + 1) count step) old next) inv.same.repositories c.in-Ok.ensures.made in
    let db = c.in-Ok.ensures.db in
    record {
      changes = subst (λ (os : List Object). AreChanges repos os more) (sym db) changes.2;
      same = same_join shelf (g.S.Shelf.seen c.loop-at.shelf) (g.S.Shelf.seen c.make.new.shelf) inv.same c.make.ensures.same;
      later = omega (arith, inv.later, c.make.ensures.later);
      names = changes_more repos steps at step c.args.tree.db old.db next.db c.loop-at-test.true c.index-steps-at.is inv.names db;
      run = λ rest before after ending state performs.
          inv.run rest before after ending state
          (subst (λ (l : List (List PlanPart)). Performs tells seen (λ t. steps_run volumes repos (at + 1) count l rest old.db t) 0 old.seen before after ending state) (sym left)
          (on.on (steps_run volumes repos ((at + 1) + 1) count more rest) before after ending state performs));
    }

pub returns-in-Err-clause-acted : goal.returns-in-Err-clause-acted
returns-in-Err-clause-acted g c rest =
    let inv = c.loop-at.invariant in
    let tells = g.S.Shelf.tells && g.H.Host.tells in
    let seen = g.H.Host.seen in
    let shelf = g.S.Shelf.seen c.args.shelf.now in
    let mid = g.S.Shelf.seen c.loop-at.shelf in
    let before = beside_shelf shelf.faults in
    let after = beside_shelf (g.S.Shelf.seen c.make.new.shelf).faults in
    let volumes = shelf.repositories in
    let repos = c.args.repos.now in
    let steps = c.args.steps.now in
    let count = length steps in
    let at = c.loop-at.at in
    let step = c.index-steps-at.result in
    let old = c.loop-at.tree in
    let more = drop (at + 1) steps in
    let ending = c.in-Err.acted.ending in
    let state = c.in-Err.acted.state in
    let onward = steps_run volumes repos ((at + 1) + 1) count more rest in
    let left = steps_from steps at step c.loop-at-test.true c.index-steps-at.is in
    inv.run rest before after ending state
    (subst (λ (l : List (List PlanPart)). Performs tells seen (λ t. steps_run volumes repos (at + 1) count l rest old.db t) 0 old.seen before after ending state) (sym left)
    (performs_sooner tells seen (λ t. coming_step volumes repos (at + 1) count step onward old.db t) old.seen shelf.faults mid.faults after ending state inv.later
    (subst (λ (vs : List Volume). Performs tells seen (λ t. coming_step vs repos (at + 1) count step onward old.db t) 0 old.seen (beside_shelf mid.faults) after ending state) inv.same.repositories
    (c.in-Err.ensures.acted onward))))

pub returns-clause-made : goal.returns-clause-made
returns-clause-made g c =
    let tells = g.S.Shelf.tells && g.H.Host.tells in
    let volumes = (g.S.Shelf.seen c.args.shelf.now).repositories in
    let steps = c.args.steps.now in
    let tree = c.loop-at.tree in
    let none = drop_all c.loop-at.at steps (omega arith) in
    record {
      on = λ rest before after ending state performs.
          c.loop-at.invariant.run rest before after ending state
          (subst (λ (l : List (List PlanPart)). Performs tells g.H.Host.seen (λ t. steps_run volumes c.args.repos.now (c.loop-at.at + 1) (length steps) l rest tree.db t) 0 tree.seen before after ending state) (sym none) performs);
    }

pub returns-clause-changes : goal.returns-clause-changes
returns-clause-changes g c =
    subst (λ (some : List (List PlanPart)). HasChanges c.args.tree.db c.loop-at.tree.db (spoken_in c.args.repos.now some)) (take_all c.loop-at.at c.args.steps.now (omega arith)) c.loop-at.invariant.names
