use Rattle.std.proofs.Common.{List, ℕ, [], ◌∷◌, sym, ◌∙◌}
use Rattle.tl_path.specs.Path.{IsPath}
use Rattle.tl_object.specs.Writing.{path_line}
use Rattle.tl_written.proofs.StandLemmas.{front-start, front-next, front-whole}
use Rattle.tl_written.proofs.LeftLemmas.{rising_left-start, rising_left-next, rising_left-none, rising_left-fails}
use Rattle.tl_written.proofs.PathLemmas.{path_shorter, path_spaced, path_after}
use Rattle.tl_written.proofs.paths.paths_behind.Goals as goal

pub loop-path-init : goal.loop-path-init
loop-path-init c = record {
  found = front-start (λ (path : List ℕ). path) path_line IsPath c.args.text.now [];
  kept = rising_left-start (λ (path : List ℕ). path) path_line IsPath ((32 ∷ []) ∷ []) c.args.text.now path_after;
}

pub loop-path-smaller : goal.loop-path-smaller
loop-path-smaller c = path_shorter c.in-Some.path.now c.loop-path.rest.now c.in-Some.behind.now c.in-Some.ensures.stands

pub loop-path-preserved : goal.loop-path-preserved
loop-path-preserved c = record {
  found = front-next (λ (path : List ℕ). path) path_line IsPath c.args.text.now c.loop-path.rest.now c.in-Some.behind.now c.loop-path.last.now c.in-Some.path.now c.loop-path.invariant.found
      c.in-Some.ensures.stands (sym c.comes_before.ensures ∙ c.if-not-comes_before.false);
  kept = rising_left-next (λ (path : List ℕ). path) path_line IsPath ((32 ∷ []) ∷ []) [] c.args.text.now c.loop-path.rest.now c.in-Some.behind.now c.loop-path.last.now c.in-Some.path.now
      c.loop-path.invariant.kept (λ items rest lacks. tt) (λ rest. path_spaced c.in-Some.path.now c.loop-path.rest.now c.in-Some.behind.now rest c.in-Some.ensures.stands) c.in-Some.ensures.finds;
}

pub returns-then-not-comes_before-clause-finds : goal.returns-then-not-comes_before-clause-finds
returns-then-not-comes_before-clause-finds c =
    rising_left-fails (λ (path : List ℕ). path) path_line IsPath ((32 ∷ []) ∷ []) [] c.args.text.now c.loop-path.rest.now c.in-Some.behind.now c.loop-path.last.now c.in-Some.path.now
    c.loop-path.invariant.kept (λ items rest lacks. tt) (λ rest. path_spaced c.in-Some.path.now c.loop-path.rest.now c.in-Some.behind.now rest c.in-Some.ensures.stands) c.in-Some.ensures.finds
    (sym c.comes_before.ensures ∙ c.if-not-comes_before.true)

pub returns-clause-stands : goal.returns-clause-stands
returns-clause-stands c = front-whole (λ (path : List ℕ). path) path_line IsPath c.args.text.now c.loop-path.rest.now c.loop-path.last.now c.loop-path.invariant.found

pub returns-clause-finds : goal.returns-clause-finds
returns-clause-finds c =
    rising_left-none (λ (path : List ℕ). path) path_line IsPath ((32 ∷ []) ∷ []) [] c.args.text.now c.loop-path.rest.now c.loop-path.last.now c.loop-path.invariant.kept (λ items rest lacks. tt)
    c.in_default.ensures.finds
