use Rattle.std.proofs.Common.{◌∙◌, List, ℕ, ap, drop, arith}
use Rattle.std.specs.List.{flat_map}
use Rattle.std.proofs.lemmas.List.{take_all}
use Rattle.tl_plan.specs.Plans.{is_any_touching}
use Rattle.tl_coming.specs.Parts.{files_with}
use Rattle.tl_coming.proofs.CutLaws.{touching_next, none_last}
use Rattle.tl_coming.proofs.cuts.last_of.Goals as goal

pub loop-path-init : goal.loop-path-init
loop-path-init c db plan are least = none_last db plan least

pub loop-path-preserved : goal.loop-path-preserved
loop-path-preserved c db plan are least =
    touching_next c.args.paths.now c.loop-path.path-index c.path-item.result (flat_map (files_with db) (drop least plan)) c.loop-path.last c.last_touching.result c.max-last.result least
    c.loop-path-test.true c.path-item.is (c.loop-path.invariant db plan are least) (c.last_touching.ensures db plan are least) c.max-last.ensures

pub returns : goal.returns
returns c db plan are least =
    c.loop-path.invariant db plan are least
    ∙ ap (λ (l : List (List ℕ)). is_any_touching l (flat_map (files_with db) (drop least plan)))
    (take_all c.loop-path.path-index c.args.paths.now (let e = c.loop-path-test.false in omega (arith, e)))
