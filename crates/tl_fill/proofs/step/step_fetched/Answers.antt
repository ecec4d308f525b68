use Rattle.std.proofs.Common.{◌≡◌, ◌≤◌, ◌+◌, ◌&&◌, ℕ, Option, Some, refl, sym, ap, subst, arith}
use Rattle.std.specs.Prelude.{map}
use Rattle.tl_model.specs.Volume.{Volume}
use Rattle.tl_command.specs.Runs.{Run}
use Rattle.tl_command.proofs.Joins.{performs_alone, performs_fewer}
use Rattle.tl_command.proofs.LabelLaws.{ok_weaker}
use Rattle.tl_fill.specs.Filling.{beside_shelf, filling}
use Rattle.tl_fill.specs.StepSinks.{sink_seen}
use Rattle.tl_fill.specs.Wanted.{AreAwaited, wanted_of}
use Rattle.tl_fill.specs.declared.sink.Held.{Held}
use Rattle.tl_fill.specs.declared.sink.Held.TheVariants.{Open}
use Rattle.tl_fill.proofs.EndLemmas.{err_weaker}
use Rattle.tl_fill.proofs.StepLemmas.{awaited_opened, ends_by, filled_begun, fills_held, held_since, opened_from, performs_held, since_begun, told_both, whole_held}
use Rattle.tl_fill.proofs.step.step_fetched.Goals as goal

pub returns-in-Err-clause-acted : goal.returns-in-Err-clause-acted
returns-in-Err-clause-acted g c rest =
    let seen = g.H.Host.seen in
    let old = c.args.tree in
    let shelf = g.S.Shelf.seen c.args.shelf.now in
    let before = beside_shelf shelf.faults in
    let ending = c.in-Err.acted.ending in
    let state = c.in-Err.acted.state in
    let command : Volume → Run = filling shelf.repositories (map wanted_of c.args.fetches.now) old.db c.args.change.now.parts c.args.change.now.label rest in
    performs_fewer (g.S.Shelf.tells && g.H.Host.tells) g.H.Host.tells (λ t. (told_both g.S.Shelf.tells g.H.Host.tells t).1) seen 0 old.seen before before ending state command
    (performs_alone g.H.Host.tells seen 0 old.seen before before ending state command (c.in-Err.ensures.acted _))

pub fetch_all-requires : goal.fetch_all-requires
fetch_all-requires g c =
    let seen = g.H.Host.seen in
    let all = map wanted_of c.args.fetches.now in
    subst (λ (h : Option (Held g.row.H.Denot)). AreAwaited all (sink_seen seen h c.new-sink.result.later)) (sym c.new-sink.ensures.0)
    (subst (λ (n : ℕ). AreAwaited all (sink_seen seen (Some (Open c.in-Ok.step)) n)) (sym c.new-sink.ensures.1)
    (awaited_opened g.S.Shelf.tells g.H.Host.tells (g.S.Shelf.seen c.args.shelf.now).repositories all c.args.change.now.parts c.args.change.now.label c.args.tree c.in-Ok.step c.in-Ok.ensures.opened seen c.requires.later))

pub finish_held-requires : goal.finish_held-requires
finish_held-requires g c =
    let seen = g.H.Host.seen in
    let volumes = (g.S.Shelf.seen c.args.shelf.now).repositories in
    let all = map wanted_of c.args.fetches.now in
    let parts = c.args.change.now.parts in
    let label = c.args.change.now.label in
    let opens = c.in-Ok.ensures.opened in
    let begun = c.new-sink.result in
    let sink = c.fetch_all.new.sink in
    whole_held g.S.Shelf.tells g.H.Host.tells volumes all parts label c.args.tree c.in-Ok.step opens seen sink.later sink.held c.requires.later
    (since_begun g.S.Shelf.tells g.H.Host.tells volumes all parts label c.args.tree c.in-Ok.step opens seen begun.held sink.held begun.later sink.later c.new-sink.ensures.0 c.new-sink.ensures.1 (c.fetch_all.ensures.since begun))
    (filled_begun g.S.Shelf.tells g.H.Host.tells volumes all parts label c.args.tree c.in-Ok.step opens seen begun.held sink.held begun.later sink.later c.new-sink.ensures.0 c.new-sink.ensures.1 c.in-Ok-fetch_all.ensures.filled)

pub end_held-requires-clause-held : goal.end_held-requires-clause-held
end_held-requires-clause-held g c =
    let seen = g.H.Host.seen in
    let volumes = (g.S.Shelf.seen c.args.shelf.now).repositories in
    let all = map wanted_of c.args.fetches.now in
    let parts = c.args.change.now.parts in
    let label = c.args.change.now.label in
    let opens = c.in-Ok.ensures.opened in
    let begun = c.new-sink.result in
    let sink = c.fetch_all.new.sink in
    held_since g.S.Shelf.tells g.H.Host.tells volumes all parts label c.args.tree c.in-Ok.step opens seen sink.held sink.later
    (since_begun g.S.Shelf.tells g.H.Host.tells volumes all parts label c.args.tree c.in-Ok.step opens seen begun.held sink.held begun.later sink.later c.new-sink.ensures.0 c.new-sink.ensures.1 (c.fetch_all.ensures.since begun))

pub returns-in-Ok-fetch_all-clause-made : goal.returns-in-Ok-fetch_all-clause-made
returns-in-Ok-fetch_all-clause-made g c =
    let seen = g.H.Host.seen in
    let volumes = (g.S.Shelf.seen c.args.shelf.now).repositories in
    let all = map wanted_of c.args.fetches.now in
    let parts = c.args.change.now.parts in
    let label = c.args.change.now.label in
    let opens = c.in-Ok.ensures.opened in
    let begun = c.new-sink.result in
    let sink = c.fetch_all.new.sink in
    ok_weaker c.finish_held.result _ _ (λ next finished.
    fills_held g.S.Shelf.tells g.H.Host.tells volumes all parts label c.args.tree c.in-Ok.step opens seen sink.later sink.held next
    (since_begun g.S.Shelf.tells g.H.Host.tells volumes all parts label c.args.tree c.in-Ok.step opens seen begun.held sink.held begun.later sink.later c.new-sink.ensures.0 c.new-sink.ensures.1 (c.fetch_all.ensures.since begun))
    (filled_begun g.S.Shelf.tells g.H.Host.tells volumes all parts label c.args.tree c.in-Ok.step opens seen begun.held sink.held begun.later sink.later c.new-sink.ensures.0 c.new-sink.ensures.1 c.in-Ok-fetch_all.ensures.filled)
    finished) c.finish_held.ensures.made

pub returns-in-Ok-fetch_all-clause-acted : goal.returns-in-Ok-fetch_all-clause-acted
returns-in-Ok-fetch_all-clause-acted g c =
    let seen = g.H.Host.seen in
    let shelf = g.S.Shelf.seen c.args.shelf.now in
    let volumes = shelf.repositories in
    let all = map wanted_of c.args.fetches.now in
    let parts = c.args.change.now.parts in
    let label = c.args.change.now.label in
    let opens = c.in-Ok.ensures.opened in
    let begun = c.new-sink.result in
    let sink = c.fetch_all.new.sink in
    err_weaker c.finish_held.result _ _ (λ acted broken rest.
    performs_held g.S.Shelf.tells g.H.Host.tells volumes all parts label c.args.tree c.in-Ok.step opens seen sink.later sink.held rest
    (beside_shelf shelf.faults) (beside_shelf (g.S.Shelf.seen c.fetch_all.new.shelf).faults) acted.ending acted.state
    (since_begun g.S.Shelf.tells g.H.Host.tells volumes all parts label c.args.tree c.in-Ok.step opens seen begun.held sink.held begun.later sink.later c.new-sink.ensures.0 c.new-sink.ensures.1 (c.fetch_all.ensures.since begun))
    (filled_begun g.S.Shelf.tells g.H.Host.tells volumes all parts label c.args.tree c.in-Ok.step opens seen begun.held sink.held begun.later sink.later c.new-sink.ensures.0 c.new-sink.ensures.1 c.in-Ok-fetch_all.ensures.filled)
    broken) c.finish_held.ensures.lost

pub returns-in-Err-fetch_all-clause-acted : goal.returns-in-Err-fetch_all-clause-acted
returns-in-Err-fetch_all-clause-acted g c rest =
    let seen = g.H.Host.seen in
    let shelf = g.S.Shelf.seen c.args.shelf.now in
    let last = g.S.Shelf.seen c.fetch_all.new.shelf in
    let volumes = shelf.repositories in
    let all = map wanted_of c.args.fetches.now in
    let parts = c.args.change.now.parts in
    let label = c.args.change.now.label in
    let opens = c.in-Ok.ensures.opened in
    let begun = c.new-sink.result in
    let sink = c.fetch_all.new.sink in
    let old = c.args.tree in
    let count : (sink_seen seen begun.held begun.later).faults ≡ c.in-Ok.step.seen.faults + begun.later = ap (λ (h : Option (Held g.row.H.Denot)). (sink_seen seen h begun.later).faults) c.new-sink.ensures.0 in
    let le : old.seen.faults ≤ (sink_seen seen begun.held begun.later).faults = omega (arith, count, opens.later) in
    c.end_held.ensures c.in-Ok.step old.seen (g.S.Shelf.tells && g.H.Host.tells) (filling volumes all old.db parts label rest) (beside_shelf shelf.faults) (beside_shelf last.faults)
    (λ t. (told_both g.S.Shelf.tells g.H.Host.tells t).1)
    (opened_from g.S.Shelf.tells g.H.Host.tells volumes all parts label old c.in-Ok.step opens)
    (since_begun g.S.Shelf.tells g.H.Host.tells volumes all parts label old c.in-Ok.step opens seen begun.held sink.held begun.later sink.later c.new-sink.ensures.0 c.new-sink.ensures.1 (c.fetch_all.ensures.since begun))
    (ends_by g.S.Shelf.tells g.H.Host.tells volumes all parts label old c.in-Ok.step opens shelf last (sink_seen seen begun.held begun.later) (sink_seen seen sink.held sink.later) rest c.in-Err-fetch_all.halt refl c.in-Err-fetch_all.ensures.halted le)
