use Rattle.std.proofs.Common.{◌≡◌, ◌<◌, ℕ, List, subst, sym, ap, length, ◌∙◌, arith}
use Rattle.tl_index.proofs.SelectLemmas.{walked_step, walked_tick, walked_done, tick_all, entry_of, all_within}
use Rattle.tl_index.proofs.index.Index.apply_all.Goals as goal

pub returns-in_err-is_hit-clause-ticks : goal.returns-in_err-is_hit-clause-ticks
returns-in_err-is_hit-clause-ticks g c =
    let pattern = c.args.placed.now.pattern in
    let now = c.args.self.now in
    let place = c.loop-place.place in
    let entry = entry_of c.self.inside.entries.items now place c.index.result.now c.self.view_is (omega arith) c.index.ensures in
    let tick = tick_all pattern c.index.result.now.path (g.L.Ledger.count c.loop-place.steps) (g.L.Ledger.count c.matches_re.new.steps) c.requires c.matches_re.ensures.tick in
    walked_tick pattern c.args.placed.now.positive now 0 place c.index.result.now.path c.args.places.now c.loop-place.places _ _ _ entry tick c.loop-place.invariant.walked

pub returns-in_err-set_if-clause-ticks : goal.returns-in_err-set_if-clause-ticks
returns-in_err-set_if-clause-ticks g c =
    let pattern = c.args.placed.now.pattern in
    let now = c.args.self.now in
    let place = c.loop-place.place in
    let entry = entry_of c.self.inside.entries.items now place c.index.result.now c.self.view_is (omega arith) c.index.ensures in
    let tick = tick_all pattern c.index.result.now.path (g.L.Ledger.count c.loop-place.steps) (g.L.Ledger.count c.matches_re.new.steps) c.requires c.matches_re.ensures.tick in
    walked_tick pattern c.args.placed.now.positive now 0 place c.index.result.now.path c.args.places.now c.loop-place.places _ _ _ entry tick c.loop-place.invariant.walked

pub loop-place-preserved : goal.loop-place-preserved
loop-place-preserved g c =
    let pattern = c.args.placed.now.pattern in
    let now = c.args.self.now in
    let place = c.loop-place.place in
    let entry = entry_of c.self.inside.entries.items now place c.index.result.now c.self.view_is (omega arith) c.index.ensures in
    let tick = tick_all pattern c.index.result.now.path (g.L.Ledger.count c.loop-place.steps) (g.L.Ledger.count c.matches_re.new.steps) c.requires c.matches_re.ensures.tick in
    record {
      walked = walked_step pattern c.args.placed.now.positive now 0 place c.index.result.now.path c.args.places.now c.loop-place.places c.set_if.new.self _ _ _ c.in_ok-is_hit.is_hit
          entry c.in_ok-is_hit.ensures.hit c.in_ok-set_if.ensures tick c.loop-place.invariant.walked;
      matcher = c.matches_re.ensures.matcher ∙ c.loop-place.invariant.matcher;
    }

pub returns-clause-applied : goal.returns-clause-applied
returns-clause-applied g c =
    let now = c.args.self.now in
    let same : length c.self.inside.entries.items ≡ length now = ap length c.self.view_is in
    walked_done c.args.placed.now.pattern c.args.placed.now.positive now 0 c.loop-place.place c.args.places.now c.loop-place.places _ _
    (λ i d lt hit. all_within c.loop-place.place i (omega (arith, lt, same))) c.loop-place.invariant.walked
