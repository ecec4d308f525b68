use Rattle.std.proofs.Common.{◌≡◌, ◌+◌, [], List, Result, Err, drop, refl, sym, subst, arith, rules}
use Rattle.std.specs.Prelude.{map, IfErr}
use Rattle.std.proofs.lemmas.List.{drop_all, length-map}
use Rattle.tl_model.specs.Volume.{Volume}
use Rattle.tl_repo.proofs.ShelfLemmas.{same_join}
use Rattle.tl_fill.proofs.FetchingLemmas.{IsFetching, fetching_start, fetching_more, fetching_end, halts_among, next_open, wanted_from}
use Rattle.tl_fill.specs.Halts.{HaltsAmong}
use Rattle.tl_fill.specs.declared.halt.Halt.{Halt}
use Rattle.tl_fill.specs.Wanted.{HasFilled, Wanted, wanted_of}
use Rattle.tl_fill.proofs.fetch.fetch_all.Goals as goal

pub loop-fetch-init : goal.loop-fetch-init
loop-fetch-init g c = record {
  fetching = fetching_start g.S.Shelf.tells g.K.FileSink.tells (g.S.Shelf.seen c.args.shelf.now).repositories (map wanted_of c.args.fetches.now) (g.K.FileSink.seen c.args.sink.now) c.requires.whole;
  same = record { repositories = refl; absences = omega arith };
  later = omega arith;
  sink_later = omega arith;
  since = λ first held. held;
}

pub fetch_one-requires : goal.fetch_one-requires
fetch_one-requires g c =
    let all = map wanted_of c.args.fetches.now in
    let volumes = (g.S.Shelf.seen c.args.shelf.now).repositories in
    let first = g.K.FileSink.seen c.args.sink.now in
    let now = g.K.FileSink.seen c.loop-fetch.sink in
    let item = c.fetch-item.result in
    let more = drop (c.loop-fetch.fetch-index + 1) all in
    let so = subst (λ (left : List Wanted). IsFetching g.S.Shelf.tells g.K.FileSink.tells volumes all left first now)
    (wanted_from c.args.fetches.now c.loop-fetch.fetch-index item c.loop-fetch-test.true c.fetch-item.is) c.loop-fetch.invariant.fetching in
    next_open g.S.Shelf.tells g.K.FileSink.tells volumes all first (wanted_of item) more now so c.requires

pub loop-fetch-preserved : goal.loop-fetch-preserved
loop-fetch-preserved g c =
    let inv = c.loop-fetch.invariant in
    let all = map wanted_of c.args.fetches.now in
    let volumes = (g.S.Shelf.seen c.args.shelf.now).repositories in
    let first = g.K.FileSink.seen c.args.sink.now in
    let now = g.K.FileSink.seen c.loop-fetch.sink in
    let new = g.K.FileSink.seen c.fetch_one.new.sink in
    let item = c.fetch-item.result in
    let more = drop (c.loop-fetch.fetch-index + 1) all in
    let so = subst (λ (left : List Wanted). IsFetching g.S.Shelf.tells g.K.FileSink.tells volumes all left first now)
    (wanted_from c.args.fetches.now c.loop-fetch.fetch-index item c.loop-fetch-test.true c.fetch-item.is) inv.fetching in
    record {
      fetching = fetching_more g.S.Shelf.tells g.K.FileSink.tells volumes all first (wanted_of item) more now so new
          (subst (λ (vs : List Volume). HasFilled g.S.Shelf.tells g.K.FileSink.tells vs (wanted_of item) now new) inv.same.repositories c.in_ok-fetch_one.ensures.filled);
      same = same_join (g.S.Shelf.seen c.args.shelf.now) (g.S.Shelf.seen c.loop-fetch.shelf) (g.S.Shelf.seen c.fetch_one.new.shelf) inv.same c.fetch_one.ensures.same;
      later = omega (arith, inv.later, c.fetch_one.ensures.later);
      sink_later = omega (arith, inv.sink_later, c.fetch_one.ensures.sink_later);
      since = λ first held. c.fetch_one.ensures.since first (inv.since first held);
    }

pub returns-clause-filled : goal.returns-clause-filled
returns-clause-filled g c =
    let all = map wanted_of c.args.fetches.now in
    let volumes = (g.S.Shelf.seen c.args.shelf.now).repositories in
    let first = g.K.FileSink.seen c.args.sink.now in
    let now = g.K.FileSink.seen c.loop-fetch.sink in
    let none : drop c.loop-fetch.fetch-index all ≡ [] = drop_all c.loop-fetch.fetch-index all (omega (arith, length-map c.args.fetches.now wanted_of)) in
    fetching_end g.S.Shelf.tells g.K.FileSink.tells volumes all first now
    (subst (λ (left : List Wanted). IsFetching g.S.Shelf.tells g.K.FileSink.tells volumes all left first now) none c.loop-fetch.invariant.fetching)

pub returns-in_err-fetch_one-clause-halted : goal.returns-in_err-fetch_one-clause-halted
returns-in_err-fetch_one-clause-halted g c =
    let inv = c.loop-fetch.invariant in
    let all = map wanted_of c.args.fetches.now in
    let shelf = g.S.Shelf.seen c.args.shelf.now in
    let first = g.K.FileSink.seen c.args.sink.now in
    let now = g.K.FileSink.seen c.loop-fetch.sink in
    let new = g.K.FileSink.seen c.fetch_one.new.sink in
    let item = c.fetch-item.result in
    let more = drop (c.loop-fetch.fetch-index + 1) all in
    let so = subst (λ (left : List Wanted). IsFetching g.S.Shelf.tells g.K.FileSink.tells shelf.repositories all left first now)
    (wanted_from c.args.fetches.now c.loop-fetch.fetch-index item c.loop-fetch-test.true c.fetch-item.is) inv.fetching in
    let halt = c.in_err-fetch_one.field-0.0 in
    let is : c.from_residual.result ≡ Err halt = search rules in
    subst (λ (r : Result Unit Halt). IfErr r (HaltsAmong g.S.Shelf.tells all shelf (g.S.Shelf.seen c.fetch_one.new.shelf) first new)) (sym is)
    (halts_among g.S.Shelf.tells g.K.FileSink.tells shelf.repositories all first (wanted_of item) more now so new (g.S.Shelf.seen c.loop-fetch.shelf) (g.S.Shelf.seen c.fetch_one.new.shelf) halt
    (sym inv.same.repositories) c.in_err-fetch_one.ensures.halted inv.sink_later shelf refl inv.later)
