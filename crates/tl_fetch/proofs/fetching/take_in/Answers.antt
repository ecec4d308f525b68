use Rattle.std.proofs.Common.{◌≡◌, ◌<◌, ◌≤◌, ◌+◌, ◌∙◌, ℕ, List, length, take, drop, refl, sym, ap, subst, arith, rules}
use Rattle.std.proofs.lemmas.List.{length-take}
use Rattle.tl_model.specs.Seen.{Told}
use Rattle.tl_model.specs.Volume.{Volume}
use Rattle.tl_repo.specs.Files.{held_by}
use Rattle.tl_fetch.proofs.FetchLemmas.{IsReading, reading_start, reading_held, reading_more, end_read, all_read}
use Rattle.tl_fetch.proofs.fetching.take_in.Goals as goal
use Rattle.tl_fetch.proofs.fetching.take_in.Goals.{else-loop-done-test, then-loop-done-test+in_ok-count+then-count-eq0}

pub take-requires : goal.take-requires
take-requires g c =
    reading_held g.S.Shelf.tells g.K.FileSink.tells (g.S.Shelf.seen c.args.shelf.now) (g.S.Shelf.seen c.loop-done.shelf) c.args.number c.args.name.now (g.K.FileSink.seen c.args.sink.now) (g.K.FileSink.seen c.loop-done.sink) c.args.intake.now c.loop-done.intake c.loop-done.done
    c.loop-done.invariant.reading c.requires.fresh

pub loop-done-preserved : goal.loop-done-preserved
loop-done-preserved g c = record {
  since = λ first held. c.take.ensures.since first (c.loop-done.invariant.since first held);
  reading =
      let s = g.S.Shelf.seen in
      let k = g.K.FileSink.seen in
      let piece = take c.in_ok-count.count c.read.new.into in
      let counted : length piece ≡ c.in_ok-count.count = omega (arith, length-take c.in_ok-count.count c.read.new.into, c.in_ok-count.ensures.bound) in
      subst (λ (n : ℕ). IsReading g.S.Shelf.tells g.K.FileSink.tells (s c.args.shelf.now) (s c.read.new.self) c.args.number c.args.name.now (k c.args.sink.now) (k c.take.new.sink) c.args.intake.now c.take.new.self (c.loop-done.done + n)) counted
      (reading_more g.S.Shelf.tells g.K.FileSink.tells (s c.args.shelf.now) (s c.loop-done.shelf) (s c.read.new.self) c.args.number c.args.name.now (k c.args.sink.now) (k c.loop-done.sink) (k c.take.new.sink) c.args.intake.now c.loop-done.intake c.take.new.self c.loop-done.done piece (length c.read.new.into)
      c.loop-done.invariant.reading c.read.ensures.same c.read.ensures.cause.later (λ t. c.in_ok-count.ensures.bytes t) c.take.ensures.cause.later c.in_ok-take.ensures.took);
}

pub returns-clause-took : goal.returns-clause-took
returns-clause-took g c entry paths first begun =
    let inv = c.loop-done.invariant.reading in
    let held = held_by (g.S.Shelf.seen c.args.shelf.now) c.args.number c.args.name.now in
    let all : Told g.S.Shelf.tells (inv.bytes ≡ held) = λ t. elim c.loop-done-test.branch [
      | else-loop-done-test w ↦ end_read held inv.bytes (inv.has_read.front t) (omega (arith, w.loop-done-test.false, inv.counted, c.requires.size t))
      | then-loop-done-test+in_ok-count+then-count-eq0 w ↦
          let wide : length w.read.new.into ≡ 65536 = search rules in
          let same : held_by (g.S.Shelf.seen c.loop-done.shelf) c.args.number c.args.name.now ≡ held = ap (λ (vs : List Volume). held_by (record (g.S.Shelf.seen c.args.shelf.now) { repositories = vs }) c.args.number c.args.name.now) inv.has_read.same.repositories in
          all_read held inv.bytes 65536 w.in_ok-count.count (inv.has_read.front t) (omega arith)
          (w.in_ok-count.ensures.count t ∙ ap (λ (n : ℕ). length (take n (drop c.loop-done.done (held_by (g.S.Shelf.seen c.loop-done.shelf) c.args.number c.args.name.now)))) wide
          ∙ ap (λ (l : List ℕ). length (take 65536 (drop c.loop-done.done l))) same ∙ ap (λ (n : ℕ). length (take 65536 (drop n held))) (sym inv.counted))
          w.if-count-eq0.true
    ] in
    record {
      bytes = inv.bytes;
      counted = inv.counted;
      same = all;
      took = inv.took entry paths first begun;
    }
