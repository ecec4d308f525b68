use Rattle.std.proofs.Common.{◌≡◌, ◌<◌, ◌≤◌, ◌^◌, ◌∙◌, ℕ, List, [], length, Option, Some, Err, Result, sym, ap, subst, arith, rules}
use Rattle.std.specs.Option.{option_map, unwrap_or}
use Rattle.tl_model.specs.Devices.{in_repository}
use Rattle.tl_model.specs.Seen.{Told}
use Rattle.tl_model.specs.Volume.{Name, Volume}
use Rattle.tl_entry.specs.Copies.{less_containers}
use Rattle.tl_fetch.specs.Containers.{container_name, part_paths}
use Rattle.tl_fetch.specs.Fetching.{Fetched, TookAll}
use Rattle.tl_repo.specs.Files.{held_by}
use Rattle.tl_fetch.specs.declared.fetch_error.FetchError.{FetchError}
use Rattle.tl_fetch.specs.declared.fetch_error.FetchError.TheVariants.{NoMemory, ShelfFault, SizeDiffers}
use Rattle.tl_fetch.proofs.FetchLemmas.{fetched_unstated, fetched_broken, fetched_short, fetched_whole, some_bytes, there_whole}
use Rattle.tl_fetch.proofs.fetching.fetch_into.Goals as goal

pub returns-in_err-stated-clause-fetched : goal.returns-in_err-stated-clause-fetched
returns-in_err-stated-clause-fetched g c =
    let held = in_repository (g.S.Shelf.seen c.args.shelf.now) c.args.repo.now.number (container_name c.args.repo.now.db c.args.entry.now c.args.part) in
    let sink = g.K.FileSink.seen c.args.sink.now in
    let is : c.from_residual.result ≡ Err c.in_err-stated.field-0.0 = search rules in
    subst (λ (r : Result Unit FetchError). Fetched g.S.Shelf.tells g.K.FileSink.tells held c.args.repo.now.db c.args.entry.now c.args.part sink sink r) (sym is)
    (fetched_unstated g.S.Shelf.tells g.K.FileSink.tells held c.args.repo.now.db c.args.entry.now c.args.part sink sink c.in_err-stated.field-0.0 c.in_err-stated.ensures.err)

pub returns-in_err-name-clause-fetched : goal.returns-in_err-name-clause-fetched
returns-in_err-name-clause-fetched g c =
    let held = in_repository (g.S.Shelf.seen c.args.shelf.now) c.args.repo.now.number (container_name c.args.repo.now.db c.args.entry.now c.args.part) in
    let sink = g.K.FileSink.seen c.args.sink.now in
    let is : c.from_residual-in_err-name.result ≡ Err NoMemory = search rules in
    subst (λ (r : Result Unit FetchError). Fetched g.S.Shelf.tells g.K.FileSink.tells held c.args.repo.now.db c.args.entry.now c.args.part sink sink r) (sym is)
    (fetched_broken g.S.Shelf.tells g.K.FileSink.tells held c.args.repo.now.db c.args.entry.now c.args.part sink sink NoMemory tt)

pub returns-in_err-intake-clause-fetched : goal.returns-in_err-intake-clause-fetched
returns-in_err-intake-clause-fetched g c =
    let held = in_repository (g.S.Shelf.seen c.args.shelf.now) c.args.repo.now.number (container_name c.args.repo.now.db c.args.entry.now c.args.part) in
    let sink = g.K.FileSink.seen c.args.sink.now in
    let is : c.from_residual-in_err-intake.result ≡ Err NoMemory = search rules in
    subst (λ (r : Result Unit FetchError). Fetched g.S.Shelf.tells g.K.FileSink.tells held c.args.repo.now.db c.args.entry.now c.args.part sink sink r) (sym is)
    (fetched_broken g.S.Shelf.tells g.K.FileSink.tells held c.args.repo.now.db c.args.entry.now c.args.part sink sink NoMemory tt)

pub returns-in_err-size-clause-fetched : goal.returns-in_err-size-clause-fetched
returns-in_err-size-clause-fetched g c =
    let held = in_repository (g.S.Shelf.seen c.args.shelf.now) c.args.repo.now.number (container_name c.args.repo.now.db c.args.entry.now c.args.part) in
    let sink = g.K.FileSink.seen c.args.sink.now in
    let is : c.from_residual-in_err-size.result ≡ Err ShelfFault = search rules in
    subst (λ (r : Result Unit FetchError). Fetched g.S.Shelf.tells g.K.FileSink.tells held c.args.repo.now.db c.args.entry.now c.args.part sink sink r) (sym is)
    (fetched_broken g.S.Shelf.tells g.K.FileSink.tells held c.args.repo.now.db c.args.entry.now c.args.part sink sink ShelfFault tt)

pub returns-then-size-want-clause-fetched : goal.returns-then-size-want-clause-fetched
returns-then-size-want-clause-fetched g c =
    let s = g.S.Shelf.seen c.args.shelf.now in
    let cname = container_name c.args.repo.now.db c.args.entry.now c.args.part in
    let held = in_repository s c.args.repo.now.number cname in
    let sink = g.K.FileSink.seen c.args.sink.now in
    let told : Told g.S.Shelf.tells (Some c.in-Some.size ≡ option_map length held) = λ t. sym c.in-Some.is ∙ c.in_ok-size.ensures.length t ∙ ap (λ (n : Name). option_map length (in_repository s c.args.repo.now.number n)) c.in_ok-name.ensures in
    let some = some_bytes g.S.Shelf.tells held c.in-Some.size told in
    fetched_short g.S.Shelf.tells g.K.FileSink.tells held c.args.repo.now.db c.args.entry.now c.args.part sink sink c.in_ok-stated.stated c.in_ok-stated.ensures.ok c.in_ok-name.name c.in_ok-name.ensures
    some.0 c.in-Some.size some.1 c.if-size-want.true some.2

pub take_in-requires-clause-fresh : goal.take_in-requires-clause-fresh
take_in-requires-clause-fresh g c = record {
  entry = less_containers c.args.entry.now;
  paths = part_paths c.args.entry.now c.args.part;
  first = g.K.FileSink.seen c.args.sink.now;
  took = c.in_ok-intake.ensures g.K.FileSink.tells (g.K.FileSink.seen c.args.sink.now) c.requires;
}

pub returns-in_err-got-clause-fetched : goal.returns-in_err-got-clause-fetched
returns-in_err-got-clause-fetched g c =
    let held = in_repository (g.S.Shelf.seen c.args.shelf.now) c.args.repo.now.number (container_name c.args.repo.now.db c.args.entry.now c.args.part) in
    let sink = g.K.FileSink.seen c.args.sink.now in
    let now = g.K.FileSink.seen c.take_in.new.sink in
    let is : c.from_residual-in_err-got.result ≡ Err c.in_err-got.field-0.0 = search rules in
    subst (λ (r : Result Unit FetchError). Fetched g.S.Shelf.tells g.K.FileSink.tells held c.args.repo.now.db c.args.entry.now c.args.part sink now r) (sym is)
    (fetched_broken g.S.Shelf.tells g.K.FileSink.tells held c.args.repo.now.db c.args.entry.now c.args.part sink now c.in_err-got.field-0.0 c.in_err-got.ensures.error)

-- what was taken in, and that it is what the shelf holds
pub returns-then-got-want-clause-fetched : goal.returns-then-got-want-clause-fetched
returns-then-got-want-clause-fetched g c =
    let s = g.S.Shelf.seen c.args.shelf.now in
    let number = c.args.repo.now.number in
    let held = in_repository s number (container_name c.args.repo.now.db c.args.entry.now c.args.part) in
    let sink = g.K.FileSink.seen c.args.sink.now in
    let now = g.K.FileSink.seen c.take_in.new.sink in
    let took = c.in_ok-got.ensures.took (less_containers c.args.entry.now) (part_paths c.args.entry.now c.args.part) sink (c.in_ok-intake.ensures g.K.FileSink.tells sink c.requires) in
    let same : Told g.S.Shelf.tells (Some took.bytes ≡ held) = λ t.
    there_whole held c.in-Some.size took.bytes (sym c.in-Some.is ∙ c.in_ok-size.ensures.length t ∙ ap (λ (n : Name). option_map length (in_repository s number n)) c.in_ok-name.ensures)
    (took.same t ∙ ap (λ (vs : List Volume). held_by (record s { repositories = vs }) number c.in_ok-name.name) c.size.ensures.same.repositories ∙ ap (λ (n : Name). held_by s number n) c.in_ok-name.ensures) in
    fetched_short g.S.Shelf.tells g.K.FileSink.tells held c.args.repo.now.db c.args.entry.now c.args.part sink now c.in_ok-stated.stated c.in_ok-stated.ensures.ok c.in_ok-name.name c.in_ok-name.ensures
    took.bytes c.in_ok-got.got took.counted c.if-got-want.true same

pub returns-clause-fetched : goal.returns-clause-fetched
returns-clause-fetched g c =
    let s = g.S.Shelf.seen c.args.shelf.now in
    let number = c.args.repo.now.number in
    let held = in_repository s number (container_name c.args.repo.now.db c.args.entry.now c.args.part) in
    let sink = g.K.FileSink.seen c.args.sink.now in
    let now = g.K.FileSink.seen c.take_in.new.sink in
    let took = c.in_ok-got.ensures.took (less_containers c.args.entry.now) (part_paths c.args.entry.now c.args.part) sink (c.in_ok-intake.ensures g.K.FileSink.tells sink c.requires) in
    let same : Told g.S.Shelf.tells (Some took.bytes ≡ held) = λ t.
    there_whole held c.in-Some.size took.bytes (sym c.in-Some.is ∙ c.in_ok-size.ensures.length t ∙ ap (λ (n : Name). option_map length (in_repository s number n)) c.in_ok-name.ensures)
    (took.same t ∙ ap (λ (vs : List Volume). held_by (record s { repositories = vs }) number c.in_ok-name.name) c.size.ensures.same.repositories ∙ ap (λ (n : Name). held_by s number n) c.in_ok-name.ensures) in
    let counted : length took.bytes ≡ c.in_ok-stated.stated.size = took.counted ∙ c.if-got-want.false in
    let small : length took.bytes < 2 ^ 64 = omega (arith, counted, c.in_ok-stated.ensures.within) in
    fetched_whole g.S.Shelf.tells g.K.FileSink.tells held c.args.repo.now.db c.args.entry.now c.args.part sink now c.in_ok-stated.stated c.in_ok-stated.ensures.ok c.in_ok-name.name c.in_ok-name.ensures
    took.bytes c.finish.result counted same (c.finish.ensures.gave g.K.FileSink.tells c.args.part sink now took.bytes small took.took)
