use Rattle.std.proofs.Common.{◌≡◌, List, ℕ, length, take, drop, subst, sym, rules}
use Rattle.tl_model.specs.Seen.{Told}
use Rattle.tl_repo.specs.Files.{held_by}
use Rattle.tl_repo.proofs.ShelfLemmas.{HasRead, read_start, read_more, same_join}
use Rattle.tl_repo.proofs.file.read_bytes.Goals as goal

pub loop-piece-init : goal.loop-piece-init
loop-piece-init g c =
    subst (λ (l : List ℕ). HasRead g.S.Shelf.tells (g.S.Shelf.seen c.args.shelf.now) (g.S.Shelf.seen c.args.shelf.now) c.args.number c.args.name.now l) (sym c.new-bytes.ensures.items)
    (read_start g.S.Shelf.tells (g.S.Shelf.seen c.args.shelf.now) c.args.number c.args.name.now)

pub returns-in_err-count-clause-same : goal.returns-in_err-count-clause-same
returns-in_err-count-clause-same g c = same_join _ _ _ c.loop-piece.invariant.same c.read.ensures.same

pub returns-in_err-extend_from_slice-clause-same : goal.returns-in_err-extend_from_slice-clause-same
returns-in_err-extend_from_slice-clause-same g c = same_join _ _ _ c.loop-piece.invariant.same c.read.ensures.same

pub loop-piece-preserved : goal.loop-piece-preserved
loop-piece-preserved g c =
    let s = g.S.Shelf.seen in
    let tells = g.S.Shelf.tells in
    let name = c.args.name.now in
    let length_is : c.len-in-loop-piece.result ≡ length c.loop-piece.bytes.items = search rules in
    let piece = take c.in_ok-count.count c.read.new.into in
    let whole = length c.read.new.into in
    let at_place : Told tells (piece ≡ take whole (drop (length c.loop-piece.bytes.items) (held_by (s c.loop-piece.shelf) c.args.number name))) =
    λ t. subst (λ (k : ℕ). piece ≡ take whole (drop k (held_by (s c.loop-piece.shelf) c.args.number name))) length_is (c.in_ok-count.ensures.bytes t) in
    subst (λ (l : List ℕ). HasRead tells (s c.args.shelf.now) (s c.read.new.self) c.args.number name l) (sym (c.in_ok-extend_from_slice.ensures.items))
    (read_more tells (s c.args.shelf.now) (s c.loop-piece.shelf) (s c.read.new.self) c.args.number name c.loop-piece.bytes.items piece whole c.loop-piece.invariant c.read.ensures.same c.read.ensures.cause.later at_place)
