use Rattle.std.proofs.Common.{◌≡◌, ◌<◌, ◌++◌, length, vec_len}
use Rattle.std.specs.List.{flat_map}
use Rattle.tl_par.proofs.parts.in_pieces.Given as goal

abbrev pub invariant-loop : goal.invariant-loop
invariant-loop g l = record {
  all : flat_map (λ piece. piece.now) l.pieces.items ++ l.rest ≡ l.fn.items;
  works : length l.rest_works ≡ length l.rest;
  count : vec_len l.pieces < l.counter;
}
