use Rattle.std.proofs.Common.{◌≡◌, ◌++◌, true, is_ok}
use Rattle.std.specs.List.{flat_map, list_all}
use Rattle.std.specs.Vec.Iter.{into_iter_items}
use Rattle.tl_par.specs.Parts.{held}
use Rattle.tl_par.proofs.parts.in_one.Given as goal

abbrev pub invariant-loop-part : goal.invariant-loop-part
invariant-loop-part g l = record {
  all : l.all.items ≡ flat_map (held (λ part. part.items)) l.yielded;
  ok : list_all is_ok l.yielded ≡ true;
  split : l.fn.parts.items ≡ l.yielded ++ into_iter_items l.part-iterator;
}
