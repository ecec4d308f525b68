use Rattle.std.proofs.Common.{◌≡◌, ◌++◌}
use Rattle.std.specs.Vec.Iter.{into_iter_items}
use Rattle.tl_memhost.specs.Given.{given, AreApart}
use Rattle.tl_memhost.proofs.given.files_of.Given as goal

abbrev pub invariant-loop-file : goal.invariant-loop-file
invariant-loop-file l = record {
  made : l.made ≡ given l.yielded;
  apart : AreApart l.yielded;
  split : l.fn.files.items ≡ l.yielded ++ into_iter_items l.file-iterator;
}
