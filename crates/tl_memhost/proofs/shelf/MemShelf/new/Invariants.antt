use Rattle.std.proofs.Common.{◌≡◌, ◌++◌, map, Vec}
use Rattle.std.specs.declared.alloc.Global.{Global}
use Rattle.std.specs.Vec.Iter.{into_iter_items}
use Rattle.tl_file.specs.declared.file.FileBytes.{FileBytes}
use Rattle.tl_memhost.specs.Given.{given}
use Rattle.tl_memhost.specs.Shelves.{EachApart}
use Rattle.tl_memhost.proofs.shelf.MemShelf.new.Given as goal

abbrev pub invariant-loop-files : goal.invariant-loop-files
invariant-loop-files l = record {
  made : l.made.items ≡ map (λ (files : Vec FileBytes Global). given files.items) l.yielded;
  apart : EachApart l.yielded;
  split : l.fn.repos.items ≡ l.yielded ++ into_iter_items l.files-iterator;
}
