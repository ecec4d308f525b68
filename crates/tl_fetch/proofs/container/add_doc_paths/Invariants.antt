use Rattle.std.proofs.Common.{◌≡◌, ◌++◌, take}
use Rattle.tl_entry.specs.Sections.{paths_of}
use Rattle.tl_fetch.proofs.container.add_doc_paths.Given as goal

abbrev pub invariant-loop-file : goal.invariant-loop-file
invariant-loop-file l = l.out.items ≡ l.fn.out.items ++ paths_of (take l.file-index l.files)
