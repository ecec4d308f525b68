use Rattle.std.proofs.Common.{◌≡◌, ◌++◌, map, take}
use Rattle.tl_entry.specs.Sections.{paths_of}
use Rattle.tl_claims.specs.Claims.{claim}
use Rattle.tl_claims.proofs.claims.push_documents.Given as goal

abbrev pub invariant-loop-file : goal.invariant-loop-file
invariant-loop-file l = l.claims.items ≡ l.fn.claims.items ++ map (claim l.number l.by) (paths_of (take l.file-index l.files))
