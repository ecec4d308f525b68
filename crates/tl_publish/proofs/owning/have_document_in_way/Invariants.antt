use Rattle.std.proofs.Common.{◌≡◌, false, take}
use Rattle.std.specs.Prelude.{map}
use Rattle.std.specs.List.{list_any}
use Rattle.tl_tree.specs.Changes.{path_of}
use Rattle.tl_publish.specs.Owning.{claims_list}
use Rattle.tl_publish.proofs.owning.have_document_in_way.Given as goal

abbrev pub invariant-loop-file : goal.invariant-loop-file
invariant-loop-file l = list_any claims_list (map path_of (take l.file-index l.files)) ≡ false
