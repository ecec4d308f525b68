use Rattle.std.proofs.Common.{◌≡◌, true, sym, rules, arith}
use Rattle.std.proofs.lemmas.Grind.{common_steps}
use Rattle.tl_tree.specs.Changes.{path_of}
use Rattle.tl_publish.specs.Owning.{claims_list}
use Rattle.tl_publish.proofs.OwnLemmas.{any_map_at}
use Rattle.tl_publish.proofs.owning.have_document_in_way.Goals as goal

pub returns-then-claims_list : goal.returns-then-claims_list
returns-then-claims_list c =
    let here : claims_list c.file-item.result.path ≡ true = first_of (search rules, grind (arith, common_steps)) in
    sym (any_map_at claims_list path_of c.args.files.now c.loop-file.file-index c.file-item.result c.loop-file-test.true c.file-item.is here)
