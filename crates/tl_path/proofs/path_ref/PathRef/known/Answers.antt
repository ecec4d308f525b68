use Rattle.std.proofs.Common.{◌∙◌}
use Rattle.tl_path.proofs.Form.{path_fault-IsUtf8}
use Rattle.tl_path.proofs.path_ref.PathRef.known.Goals as goal

pub invariant_of-result : goal.invariant_of-result
invariant_of-result c = path_fault-IsUtf8 _ c.utf8.text ∙ c.requires
