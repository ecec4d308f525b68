use Rattle.tl_path.proofs.Form.{IsPath-IsUtf8}
use Rattle.tl_path.proofs.path_ref.PathRef.of_bytes.Goals as goal

pub text_of-requires : goal.text_of-requires
text_of-requires c = IsPath-IsUtf8 _ c.requires
