use Rattle.tl_path.specs.Reserved.{is_reserved, reserved_paths}
use Rattle.tl_path.proofs.below.is_reserved.Goals as goal

pub returns : goal.returns
unfolding is_reserved reserved_paths
returns c = c.touches_any.ensures
