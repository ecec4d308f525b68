use Rattle.std.proofs.Common.{map}
use Rattle.tl_object.specs.Steps.{bare}
use Rattle.tl_object.proofs.read.read_group.Goals as goal

pub returns-in_ok-put_bin-in-Binfiles-clause-read : goal.returns-in_ok-put_bin-in-Binfiles-clause-read
returns-in_ok-put_bin-in-Binfiles-clause-read c = (
  map bare c.in_ok-section-in-Binfiles.section.files,
  rw c.in-Binfiles.is c.in_ok-put_bin-in-Binfiles.ensures,
  rw c.in-Binfiles.is c.in_ok-section-in-Binfiles.ensures.read,
)
