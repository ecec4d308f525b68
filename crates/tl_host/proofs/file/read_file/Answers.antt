use Rattle.tl_model.specs.Pictures.{quiet_join}
use Rattle.tl_host.proofs.file.read_file.Goals as goal

pub returns-in_err-read_bytes-in-Some-2-clause-same : goal.returns-in_err-read_bytes-in-Some-2-clause-same
returns-in_err-read_bytes-in-Some-2-clause-same g c t = quiet_join _ _ _ (c.size.ensures.same t) (c.read_bytes.ensures.same t)

pub returns-in_ok-read_bytes-in-Some-2-clause-same : goal.returns-in_ok-read_bytes-in-Some-2-clause-same
returns-in_ok-read_bytes-in-Some-2-clause-same g c t = quiet_join _ _ _ (c.size.ensures.same t) (c.read_bytes.ensures.same t)
