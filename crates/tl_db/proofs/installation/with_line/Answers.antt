use Rattle.std.proofs.Common.{[], arith}
use Rattle.tl_db.proofs.installation.with_line.Goals as goal

pub index_mut-requires : goal.index_mut-requires
index_mut-requires c = omega (arith, (c.in-Some.ensures []).0, c.as_slice.ensures.len)
