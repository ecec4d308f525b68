use Rattle.std.proofs.Common.{rules}
use Rattle.tl_object.proofs.BareLemmas.{paths-bare}
use Rattle.tl_object.proofs.builder.Builder.put_bin.Goals as goal

pub returns : goal.returns
returns c = rw (paths-bare c.args.paths) (search rules)
