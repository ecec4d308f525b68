use Rattle.tl_object.proofs.LineLemmas.{quoted-plain}
use Rattle.tl_object.proofs.file.quoted.Goals as goal

pub returns-in-Some-clause-plain : goal.returns-in-Some-clause-plain
returns-in-Some-clause-plain c = quoted-plain c.in-Some.rest.now c.cut_at.result c.cut_at.ensures
