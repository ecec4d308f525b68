use Rattle.std.proofs.Common.{sym, ◌∙◌, ap}
use Rattle.std.specs.FinSet as set
use Rattle.tl_model.specs.Volume.{Names}
use Rattle.tl_tree.proofs.Sets.{contains-set_of}
use Rattle.tl_tree.proofs.waiting.Waiting.has.Goals as goal

pub returns : goal.returns
returns c = c.contains.ensures ∙ sym (contains-set_of c.self.inside.paths.keys c.args.path.now) ∙ ap (λ (s : Names). set.contains s c.args.path.now) c.self.view_is
