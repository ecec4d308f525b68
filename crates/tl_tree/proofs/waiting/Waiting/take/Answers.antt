use Rattle.std.proofs.Common.{sym, ◌∙◌, ap}
use Rattle.std.specs.FinSet as set
use Rattle.tl_model.specs.Volume.{Names}
use Rattle.tl_tree.proofs.Sets.{contains-set_of, taken_out}
use Rattle.tl_tree.proofs.waiting.Waiting.take.Goals as goal

pub returns-clause-there : goal.returns-clause-there
returns-clause-there c = c.remove.ensures.test ∙ sym (contains-set_of c.self.inside.paths.keys c.args.path.now) ∙ ap (λ (s : Names). set.contains s c.args.path.now) c.self.view_is

pub returns-clause-taken : goal.returns-clause-taken
returns-clause-taken c =
    taken_out c.self.inside.paths.keys c.remove.new.self.keys c.args.path.now c.remove.ensures.updates.0
    ∙ ap (λ (s : Names). set.remove s c.args.path.now) c.self.view_is
