use Rattle.std.proofs.Common.{sym, ◌∙◌}
use Rattle.std.specs.Cmp.Lexicographic.{other_text}
use Rattle.tl_tree_trials.proofs.agreed.names_differ.Goals as goal

pub returns : goal.returns
returns g c = other_text c.args.one.now c.args.other.now (sym c.if-eq.false ∙ c.eq.ensures)
