use Rattle.std.proofs.Common.{sym, ◌∙◌}
use Rattle.tl_tree.proofs.Owning.{owner_reserved}
use Rattle.tl_tree.proofs.own.owner.Goals as goal

pub returns-then-is_reserved : goal.returns-then-is_reserved
returns-then-is_reserved c = sym (owner_reserved c.args.path.now c.args.db.now (sym c.is_reserved.ensures ∙ c.if-is_reserved.true))
