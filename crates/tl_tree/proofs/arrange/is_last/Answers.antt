use Rattle.std.proofs.Common.{◌-◌, length, arith, sym, ◌∙◌}
use Rattle.std.specs.Cmp.Lexicographic.{same_text}
use Rattle.tl_tree.proofs.Members.{has_name_at}
use Rattle.tl_tree.proofs.arrange.is_last.Goals as goal

pub returns-in-Some : goal.returns-in-Some
returns-in-Some c same =
    let item = c.in-Some.ensures.item in
    has_name_at c.args.names.now (length c.args.names.now - 1) c.in-Some.last.now c.args.path.now (omega (arith, item.3.0)) (item.1)
    (same_text c.in-Some.last.now c.args.path.now (sym same ∙ c.eq.ensures))
