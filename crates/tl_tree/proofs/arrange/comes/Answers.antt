use Rattle.std.proofs.Common.{◌+◌, ◌-◌, ◌/◌, ℕ, get_or, arith, ap, sym, ◌∙◌}
use Rattle.std.specs.FinMap.{slice_cmp-IsAntisymmetric, nat_cmp-IsAntisymmetric}
use Rattle.tl_tree.specs.declared.arrange.Coming.{Coming}
use Rattle.tl_tree.proofs.Members.{has_file_at}
use Rattle.tl_tree.proofs.arrange.comes.Goals as goal

pub returns-in-Equal : goal.returns-in-Equal
returns-in-Equal c _ =
    let middle : ℕ = c.loop-low.low + (c.loop-low.high - c.loop-low.low) / 2 in
    let file = c.index-writes-middle.result in
    has_file_at c.args.writes.now middle file c.args.path.now (omega arith) c.index-writes-middle.is
    (ap (λ (w : Coming). w.path.now) c.index-writes-middle.is
    ∙ slice_cmp-IsAntisymmetric nat_cmp-IsAntisymmetric (get_or c.args.writes.now middle file).path.now c.args.path.now (sym c.cmp.ensures ∙ c.in-Equal.is))
