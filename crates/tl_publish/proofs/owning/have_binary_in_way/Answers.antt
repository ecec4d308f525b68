use Rattle.std.proofs.Common.{sym, ◌∙◌}
use Rattle.tl_publish.specs.Owning.{claims_list}
use Rattle.tl_publish.proofs.OwnLemmas.{any_bins_at}
use Rattle.tl_publish.proofs.owning.have_binary_in_way.Goals as goal

pub returns-then-have_path_in_way : goal.returns-then-have_path_in_way
returns-then-have_path_in_way c =
    sym (any_bins_at claims_list c.args.bins.now c.loop-bin.bin-index c.bin-item.result c.loop-bin-test.true c.bin-item.is (sym c.have_path_in_way.ensures ∙ c.if-have_path_in_way.true))
