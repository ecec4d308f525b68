use Rattle.std.proofs.Common.{ap, arith}
use Rattle.std.specs.Ordering.{is_lt}
use Rattle.std.proofs.lemmas.Cmp.{nat_list_cmp_total}
use Rattle.std.proofs.lemmas.List.Sorted.{ranks_by, answers_always}
use Rattle.tl_entry.proofs.gathered.sort_by_keys.Goals as goal

pub returns : goal.returns
returns g c =
    record {
      same = c.sort_unstable_by.ensures.permutation;
      order = λ k d lt. c.sort_unstable_by.ensures.sorted _ (ranks_by nat_list_cmp_total g.T.Keyed.key) (answers_always _ _ _ (λ f a r f' m. ap is_lt m.met)) k d (omega arith) lt;
    }
