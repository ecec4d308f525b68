use Rattle.std.proofs.Common.{rules, tests}
use Rattle.std.proofs.lemmas.List.Sorted.{IsPartitionPoint-from_clause}
use Rattle.tl_index.specs.Fronts.{begins}
use Rattle.tl_index.specs.declared.hit.Hit.{Hit}
use Rattle.tl_index.proofs.FrontLemmas.{front_point, front_part_point}
use Rattle.tl_index.proofs.fronts.count_in_front.Goals as goal

pub returns : goal.returns
returns c = front_part_point c.args.front.now c.args.hits.now _ c.partition_point.ensures.bound
    (IsPartitionPoint-from_clause (λ (h : Hit). begins c.args.front.now h.path) c.args.hits.now _ c.partition_point.ensures.partitioned
    (front_point c.args.front.now c.args.hits.now c.requires.rising c.requires.from) (λ a r q k. search (rules, tests)))
